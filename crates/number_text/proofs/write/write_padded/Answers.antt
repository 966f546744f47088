-- With room all is written, and without it nothing: laws of Writers.
use native.Mathlib.Omega.{arith}
use lib.ListN.{length}
use mathlib.Core.Path.{ap}
use Rattle.std.proofs.Common.{rules}
use Rattle.number_text.proofs.length.Digits.{length_digits}
use Rattle.number_text.proofs.write.Putting.{puts_is}
use Rattle.number_text.proofs.write.Writers.{padded_digits, written_by, written_refused}
use Rattle.number_text.proofs.write.write_padded.Goals as goal

pub returns-then-out-k : goal.returns-then-out-k
returns-then-out-k c = written_refused _ _ (rw (← c.from-n.ensures) (omega (arith, c.padded_length-k.ensures)))

pub put_digits-requires : goal.put_digits-requires
put_digits-requires c = omega (arith, c.new-w.ensures.at, ap length c.new-w.ensures.bytes, length_digits c.padded_length-k.result c.from-n.result)

pub returns : goal.returns
returns c = rw (← c.from-n.ensures) (written_by _ _ _ _ _ c.new-w.ensures.bytes c.new-w.ensures.at (puts_is _ _ _ _ c.put_digits.ensures (padded_digits _ _ _ c.padded_length-k.ensures)) (omega (arith, c.padded_length-k.ensures)) (search rules))
