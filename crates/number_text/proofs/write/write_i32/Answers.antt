-- With room all is written, and without it nothing: laws of Writers.
use native.Mathlib.Omega.{arith}
use mir.Facts.{to_z-of_z}
use mir.Syntax.{w32}
use Rattle.std.proofs.Common.{rules}
use Rattle.number_text.proofs.write.Writers.{written_by, written_refused}
use Rattle.number_text.proofs.write.write_i32.Goals as goal

pub returns-then-out-signed_length : goal.returns-then-out-signed_length
returns-then-out-signed_length c = let e = rw (to_z-of_z {w = w32} c.ranges.n) at c.signed_length.ensures in written_refused _ _ (omega arith)

pub returns : goal.returns
returns c = let e = rw (to_z-of_z {w = w32} c.ranges.n) at c.signed_length.ensures in written_by _ _ _ _ _ c.new-w.ensures.bytes c.new-w.ensures.at (rw (to_z-of_z {w = w32} c.ranges.n) at c.put_signed.ensures) (omega arith) (search rules)
