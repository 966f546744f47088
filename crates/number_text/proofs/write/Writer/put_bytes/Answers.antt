-- The loop keeps: from its place on the bytes are those of s; and then a part is replaced. Laws of
-- Putting.
use native.Mathlib.Omega.{arith}
use mathlib.Core.Path.{◌≡◌, refl}
use lib.ListN.{length-set}
use Rattle.number_text.proofs.write.Putting.{puts_part, copied_less}
use Rattle.number_text.proofs.write.Writer.put_bytes.Goals as goal

pub loop-i-preserved : goal.loop-i-preserved
loop-i-preserved c = (simp length-set c.loop-i.invariant.0, copied_less _ c.args.s.now c.loop-i.i c.loop-i.invariant.0 c.loop-i.invariant.1 (omega arith) (omega arith))

pub returns : goal.returns
returns c =
    let first : c.loop-i.i ≡ 0 = omega arith in
    puts_part _ _ _ _ _ c.requires (rw (first) at c.loop-i.invariant.1) (omega arith) refl
