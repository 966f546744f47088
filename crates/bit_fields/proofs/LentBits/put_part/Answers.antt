-- `LentBits::put_part` meets its contract: the bits at hand and the field's go out as whole bytes,
-- and fewer than eight stay.
use mathlib.Core.Path.{refl}
use native.Mathlib.Omega.{arith}
use Rattle.bit_fields.proofs.BitWriters.{flushed_none, flushed_byte, flushed_more, gathered_below, gathered_fits, field_put}
use Rattle.bit_fields.proofs.LentBits.put_part.Goals as goal

pub overflow_mul-bits : goal.overflow_mul-bits
overflow_mul-bits c =
    let a = c.args in
    record { fits = omega (arith, gathered_fits a.self.now.writer a.width a.x _ c.requires.0 c.requires.1 c.power_of_two.ensures) }

pub overflow_add-bits : goal.overflow_add-bits
overflow_add-bits c =
    let a = c.args in
    record { fits = gathered_fits a.self.now.writer a.width a.x _ c.requires.0 c.requires.1 c.power_of_two.ensures }

pub overflow_cast-self : goal.overflow_cast-self
overflow_cast-self c = record { fits = flushed_byte c.loop-count.invariant.1 (omega arith) }

pub loop-count-init : goal.loop-count-init
loop-count-init c =
    let a = c.args in
    let p = a.self.now in
    let pre = c.requires in
    (refl, flushed_none p.out.now p.writer.place _ _ (omega (arith, p.writer.part_of_a_byte)) (gathered_below p.writer a.width a.x _ pre.0 pre.1 c.power_of_two.ensures) (omega arith))

pub loop-count-preserved : goal.loop-count-preserved
loop-count-preserved c = (c.loop-count.invariant.0, flushed_more c.loop-count.invariant.1 (omega arith) _ _ refl (rw c.power_of_two-bits.ensures))

pub returns : goal.returns
returns c = field_put c.args.self.now c.args.width c.args.x _ c.requires.0 c.requires.1 c.power_of_two.ensures _ c.loop-count.invariant.0 c.loop-count.invariant.1
