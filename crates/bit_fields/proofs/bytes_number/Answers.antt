-- `bit_fields::bytes_number` meets its contract: after each turn n is the number in the bytes so
-- far.
use mathlib.Core.Path.{refl}
use native.Mathlib.Omega.{arith}
use Rattle.bit_fields.specs.Bits.{fields_bits, continued_bits, bits_of}
use Rattle.bit_fields.proofs.Bits.{bytes_small, bytes_more}
use Rattle.bit_fields.proofs.bytes_number.Goals as goal

pub loop-b-init : goal.loop-b-init
unfolding bits_of fields_bits continued_bits
loop-b-init _ = refl

pub overflow_mul-n : goal.overflow_mul-n
overflow_mul-n c = let l = c.loop-b in record { fits = omega (arith, bytes_small c.args.s.now l.b-index l.n l.invariant (omega arith) (omega arith)) }

pub overflow_add-n : goal.overflow_add-n
overflow_add-n c =
    let l = c.loop-b in
    record { fits = omega (arith, bytes_small c.args.s.now l.b-index l.n l.invariant (omega arith) (omega arith), c.type_inv.s l.b-index) }

pub loop-b-preserved : goal.loop-b-preserved
loop-b-preserved c =
    let l = c.loop-b in
    bytes_more c.args.s.now l.b-index l.n c.from.result (omega arith) l.invariant c.from.ensures (omega (arith, c.type_inv.s l.b-index))
