-- `bit_fields::read_field` meets its contract: one part, or two.
use mathlib.Core.Path.{refl}
use native.Mathlib.Omega.{arith}
use Rattle.bit_fields.proofs.Bits.{high_below, two_below, two_parts}
use Rattle.bit_fields.proofs.read_field.Goals as goal

pub overflow_mul-result : goal.overflow_mul-result
overflow_mul-result c = record { fits = omega (arith, high_below c.args.s.now c.args.at c.args.width _ _ c.read_part-2.ensures refl (omega arith) c.requires.0 c.requires.2) }

pub overflow_add-result : goal.overflow_add-result
overflow_add-result c = record { fits = two_below c.args.s.now c.args.at c.args.width _ _ c.read_part-2.ensures c.read_part-3.ensures (omega arith) c.requires.0 c.requires.2 }

pub returns : goal.returns
returns c = two_parts c.args.s.now c.args.at c.args.width _ _ c.read_part-2.ensures c.read_part-3.ensures (omega arith) c.requires.0 c.requires.2
