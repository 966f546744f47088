-- `decimal::half_even` meets its contract: each `return` is a case of the rounding. Laws of Halves.
use native.Mathlib.Omega.{arith}
use lib.Pow.{shr_le}
use Rattle.decimal.proofs.float.Halves.{far, back_most, rounds_down, rounds_up, rounds_even}
use Rattle.decimal.proofs.float.half_even.Goals as goal

pub returns-then-p-ge64 : goal.returns-then-p-ge64
returns-then-p-ge64 c = far _ _ c.requires c.if-p-ge64.true

pub overflow_sub-rest : goal.overflow_sub-rest
overflow_sub-rest c = back_most _ _ c.requires

pub returns-then-rest-unit : goal.returns-then-rest-unit
returns-then-rest-unit c = rounds_down _ _ c.requires (omega arith) c.if-rest-unit.true

pub overflow_add-result : goal.overflow_add-result
overflow_add-result c = record { fits = omega (arith, shr_le c.args.n c.args.p, c.requires) }

pub returns-then-unit-rest : goal.returns-then-unit-rest
returns-then-unit-rest c = rounds_up _ _ c.requires (omega arith) c.if-unit-rest.true

pub overflow_add-result-2 : goal.overflow_add-result-2
overflow_add-result-2 c = record { fits = omega (arith, shr_le c.args.n c.args.p, c.requires) }

pub returns : goal.returns
returns c = rounds_even _ _ c.requires (omega arith) c.if-rest-unit.false c.if-unit-rest.false
