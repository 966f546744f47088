-- `cash_flow::nearest_whole` meets its contract: laws of Whole.
use native.Mathlib.Omega.{arith}
use Prim.Native.Nat.{◌+◌, ◌-◌, ◌^◌}
use Rattle.cash_flow.proofs.round.Whole.{whole-none, whole-some, whole-most}
use Rattle.cash_flow.proofs.round.nearest_whole.Goals as goal

pub returns-then-field-lt1022 : goal.returns-then-field-lt1022
returns-then-field-lt1022 c = (whole-none c.args.field c.args.mantissa c.if-field-lt1022.true c.requires.mantissa_bound, omega arith)

pub overflow_add-result-2 : goal.overflow_add-result-2
overflow_add-result-2 c = record { fits = omega (arith, whole-most (4503599627370496 + c.args.mantissa) (2 ^ (1074 - c.args.field)) (omega arith)) }

pub returns : goal.returns
returns c = (
  whole-some c.args.field c.args.mantissa (omega arith) c.requires.field_bound,
  omega (arith, whole-most (4503599627370496 + c.args.mantissa) (2 ^ (1074 - c.args.field)) (omega arith)),
)
