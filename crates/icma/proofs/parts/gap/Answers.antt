-- `icma::gap` meets its contract: both days are small, so their difference is taken whole.
use Prim.Native.Nat.{ℕ, ◌^◌, ◌<◌}
use mathlib.Core.Path.{◌≡◌, ◌∙◌, ap₂}
use mathlib.Core.Bool.{true}
use native.Mathlib.Omega.{arith}
use lib.IntN.{pos, ◌-ℤ◌}
use Rattle.rounding.proofs.Difference.{gap_fits, gap_is}
use Rattle.calendar.specs.dates.Dates.{is_date, day_number}
use Rattle.calendar.specs.declared.dates.Date.{Date}
use Rattle.calendar.proofs.dates.Dates.{date-yes, number-to}
use Rattle.icma.proofs.parts.gap.Goals as goal

small : (t : Date) (n : ℕ) → is_date t ≡ true → n ≡ day_number t → n < 2 ^ 31
small t n d e = omega (arith, number-to t (date-yes t d))

pub overflow_cast-result : goal.overflow_cast-result
overflow_cast-result c = record { sfits = small c.args.later c.day_of_date.result c.requires.0 c.day_of_date.ensures }

pub overflow_cast-result-2 : goal.overflow_cast-result-2
overflow_cast-result-2 c = record { sfits = small c.args.earlier c.day_of_date-2.result c.requires.1 c.day_of_date-2.ensures }

pub overflow_sub-result : goal.overflow_sub-result
overflow_sub-result c = gap_fits _ _ (small c.args.later c.day_of_date.result c.requires.0 c.day_of_date.ensures) (small c.args.earlier c.day_of_date-2.result c.requires.1 c.day_of_date-2.ensures)

pub returns : goal.returns
returns c = gap_is _ _ (small c.args.later c.day_of_date.result c.requires.0 c.day_of_date.ensures) (small c.args.earlier c.day_of_date-2.result c.requires.1 c.day_of_date-2.ensures) ∙ ap₂ (λ (a b : ℕ). pos a -ℤ pos b) c.day_of_date.ensures c.day_of_date-2.ensures
