-- `days_later` meets its contract: the serial day is moved, and its date taken.
use Rattle.std.proofs.Common.{◌≡◌, sym, ◌∙◌, ap, ap₂, ℕ, suc, ◌-◌, ◌≤◌, arith, ℤ, pos, ◌+ℤ◌, add-one}
use mir.Facts.{to_z-of_z}
use Rattle.outcome.specs.Outcome.{Outcome, given, and_then}
use Rattle.outcome.proofs.Refusals.{handed_on}
use Rattle.calendar.specs.dates.Dates.{day_number, the_date}
use Rattle.calendar.specs.declared.dates.Date.{Date}
use Rattle.calendar.proofs.dates.Dates.{IsDate, date-yes, number-from, number-to}
use Rattle.date_step.specs.Steps.{from_zero_to}
use Rattle.date_step.proofs.Steps.{landed, days-from_zero}
use Rattle.date_step.proofs.days_later.Goals as goal
use Rattle.date_step.proofs.days_later.Goals.{Start, In_ok-i}

-- the date of a day counted from 0
abbrev on : ℕ → Outcome Date
on i = given (the_date (suc i))

-- where the move leads, told of the date
told : (t : Date) (n z : ℤ) (k : ℕ) → k ≡ day_number t → z ≡ n → from_zero_to 3652058 (pos (k - 1) +ℤ z) ≡ from_zero_to 3652058 (pos (day_number t - 1) +ℤ n)
told t n z k e f = ap₂ (λ (j : ℕ) (x : ℤ). from_zero_to 3652058 (pos (j - 1) +ℤ x)) e f

dated : (c : Start) → IsDate c.args.t
dated c = date-yes c.args.t c.requires.0

-- the number reached lies in the calendar
reached : (c : In_ok-i) → c.in_ok-i.i ≤ 3652058
reached c = (landed 3652058 _ _ (sym c.in_ok-i.ensures)).1

pub day_of_date-requires : goal.day_of_date-requires
day_of_date-requires c = c.requires.0

pub overflow_sub-day_of_date : goal.overflow_sub-day_of_date
overflow_sub-day_of_date c = omega (arith, c.day_of_date.ensures, number-from c.args.t (dated c.before))

pub moved-requires : goal.moved-requires
moved-requires c = (omega (arith, c.day_of_date.ensures, number-to c.args.t (dated c.before)), omega arith, rw (to_z-of_z c.ranges.n) c.requires.1)

pub overflow_add-i : goal.overflow_add-i
overflow_add-i c = omega (arith, reached c)

pub date_of_day-requires : goal.date_of_day-requires
date_of_day-requires c = (omega arith, omega (arith, reached c))

pub returns : goal.returns
returns c =
    ap {B = Outcome Date} given (c.date_of_day.ensures ∙ ap the_date (add-one c.in_ok-i.i))
    ∙ ap (λ (o : Outcome ℕ). and_then o on) (c.in_ok-i.ensures ∙ told c.args.t c.args.n _ _ c.day_of_date.ensures (to_z-of_z c.ranges.n))
    ∙ days-from_zero c.args.t c.args.n (number-from c.args.t (date-yes c.args.t c.requires.0))

pub returns-in_err-i : goal.returns-in_err-i
returns-in_err-i c =
    handed_on _ _ on c.from_residual.ensures.1 (c.in_err-i.ensures ∙ told c.args.t c.args.n _ _ c.day_of_date.ensures (to_z-of_z c.ranges.n))
    ∙ days-from_zero c.args.t c.args.n (number-from c.args.t (date-yes c.args.t c.requires.0))
