-- `months_later` meets its contract: the month's number is moved, and the day cut.
use Rattle.std.proofs.Common.{◌≡◌, sym, ◌∙◌, ap, ℕ, arith, ℤ, pos, ◌+ℤ◌}
use Rattle.outcome.specs.Outcome.{Outcome, given, and_then}
use Rattle.outcome.proofs.Numbers.{widened, wide_fits}
use Rattle.outcome.proofs.Refusals.{handed_on}
use Rattle.calendar.specs.dates.Dates.{month_index, month_date}
use Rattle.calendar.specs.declared.dates.Date.{Date}
use Rattle.calendar.proofs.dates.Dates.{IsDate, date-yes}
use Rattle.date_step.specs.Steps.{from_zero_to, months_later}
use Rattle.date_step.proofs.Landing.{wide_short}
use Rattle.date_step.proofs.Steps.{landed}
use Rattle.date_step.proofs.months_later.Goals as goal
use Rattle.date_step.proofs.months_later.Goals.{Start, In_ok-i}

-- the bounds of the date
dated : (c : Start) → IsDate c.args.t
dated c = date-yes c.args.t c.requires

-- the number reached
reached : (c : In_ok-i) → given c.in_ok-i.i ≡ from_zero_to 119987 (pos (month_index c.args.t) +ℤ c.args.n)
reached c =
    c.in_ok-i.ensures ∙ ap (λ (z : ℤ). from_zero_to 119987 (pos (month_index c.args.t) +ℤ z)) (widened c.args.n c.ranges.n)

pub overflow_sub-index : goal.overflow_sub-index
overflow_sub-index c = (dated c.before).year_from

pub overflow_mul-index : goal.overflow_mul-index
overflow_mul-index c = let h = dated c.before in omega (arith, h.year_to)

pub overflow_sub-index-2 : goal.overflow_sub-index-2
overflow_sub-index-2 c = (dated c.before.before).month_from

pub overflow_add-index : goal.overflow_add-index
overflow_add-index c = let h = dated c.before.before in omega (arith, h.year_to, h.month_to)

pub overflow_cast-n : goal.overflow_cast-n
overflow_cast-n c = wide_fits _ c.ranges.n

pub moved-requires : goal.moved-requires
moved-requires c =
    let h = dated c.before.before in
    (omega (arith, h.year_to, h.month_to), omega arith, wide_short _ c.ranges.n)

pub in_month-requires : goal.in_month-requires
in_month-requires c = (landed 119987 _ c.in_ok-i.i (sym (reached c))).1

pub returns : goal.returns
unfolding months_later
returns c = ap {B = Outcome Date} given c.in_month.ensures ∙ ap (λ (o : Outcome ℕ). and_then o (λ i. given (month_date i c.args.t.day))) (reached c.before)

pub returns-in_err-i : goal.returns-in_err-i
unfolding months_later
returns-in_err-i c = handed_on _ _ (λ i. given (month_date i c.args.t.day)) c.from_residual.ensures.1 (c.in_err-i.ensures ∙ ap (λ (z : ℤ). from_zero_to 119987 (pos (month_index c.args.t) +ℤ z)) (widened c.args.n c.ranges.n))
