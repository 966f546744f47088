-- `years_later` meets its contract: the year is moved, and the date is one or not.
use Rattle.std.proofs.Common.{◌∙◌, ap, ℕ, arith, ℤ, pos, ◌+ℤ◌}
use Rattle.outcome.specs.Outcome.{Outcome, and_then}
use Rattle.outcome.proofs.Numbers.{widened, wide_fits}
use Rattle.outcome.proofs.Refusals.{handed_on}
use Rattle.calendar.specs.declared.dates.Date.{Date}
use Rattle.calendar.proofs.dates.Dates.{date-yes}
use Rattle.date_step.specs.Steps.{from_zero_to, existing_date, years_later}
use Rattle.date_step.proofs.Landing.{wide_short}
use Rattle.date_step.proofs.years_later.Goals as goal

-- the same month and day of a year
abbrev on : Date → ℕ → Outcome Date
on t y = existing_date (record { year = y; month = t.month; day = t.day })

pub overflow_cast-n : goal.overflow_cast-n
overflow_cast-n c = wide_fits _ c.ranges.n

pub moved-requires : goal.moved-requires
moved-requires c =
    let h = date-yes c.args.t c.requires in
    (omega (arith, h.year_to), omega arith, wide_short _ c.ranges.n)

pub returns : goal.returns
unfolding years_later
returns c = c.existing.ensures ∙ ap (λ (o : Outcome ℕ). and_then o (on c.args.t)) (c.in_ok-year.ensures ∙ ap (λ (z : ℤ). from_zero_to 9999 (pos c.args.t.year +ℤ z)) (widened c.args.n c.ranges.n))

pub returns-in_err-year : goal.returns-in_err-year
unfolding years_later
returns-in_err-year c = handed_on _ _ (on c.args.t) c.from_residual.ensures.1 (c.in_err-year.ensures ∙ ap (λ (z : ℤ). from_zero_to 9999 (pos c.args.t.year +ℤ z)) (widened c.args.n c.ranges.n))
