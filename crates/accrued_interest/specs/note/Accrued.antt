-- Accrued interest on one note: its refusals in their order, its f64, and its exact value. What
-- accrues in one period is that of `accrued_interest`.
use Rattle.std.specs.Prelude.{◌≤◌, ◌≡◌, Bool, true, Float, Result}
use Rattle.outcome.specs.Outcome.{Outcome, given, unless, and_then, pick, both}
use Rattle.outcome.specs.Refusals.{outcome_of}
use Rattle.outcome.specs.declared.Refusal.{Refusal}
use Rattle.outcome.specs.Walks.{walked}
use Rattle.rounding.specs.Close.{Close}
use Rattle.calendar.specs.dates.Dates.{is_date, is_before}
use Rattle.calendar.specs.declared.dates.Date.{Date}
use Rattle.time_period.specs.steps.Steps.{absent, stepped}
use Rattle.day_fraction.specs.Exact.{Exact}
use Rattle.day_count_conv.specs.conventions.Conventions.{Agree}
use Rattle.bond.specs.note.Notes.{note_checks, first_coupon_end}
use Rattle.bond.specs.declared.note.Note.{Note}
unfoldable pub use Rattle.accrued_interest.specs.period.PeriodInterest.{amount_due, accrued_in}
pub use Rattle.accrued_interest.specs.period.PeriodInterest.{Amounts, amounts_in_f64, amounts_exactly}
use Rattle.accrued_interest.specs.declared.period.CouponPeriod.{CouponPeriod}

-- a period runs from one date to another; the first from the issue date to the first coupon end
abbrev pub running : Date → Date → CouponPeriod
running start end = record { start = start; end = end }

-- each later one from the end of the one before to the next end; a date outside the range stops it
-- with 1
unfoldable pub next_period : Note → CouponPeriod → Outcome CouponPeriod
next_period n p = and_then (stepped n.period absent p.end) (λ end. given (running p.end end))

-- an end belongs to the period it closes; the walk stops at the first end not before today or not
-- before maturity
unfoldable pub goes_on : Note → Date → CouponPeriod → Bool
goes_on n today p = both (is_before p.end today) (is_before p.end n.maturity)

-- the period where it stops; the calendar has no more than 3652060 steps
unfoldable pub period_holding : Note → Date → CouponPeriod → Outcome CouponPeriod
period_holding n today first = walked 3652060 (goes_on n today) (next_period n) first

unfoldable pub accrued_from : {A : Type 0} → Amounts A → Note → Date → CouponPeriod → Outcome A
accrued_from v n today first = and_then (period_holding n today first) (accrued_in v n today)

unfoldable pub accrued_on : {A : Type 0} → Amounts A → Note → Date → Outcome A
accrued_on v n today =
    unless (is_date today) 1
    (pick (is_before today n.issue_date) (given v.nothing)
    (and_then (first_coupon_end n) (λ end. accrued_from v n today (running n.issue_date end))))

-- order: the note's checks (no position and no table are taken), 1 for today, the 0 before issue,
-- the walk's 1, then, where an amount is due, its fraction's refusals
unfoldable pub accrued : {A : Type 0} → Amounts A → Note → Date → Outcome A
accrued v n today = and_then (note_checks true true n) (λ m. accrued_on v m today)

-- within 1 / 100,000 of a currency unit of the exact amount
abbrev pub CloseAmount : Float → Exact → Type 0
CloseAmount x q = Close 100000 x q.num q.den

-- what the entry point promises of its result r: its bits, and, for a denomination up to 1,000,000,
-- how far off it is.
-- The checks judge the rate, and the bound holds for every coupon period, so that neither is asked
-- for again
abbrev pub AccruedPromise : Note → Date → Result Float Refusal → Type 0
AccruedPromise n today r =
    (outcome_of r ≡ accrued amounts_in_f64 n today) × (n.denomination ≤ 1000000 → Agree CloseAmount (outcome_of r) (accrued amounts_exactly n today))
