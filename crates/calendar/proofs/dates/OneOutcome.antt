-- No second answer satisfies an entry point's promise; and a refusal's number is never 0.
use Prim.Native.Nat.{ℕ}
use Rattle.std.specs.Prelude.{Result}
use Prim.Native.Nat.{◌+◌}
use mathlib.Core.Path.{◌≡◌, sym, ◌∙◌}
use mathlib.Core.Bool.{Bool}
use native.Mathlib.Omega.{arith}
use lib.Dec.{leb}
use Rattle.outcome.specs.Outcome.{Numbered, both}
use Rattle.outcome.specs.Refusals.{outcome_of}
use Rattle.outcome.specs.declared.Refusal.{Refusal}
use Rattle.outcome.proofs.Outcomes.{unless_numbered, one_value, Returns, returns}
use Rattle.outcome.proofs.Refusals.{same_result}
use Rattle.calendar.specs.dates.Dates.{is_date, is_day, IsDatePromise, IsDayPromise, BeforePromise, SamePromise}
use Rattle.calendar.specs.serial.Answers.{day_zero, days_zero, date_zero, day_returned, days_returned, date_returned, weekday_returned, day_of, date_of, weekday_of, days_between, day_after, DayOfPromise, DateOfPromise, WeekdayPromise, DaysBetweenPromise, DayAfterPromise}
use Rattle.calendar.specs.declared.dates.Day.{Day}
use Rattle.calendar.specs.declared.dates.Days.{Days}
use Rattle.calendar.specs.declared.dates.Date.{Date}

-- a refusal returns its number and the zero
pub day-returned : Returns outcome_of day_zero day_returned
day-returned = returns outcome_of day_zero

pub days-returned : Returns outcome_of days_zero days_returned
days-returned = returns outcome_of days_zero

pub date-returned : Returns outcome_of date_zero date_returned
date-returned = returns outcome_of date_zero

pub weekday_returned_lem : Returns outcome_of 0 weekday_returned
weekday_returned_lem = returns outcome_of 0

-- one answer to each question
pub one-is_date : (t : Date) (r s : Bool) → IsDatePromise t r → IsDatePromise t s → r ≡ s
one-is_date t r s p q = one_value r s p q

pub one-is_day : (d : Day) (r s : Bool) → IsDayPromise d r → IsDayPromise d s → r ≡ s
one-is_day d r s p q = one_value r s p q

pub one-is_before : (a b : Date) (r s : Bool) → BeforePromise a b r → BeforePromise a b s → r ≡ s
one-is_before a b r s p q = one_value r s p q

pub one-is_same : (a b : Date) (r s : Bool) → SamePromise a b r → SamePromise a b s → r ≡ s
one-is_same a b r s p q = one_value r s p q

pub one-day_of : (t : Date) (r s : Result Day Refusal) → DayOfPromise t r → DayOfPromise t s → r ≡ s
one-day_of t r s p q = same_result r s (p ∙ sym q)

pub one-date_of : (d : Day) (r s : Result Date Refusal) → DateOfPromise d r → DateOfPromise d s → r ≡ s
one-date_of d r s p q = same_result r s (p ∙ sym q)

pub one_weekday : (d : Day) (r s : Result ℕ Refusal) → WeekdayPromise d r → WeekdayPromise d s → r ≡ s
one_weekday d r s p q = same_result r s (p ∙ sym q)

pub one-days_between : (a b : Day) (r s : Result Days Refusal) → DaysBetweenPromise a b r → DaysBetweenPromise a b s → r ≡ s
one-days_between a b r s p q = same_result r s (p ∙ sym q)

pub one-day_after : (d : Day) (n : Days) (r s : Result Day Refusal) → DayAfterPromise d n r → DayAfterPromise d n s → r ≡ s
one-day_after d n r s p q = same_result r s (p ∙ sym q)

-- every refusal has its number
pub day_of_numbered : (t : Date) → Numbered (day_of t)
unfolding day_of
day_of_numbered t = unless_numbered (is_date t) 1 _ (omega arith) (omega arith)

pub date_of_numbered : (d : Day) → Numbered (date_of d)
unfolding date_of
date_of_numbered d = unless_numbered (is_day d) 1 _ (omega arith) (omega arith)

pub weekday_numbered : (d : Day) → Numbered (weekday_of d)
unfolding weekday_of
weekday_numbered d = unless_numbered (is_day d) 1 _ (omega arith) (omega arith)

pub days_between_numbered : (a b : Day) → Numbered (days_between a b)
unfolding days_between
days_between_numbered a b = unless_numbered (both (is_day a) (is_day b)) 1 _ (omega arith) (unless_numbered (leb a.0 b.0) 19 _ (omega arith) (omega arith))

pub day_after_numbered : (d : Day) (n : Days) → Numbered (day_after d n)
unfolding day_after
day_after_numbered d n = unless_numbered (both (is_day d) (leb (d.0 + n.0) 3652059)) 1 _ (omega arith) (omega arith)
