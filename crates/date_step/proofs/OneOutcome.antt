-- No second answer satisfies a step's promise; and a refusal's number is never 0.
use Rattle.std.specs.Prelude.{Result}
use Prim.Native.Nat.{ℕ}
use mathlib.Core.Path.{◌≡◌, sym, ◌∙◌}
use native.Mathlib.Omega.{arith}
use lib.IntN.{ℤ, pos, negsuc, ◌+ℤ◌}
use lib.Dec.{leb}
use Rattle.outcome.specs.Outcome.{given, Numbered}
use Rattle.outcome.specs.declared.Refusal.{Refusal}
use Rattle.outcome.proofs.Outcomes.{unless_numbered, then_numbered}
use Rattle.outcome.proofs.Refusals.{same_result}
use Rattle.calendar.specs.dates.Dates.{is_date, day_number, month_index, month_date}
use Rattle.calendar.specs.serial.Answers.{date_of}
use Rattle.calendar.specs.declared.dates.Date.{Date}
use Rattle.calendar.proofs.dates.OneOutcome.{date_of_numbered}
use Rattle.date_step.specs.Steps.{from_zero_to, months_later, add_months, existing_date, years_later, add_years, days_later, add_days, AddMonthsPromise, AddYearsPromise, AddDaysPromise}

pub one-add_months : (t : Date) (n : ℤ) (r s : Result Date Refusal) → AddMonthsPromise t n r → AddMonthsPromise t n s → r ≡ s
one-add_months t n r s p q = same_result r s (p ∙ sym q)

pub one-add_years : (t : Date) (n : ℤ) (r s : Result Date Refusal) → AddYearsPromise t n r → AddYearsPromise t n s → r ≡ s
one-add_years t n r s p q = same_result r s (p ∙ sym q)

pub one-add_days : (t : Date) (n : ℤ) (r s : Result Date Refusal) → AddDaysPromise t n r → AddDaysPromise t n s → r ≡ s
one-add_days t n r s p q = same_result r s (p ∙ sym q)

-- every refusal has its number
landing_numbered : (last : ℕ) (z : ℤ) → Numbered (from_zero_to last z)
unfolding from_zero_to
landing_numbered last (pos k) = unless_numbered (leb k last) 1 (given k) (omega arith) (omega arith)
landing_numbered last (negsuc k) = omega arith

pub add_months_numbered : (t : Date) (n : ℤ) → Numbered (add_months t n)
unfolding add_months months_later
add_months_numbered t n =
    unless_numbered (is_date t) 1 (months_later t n) (omega arith)
    (then_numbered (from_zero_to 119987 (pos (month_index t) +ℤ n)) (λ i. given (month_date i t.day)) (landing_numbered _ _) (λ i. omega arith))

pub add_years_numbered : (t : Date) (n : ℤ) → Numbered (add_years t n)
unfolding add_years years_later existing_date
add_years_numbered t n =
    unless_numbered (is_date t) 1 (years_later t n) (omega arith)
    (then_numbered (from_zero_to 9999 (pos t.year +ℤ n)) (λ y. existing_date (record { year = y; month = t.month; day = t.day })) (landing_numbered _ _)
    (λ y. unless_numbered (is_date (record { year = y; month = t.month; day = t.day })) 1 _ (omega arith) (omega arith)))

pub add_days_numbered : (t : Date) (n : ℤ) → Numbered (add_days t n)
unfolding add_days days_later
add_days_numbered t n =
    unless_numbered (is_date t) 1 (days_later t n) (omega arith)
    (then_numbered (from_zero_to 3652059 (pos (day_number t) +ℤ n)) (λ k. date_of (record { 0 = k })) (landing_numbered _ _) (λ k. date_of_numbered (record { 0 = k })))
