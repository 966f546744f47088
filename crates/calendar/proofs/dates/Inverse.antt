-- Each of the two directions undoes the other.
use Prim.Native.Nat.{ℕ, ◌≤◌}
use mathlib.Core.Path.{◌≡◌, sym, ap, ◌∙◌, subst}
use mathlib.Core.Bool.{true}
use Rattle.outcome.specs.Outcome.{Outcome, given, and_then}
use Rattle.outcome.proofs.Outcomes.{given_injective, unless-given}
use Rattle.calendar.specs.dates.Dates.{is_date, is_day, day_number, the_date}
use Rattle.calendar.specs.serial.Answers.{day_of, date_of}
use Rattle.calendar.specs.declared.dates.Day.{Day}
use Rattle.calendar.specs.declared.dates.Date.{Date}
use Rattle.calendar.proofs.dates.Dates.{IsDate, date-yes, date_is, day-yes, day_is, number-from, number-to, date_found, the_date_is, number_found}

-- the date of a day of the calendar
pub date_on-day : (d : Day) → 1 ≤ d.0 → d.0 ≤ 3652059 → given (the_date d.0) ≡ date_of d
unfolding date_of
date_on-day d h k = rw (day_is d h k)

-- and back
pub on-day : (d : Day) (u : Date) → date_of d ≡ given u → IsDate u × (day_number u ≡ d.0)
unfolding date_of
on-day d u e =
    let g = unless-given (is_day d) 1 (given (the_date d.0)) u e in
    let k = day-yes d g.0 in
    let q : the_date d.0 ≡ u = given_injective g.1 in
    (subst IsDate q (the_date_is d.0 k.0 k.1), ap day_number (sym q) ∙ number_found d.0 k.0 k.1)

-- the date of a date's serial day
pub date_of-number : (t : Date) → is_date t ≡ true → date_of (record { 0 = day_number t }) ≡ given t
date_of-number t e =
    let h = date-yes t e in
    sym (date_on-day (record { 0 = day_number t }) (number-from t h) (number-to t h)) ∙ ap given (date_found t h)

-- the same where that day is known
pub date-at : (t : Date) (n : ℕ) → is_date t ≡ true → day_number t ≡ n → date_of (record { 0 = n }) ≡ given t
date-at t n e h = ap (λ (k : ℕ). date_of (record { 0 = k })) (sym h) ∙ date_of-number t e

-- both directions are inverse, on every date and on every serial day
pub record Inverse : Type 0 where
  pub date-again : (t : Date) → is_date t ≡ true → and_then (day_of t) date_of ≡ given t
  pub day-again : (d : Day) → is_day d ≡ true → and_then (date_of d) day_of ≡ given d

pub inverse : Inverse
unfolding day_of date_of
inverse =
    record {
      date-again = λ t e. rw e (date_of-number t e);
      day-again = λ d e.
          let k = day-yes d e in
          rw (e, date_is (the_date d.0) (the_date_is d.0 k.0 k.1)) (ap {B = Outcome Day} (λ (n : ℕ). given (record { 0 = n })) (number_found d.0 k.0 k.1));
    }
