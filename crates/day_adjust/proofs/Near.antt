-- The date of a day near one whose date is known: in the same month only the day's number differs.
use Prim.Native.Nat.{ℕ, ◌+◌, ◌-◌, ◌≤◌, ◌<◌}
use mathlib.Core.Path.{◌≡◌, sym, ◌∙◌, ap}
use mathlib.Core.Bool.{true}
use native.Mathlib.Omega.{arith}
use Rattle.calendar.specs.gregorian.Gregorian.{month_length}
use Rattle.calendar.specs.dates.Dates.{is_date, day_number, the_date}
use Rattle.calendar.specs.declared.dates.Date.{Date}
use Rattle.calendar.proofs.dates.Dates.{IsDate, date-yes, date_found}

-- the day d of a date's month
abbrev pub in_month : Date → ℕ → Date
in_month t d = record { year = t.year; month = t.month; day = d }

module _ (t : Date) (n at : ℕ) (date : is_date t ≡ true) (own : n ≡ day_number t) where
  -- any day of the month
  within : (d : ℕ) → 1 ≤ d → d ≤ month_length t.year t.month → d + n ≡ t.day + at → in_month t d ≡ the_date at
  unfolding day_number
  within d l h e =
      let i = date-yes t date in
      let u : IsDate (in_month t d) = record { year_from = i.year_from; year_to = i.year_to; month_from = i.month_from; month_to = i.month_to; day-from = l; day-to = h } in
      sym (date_found (in_month t d) u) ∙ ap the_date (let z : day_number (in_month t d) ≡ at = omega arith in z)

  pub month_on : n ≤ at → t.day + (at - n) ≤ month_length t.year t.month → in_month t (t.day + (at - n)) ≡ the_date at
  month_on l h = within (t.day + (at - n)) (omega (arith, (date-yes t date).day-from)) h (omega arith)

  pub month_back : at < n → n - at < t.day → in_month t (t.day - (n - at)) ≡ the_date at
  month_back l h = within (t.day - (n - at)) (omega arith) (omega (arith, (date-yes t date).day-to)) (omega arith)
