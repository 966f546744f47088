-- The interest accrued in one coupon period of a note: nothing, or an amount that is due, as an f64
-- and as its exact value.
use Rattle.std.specs.Prelude.{ℕ, ◌-◌, ◌*◌, ◌<◌, ◌≤◌, ◌≡◌, true, pos, ◌*ℤ◌, Float}
use Rattle.std.specs.Float.{binary64}
use Rattle.std.specs.Float.Ieee.{mul, of_bits}
use Rattle.outcome.specs.Outcome.{Outcome, given, and_then, pick}
use Rattle.calendar.specs.dates.Dates.{is_date, is_before, day_number}
use Rattle.calendar.specs.declared.dates.Date.{Date}
use Rattle.day_fraction.specs.Exact.{Exact}
use Rattle.day_fraction.specs.Fractions.{whole, quotient}
use Rattle.day_count_conv.specs.conventions.Conventions.{rolled_from, Values, year_fraction, fractions_exactly, fractions_in_f64}
use Rattle.day_count_conv.specs.declared.conventions.NoteTerms.{NoteTerms}
use Rattle.bond.specs.note.Notes.{interest_on, exact_interest}
use Rattle.bond.specs.declared.note.Note.{Note}
use Rattle.accrued_interest.specs.declared.period.CouponPeriod.{CouponPeriod}

-- a period that has begun: it runs forward, and today is not before its start
pub record Begun (today : Date) (p : CouponPeriod) : Type 0 where
  pub started : is_date p.start ≡ true
  pub ended : is_date p.end ≡ true
  pub forward : day_number p.start < day_number p.end
  pub reached : day_number p.start ≤ day_number today

-- elapsed days, and period days
abbrev pub elapsed_days : CouponPeriod → Date → ℕ
elapsed_days p today = day_number today - day_number p.start

abbrev pub period_days : CouponPeriod → ℕ
period_days p = day_number p.end - day_number p.start

-- what is accrued: nothing, or an amount of a note's fraction, elapsed days and period days
pub record Amounts (A : Type 0) : Type 0 where
  pub nothing : A
  pub fractions : Values A
  pub due : Note → A → ℕ → ℕ → A

-- the first period here rolls from the issue date, and so each from its start
abbrev pub rolled : Note → CouponPeriod → NoteTerms
rolled n p = rolled_from p.start n.period

unfoldable pub amount_due : {A : Type 0} → Amounts A → Note → Date → CouponPeriod → Outcome A
amount_due v n today p =
    and_then (year_fraction v.fractions n.day_count_convention p.start p.end (rolled n p))
    (λ fraction. given (v.due n fraction (elapsed_days p today) (period_days p)))

-- a period whose end is not before maturity gives 0, as does a day past the last end
unfoldable pub accrued_in : {A : Type 0} → Amounts A → Note → Date → CouponPeriod → Outcome A
accrued_in v n today p = pick (is_before p.end n.maturity) (amount_due v n today p) (given v.nothing)

-- the f64: the full amount, denomination x rate / 100 x fraction, times elapsed days over period
-- days; the 0 is +0
abbrev pub due_bits : Note → Float → ℕ → ℕ → Float
due_bits n fraction elapsed days = mul binary64 (interest_on (whole (pos n.denomination)) n.rate fraction) (quotient (pos elapsed) days)

abbrev pub amounts_in_f64 : Amounts Float
amounts_in_f64 = record { nothing = of_bits binary64 0; fractions = fractions_in_f64; due = due_bits }

-- the same over fractions
abbrev pub due_exact : Note → Exact → ℕ → ℕ → Exact
due_exact n fraction elapsed days =
    let full = exact_interest n.denomination n.rate fraction in
    record { num = full.num *ℤ pos elapsed; den = full.den * days }

abbrev pub amounts_exactly : Amounts Exact
amounts_exactly = record { nothing = record { num = pos 0; den = 1 }; fractions = fractions_exactly; due = due_exact }
