-- Dates on the desk card, a to m (there is no e), together as one table. Each line is over the
-- definition that its entry point's promise cites.
use Rattle.std.specs.Prelude.{ℕ, ◌+◌, ◌-◌, ◌*◌, ◌≤◌, ◌≡◌, [], ℤ, pos, ◌*ℤ◌}
use Rattle.outcome.specs.Outcome.{Outcome, given, refused}
use Rattle.calendar.specs.declared.dates.Date.{Date}
use Rattle.time_period.specs.added.Added.{add_to, sub_from}
use Rattle.time_period.specs.steps.Steps.{absent}
use Rattle.time_period.specs.declared.steps.TimePeriod.{TimePeriod}
use Rattle.time_period.specs.declared.steps.TimePeriodUnit.TheVariants as unit
use Rattle.day_adjust.specs.Adjustment.{adjust_date}
use Rattle.day_adjust.specs.declared.DayAdjust.TheVariants as rule
use Rattle.day_fraction.specs.Exact.{Exact}
use Rattle.day_count_conv.specs.conventions.Conventions.{no_terms, rolled_from, year_fraction, fractions_in_f64, fractions_exactly, Agree, FractionWithin}
use Rattle.day_count_conv.specs.declared.conventions.DayCountConv.{DayCountConv}
use Rattle.day_count_conv.specs.declared.conventions.DayCountConv.TheVariants as conv
use Rattle.day_count_conv.specs.declared.conventions.NoteTerms.{NoteTerms}
use Rattle.bond.specs.note.Example.{example_note}
use Rattle.bond.specs.declared.note.Note.{Note}
use Rattle.accrued_interest.specs.note.Accrued.{accrued, CloseAmount, amounts_in_f64, amounts_exactly}

-- a date, a number of months or of years, and a fraction
abbrev pub on : ℕ → ℕ → ℕ → Date
on y m d = record { year = y; month = m; day = d }

abbrev pub in_months : ℤ → TimePeriod
in_months n = record { num = n; unit = unit.Monthly }

abbrev pub in_years : ℤ → TimePeriod
in_years n = record { num = n; unit = unit.Annual }

abbrev pub over : ℕ → ℕ → Exact
over n d = record { num = pos n; den = d }

-- a fraction's line: this exactly, and the f64 within 1 / 2^38 of it; or this refused, of the f64
-- too
pub record Fraction (rule : DayCountConv) (start end : Date) (x : NoteTerms) (answer : Outcome Exact) : Type 0 where
  pub exact : year_fraction fractions_exactly rule start end x ≡ answer
  pub close : FractionWithin (year_fraction fractions_in_f64 rule start end x) answer

-- given, and the same number as q, multiplied out
abbrev pub Equals : Outcome Exact → Exact → Type 0
Equals (given p) q = (1 ≤ p.den) × (p.num *ℤ pos q.den ≡ q.num *ℤ pos p.den)
Equals (refused n) q = ⊥

-- an amount's line: this number exactly, and the f64 within 1 / 100,000 of it
pub record Accrual (note : Note) (today : Date) (answer : Exact) : Type 0 where
  pub exact : Equals (accrued amounts_exactly note today) answer
  pub close : Agree CloseAmount (accrued amounts_in_f64 note today) (given answer)

pub record DeskCard : Type 0 where
  -- 2024-02-29 +12M is 2025-02-28; +1Y is refused 1
  pub a : add_to (in_months (pos 12)) absent (on 2024 2 29) ≡ given (on 2025 2 28)
  pub b : add_to (in_years (pos 1)) absent (on 2024 2 29) ≡ refused 1
  -- 2021-01-31 +1M is 2021-02-28; that -1M is 2021-01-28
  pub c : add_to (in_months (pos 1)) absent (on 2021 1 31) ≡ given (on 2021 2 28)
  pub d : sub_from (in_months (pos 1)) absent (on 2021 2 28) ≡ given (on 2021 1 28)
  -- 9999-12-01 +1M is refused 1
  pub f : add_to (in_months (pos 1)) absent (on 9999 12 1) ≡ refused 1
  -- 30/360, 2021-01-30 to 31: refused 9
  pub g : Fraction conv.D30_360 (on 2021 1 30) (on 2021 1 31) no_terms (refused 9)
  -- 30/360, 2020-11-30 to 2021-02-28: 88/360
  pub h : Fraction conv.D30_360 (on 2020 11 30) (on 2021 2 28) no_terms (given (over 88 360))
  -- 2021-01-15 to 2021-03-31: 30/360 76/360, 30E/360 75/360
  pub i_30_360 : Fraction conv.D30_360 (on 2021 1 15) (on 2021 3 31) no_terms (given (over 76 360))
  pub i_30_e_360_lem : Fraction conv.D30E360 (on 2021 1 15) (on 2021 3 31) no_terms (given (over 75 360))
  -- act/365 leap, 2019-07-01 to 2020-07-01: 1 + 182/366 - 181/365, over 366 * 365
  pub j : Fraction conv.Act365l (on 2019 7 1) (on 2020 7 1) no_terms (given (over (1 * (366 * 365) + 182 * 365 - 181 * 366) (366 * 365)))
  -- ICMA 12M, 2021-03-01 to 2021-06-01, roll 2022-01-01: 92/365
  pub k : Fraction conv.ActActICMA (on 2021 3 1) (on 2021 6 1) (rolled_from (on 2022 1 1) (in_months (pos 12))) (given (over 92 365))
  -- modified, 2021-07-31, no holidays: 2021-07-30
  pub l : adjust_date rule.Modified (on 2021 7 31) [] ≡ given (on 2021 7 30)
  -- accrued on the note above, 2021-04-15: exactly 1800/181
  pub m : Accrual example_note (on 2021 4 15) (over 1800 181)
