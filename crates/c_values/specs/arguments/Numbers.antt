-- What the numbers that come from C stand for. An unknown code is refused 18, in the
-- order of the arguments, before anything else.
use Rattle.std.specs.Prelude.{ℕ, ℤ, Float}
use Rattle.outcome.specs.Outcome.{Outcome, given, and_then}
use Rattle.calendar.specs.declared.dates.Day.{Day}
use Rattle.calendar.specs.declared.dates.Date.{Date}
use Rattle.coupon_date.specs.declared.CouponDate.{CouponDate}
use Rattle.time_period.specs.declared.steps.TimePeriod.{TimePeriod}
use Rattle.day_count_conv.specs.declared.conventions.DayCountConv.{DayCountConv}
use Rattle.cash_flow.specs.declared.currency.Currency.{Currency}
use Rattle.cash_flow.specs.declared.flow.CashFlow.{CashFlow}
use Rattle.rates.specs.declared.simple.FlatRate.{FlatRate}
use Rattle.bond.specs.declared.limits.NoteNumber.{NoteNumber}
use Rattle.bond.specs.declared.note.Note.{Note}
use Rattle.packed_codes.specs.Codes.{unit_of_code, convention_of_code, adjustment_of_code}

-- numbers that need no code
abbrev pub serial_day : ℕ → Day
serial_day n = record { 0 = n }

abbrev pub date : ℕ → ℕ → ℕ → Date
date year month day = record { year = year; month = month; day = day }

abbrev pub coupon : ℕ → ℕ → CouponDate
coupon day month = record { day = day; month = month }

abbrev pub currency : ℕ → ℕ → ℕ → Currency
currency c1 c2 c3 = record { first = c1; second = c2; third = c3 }

abbrev pub flow : Date → Currency → Float → CashFlow
flow t c x = record { date = t; currency = c; amount = x }

-- a period: its number, and the packed code of its unit
unfoldable pub period_of_numbers : ℤ → ℕ → Outcome TimePeriod
period_of_numbers num code = and_then (unit_of_code code) (λ u. given (record { num = num; unit = u }))

-- a rate to discount at
abbrev pub flat_rate : Float → DayCountConv → Currency → FlatRate
flat_rate rate rule c = record { rate = rate; day_count_conv = rule; currency = c }

-- a note: its codes are looked up in the order unit, rule, adjustment
unfoldable pub note_of : NoteNumber → Date → Date → CouponDate → ℤ → ℕ → ℕ → ℕ → ℕ → Float → Currency → Outcome Note
note_of number issue maturity coupon num unit rule adjustment denomination rate c =
    and_then (period_of_numbers num unit)
    (λ p. and_then (convention_of_code rule)
    (λ convention. and_then (adjustment_of_code adjustment)
    (λ adjust. given (record {
      number = number;
      issue_date = issue;
      maturity = maturity;
      coupon_date = coupon;
      period = p;
      day_count_convention = convention;
      business_day_rule = adjust;
      denomination = denomination;
      rate = rate;
      currency = c;
    }))))

-- its number: how many digits, and the digits
abbrev pub note_number : ℕ → ℕ → NoteNumber
note_number count digits = record { count = count; digits = digits }
