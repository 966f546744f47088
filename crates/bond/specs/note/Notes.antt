-- The note: its checks in their order, its first coupon end, and the amounts it pays.
use Rattle.std.specs.Prelude.{ℕ, ◌+◌, ◌*◌, ◌≡◌, Bool, true, not, ltb, pos, ◌*ℤ◌, Float, Result}
use Rattle.std.specs.Int.Signed.{le_z}
use Rattle.std.specs.Float.{binary64}
use Rattle.std.specs.Float.Ieee.{mul, div, of_int}
use Rattle.outcome.specs.Outcome.{Outcome, given, returned, plus_zero, unless, and_then, pick, both}
use Rattle.outcome.specs.Refusals.{outcome_of}
use Rattle.outcome.specs.declared.Refusal.{Refusal}
use Rattle.rounding.specs.Close.{numerator, denominator}
use Rattle.calendar.specs.dates.Dates.{is_date}
use Rattle.calendar.specs.serial.Answers.{date_zero}
use Rattle.calendar.specs.declared.dates.Date.{Date}
use Rattle.date_step.specs.Steps.{existing_date}
use Rattle.day_adjust.specs.declared.DayAdjust.TheVariants as rule
use Rattle.time_period.specs.steps.Periods.{period_zero}
use Rattle.time_period.specs.steps.Steps.{needs_table}
use Rattle.day_fraction.specs.Exact.{Exact}
use Rattle.day_count_conv.specs.declared.conventions.DayCountConv.TheVariants as conv
use Rattle.coupon_date.specs.Coupons.{coupon_zero, coupon_date_of}
use Rattle.coupon_date.specs.declared.CouponDate.{CouponDate}
use Rattle.cash_flow.specs.currency.Amounts.{is_currency, up_to}
use Rattle.bond.specs.declared.note.Note.{Note}
-- the limits of its number and of its rate, passed on beside the checks that cite them
unfoldable pub use Rattle.bond.specs.limits.Limits.{is_note_number, is_coupon_rate}

-- its zero: every number 0, and of each list what document 01 packs as 0
abbrev pub note_zero : Note
note_zero = record {
  number = record { count = 0; digits = 0 };
  issue_date = date_zero;
  maturity = date_zero;
  coupon_date = coupon_zero;
  period = period_zero;
  day_count_convention = conv.Act365;
  business_day_rule = rule.None;
  denomination = 0;
  rate = plus_zero;
  currency = record { first = 0; second = 0; third = 0 };
}

-- what is returned of it
abbrev pub note_returned : Result Note Refusal → ℕ × Note
note_returned r = returned note_zero (outcome_of r)

-- position: finite, from -1e9 to 1e9
unfoldable pub is_position : Float → Bool
is_position x = up_to 1000000000 x

-- 13 for the table, 14 for a coupon period below 1, 12 for B, table or not
unfoldable pub period_checks : Bool → Note → Outcome Note
period_checks table n =
    unless table 13
    (unless (le_z (pos 1) n.period.num) 14
    (unless (not (needs_table n.period.unit)) 12
    (given n)))

-- 1 for issue and maturity, 7 and 8 for the coupon date
unfoldable pub term_checks : Bool → Note → Outcome Note
term_checks table n =
    unless (both (is_date n.issue_date) (is_date n.maturity)) 1
    (and_then (coupon_date_of n.coupon_date.day n.coupon_date.month) (λ c. period_checks table n))

-- order for a note: 18, 15 (the rate, and the position where one is taken), 17, 1 for issue and
-- maturity, 7, 8, 13 (where a table is taken), 14, 12
unfoldable pub note_checks : Bool → Bool → Note → Outcome Note
note_checks position table n =
    unless (is_note_number n.number) 18
    (unless (both (is_coupon_rate n.rate) position) 15
    (unless (is_currency n.currency) 17
    (term_checks table n)))

-- first coupon end: the coupon date in the issue year if its month is after the issue month, else
-- in the next year; year 10000 is refused 1
unfoldable pub in_year_of : ℕ → CouponDate → Outcome Date
in_year_of y c = existing_date (record { year = y; month = c.month; day = c.day })

unfoldable pub first_coupon_end : Note → Outcome Date
first_coupon_end n = in_year_of (pick (ltb n.issue_date.month n.coupon_date.month) n.issue_date.year (n.issue_date.year + 1)) n.coupon_date

-- each amount is position x denomination x rate / 100 x fraction, left to right
abbrev pub interest_on : Float → Float → Float → Float
interest_on nominal rate fraction = mul binary64 (div binary64 (mul binary64 nominal rate) (of_int binary64 (pos 100))) fraction

-- the same over fractions, on a whole nominal, the rate as the number its bits mean
abbrev pub exact_interest : ℕ → Float → Exact → Exact
exact_interest nominal rate fraction =
    record { num = pos nominal *ℤ numerator rate *ℤ fraction.num; den = denominator rate * 100 * fraction.den }

abbrev pub nominal_of : Float → Note → Float
nominal_of position n = mul binary64 position (of_int binary64 (pos n.denomination))

unfoldable pub coupon_amount : Float → Note → Float → Float
coupon_amount position n fraction = interest_on (nominal_of position n) n.rate fraction

-- what the entry points promise of their result r
abbrev pub PositionPromise : Float → Bool → Type 0
PositionPromise x r = r ≡ is_position x

abbrev pub ChecksPromise : Bool → Bool → Note → Result Note Refusal → Type 0
ChecksPromise position table n r = outcome_of r ≡ note_checks position table n

abbrev pub NotePromise : Note → Result Note Refusal → Type 0
NotePromise n r = ChecksPromise true true n r

abbrev pub FirstEndPromise : Note → Result Date Refusal → Type 0
FirstEndPromise n r = outcome_of r ≡ first_coupon_end n
