-- The note of the paper's listing packed by hand, with its refusals, as theorems about the
-- definitions.
use Prim.Native.Nat.{ℕ}
use mathlib.Core.Path.{◌≡◌, refl}
use mathlib.Core.List.{List, [], ◌∷◌}
use lib.IntN.{pos, negsuc}
use lib.Ieee.{to_bits}
use Rattle.outcome.specs.Outcome.{given, refused}
use Rattle.calendar.specs.gregorian.Gregorian.{leap, length_in, month_length}
use Rattle.calendar.specs.dates.Dates.{is_date}
use Rattle.coupon_date.specs.Coupons.{coupon_date_of}
use Rattle.cash_flow.specs.currency.Amounts.{is_capital, is_currency}
use Rattle.business_days.specs.table.Table.{ascends_from, is_table}
use Rattle.bit_fields.specs.Bits.{field_bits, fields_bits, continued_bits, bytes_of}
use Rattle.bond.specs.limits.Limits.{is_note_number, is_coupon_rate}
use Rattle.bond.specs.note.Notes.{period_checks, term_checks, note_checks}
use Rattle.bond.specs.declared.note.Note.{Note}
use Rattle.bond.specs.declared.limits.NoteNumber.{NoteNumber}
use Rattle.bond.specs.note.Example.{example_note as listed}
use Rattle.bond.proofs.note.Examples.{every, numbered}
use Rattle.time_period.specs.declared.steps.TimePeriod.{TimePeriod}
use Rattle.time_period.specs.declared.steps.TimePeriodUnit.TheVariants as unit
use Rattle.packed_write.specs.numbers.Codes.{digits_places}
use Rattle.packed_write.specs.packed.Fields.{whole_bytes, numbers_bytes, record_bytes}
use Rattle.packed_write.specs.packed.Writing.{packed_note}

-- the listed note, 00417, with another number and another period
abbrev with : NoteNumber → TimePeriod → Note
with n p = record { number = n; issue_date = listed.issue_date; maturity = listed.maturity; coupon_date = listed.coupon_date; period = p; day_count_convention = listed.day_count_convention; business_day_rule = listed.business_day_rule; denomination = listed.denomination; rate = listed.rate; currency = listed.currency }

-- from the dates to the spare bits
abbrev behind : List ℕ → List ℕ
behind t = 241 ∷ 249 ∷ 69 ∷ 227 ∷ 243 ∷ 11 ∷ 222 ∷ 236 ∷ 1 ∷ 166 ∷ 0 ∷ 0 ∷ 7 ∷ 208 ∷ 128 ∷ 32 ∷ 0 ∷ 0 ∷ 0 ∷ 0 ∷ 0 ∷ 0 ∷ 90 ∷ 200 ∷ 0 ∷ t

pub record ByHand : Type 0 where
  -- 00417 begins 5, 0, 0, 4, 1, 7 and 417 begins 3, 4, 1, 7: two records; no holidays are two bytes
  pub leading_zeros : record_bytes listed [] ≡ 80 ∷ 4 ∷ 23 ∷ 255 ∷ 255 ∷ behind (0 ∷ 0 ∷ [])
  pub no_zeros : record_bytes (with (numbered 3 417) listed.period) [] ≡ 52 ∷ 23 ∷ 255 ∷ 255 ∷ 255 ∷ behind (0 ∷ 0 ∷ [])
  -- two holidays are 44 bits, and four zero bits
  pub holidays : record_bytes listed (738002 ∷ 738003 ∷ []) ≡ 80 ∷ 4 ∷ 23 ∷ 255 ∷ 255 ∷ behind (0 ∷ 2 ∷ 45 ∷ 11 ∷ 72 ∷ 180 ∷ 45 ∷ 48 ∷ [])

pub by_hand : ByHand
unfolding field_bits continued_bits bytes_of digits_places fields_bits whole_bytes numbers_bytes to_bits
by_hand = record { leading_zeros = refl; no_zeros = refl; holidays = refl }

-- 18 comes before 14, 13 before 14, and a period of 4,095 is held
pub record Refusals : Type 0 where
  pub period_too_large : packed_note (with (numbered 5 417) (every (pos 4096) unit.Monthly)) (7 ∷ 7 ∷ []) ≡ refused 18
  pub bad_table : packed_note (with (numbered 5 417) (every (pos 0) unit.Monthly)) (7 ∷ 7 ∷ []) ≡ refused 13
  pub period_below_one : packed_note (with (numbered 5 417) (every (negsuc 9999) unit.Monthly)) [] ≡ refused 14
  pub no_digits : packed_note (with (numbered 0 0) (every (pos 6) unit.Monthly)) [] ≡ refused 18
  pub listed_packed : packed_note listed [] ≡ given (record_bytes listed [])
  pub largest_period : packed_note (with (numbered 5 417) (every (pos 4095) unit.Daily)) [] ≡ given (record_bytes (with (numbered 5 417) (every (pos 4095) unit.Daily)) [])

pub refusals : Refusals
unfolding packed_note note_checks term_checks period_checks is_note_number is_coupon_rate is_currency is_capital is_date coupon_date_of leap length_in month_length is_table ascends_from
refusals = record { period_too_large = refl; bad_table = refl; period_below_one = refl; no_digits = refl; listed_packed = refl; largest_period = refl }
