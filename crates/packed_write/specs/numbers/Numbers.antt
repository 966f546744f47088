-- The numbers that a note is packed as.
use Rattle.std.specs.Prelude.{ℕ, ◌-◌, List, map, nat_abs}
use Rattle.std.specs.Float.{binary64}
use Rattle.std.specs.Float.Ieee.{to_bits}
use Rattle.bond.specs.declared.note.Note.{Note}
use Rattle.packed_codes.specs.Codes.{code_of_unit, code_of_convention, code_of_adjustment}
use Rattle.packed_layout.specs.NoteLayout.{Name, note_names}
use Rattle.packed_write.specs.numbers.Codes.{digits_places}

-- the note's number passes digit by digit; the period's number is unsigned; a letter is its place
-- in the alphabet: A = 1; the spare bits are zero
abbrev pub number_of : Note → Name → ℕ
number_of n Name.digit_count = n.number.count
number_of n Name.digits = digits_places n.number.count 10 n.number.digits
number_of n Name.issue_year = n.issue_date.year
number_of n Name.issue_month = n.issue_date.month
number_of n Name.issue_day = n.issue_date.day
number_of n Name.maturity_year = n.maturity.year
number_of n Name.maturity_month = n.maturity.month
number_of n Name.maturity_day = n.maturity.day
number_of n Name.coupon_day = n.coupon_date.day
number_of n Name.coupon_month = n.coupon_date.month
number_of n Name.unit = code_of_unit n.period.unit
number_of n Name.number = nat_abs n.period.num
number_of n Name.day_count = code_of_convention n.day_count_convention
number_of n Name.adjustment = code_of_adjustment n.business_day_rule
number_of n Name.denomination = n.denomination
number_of n Name.rate = to_bits binary64 n.rate
number_of n Name.first_letter = n.currency.first - 64
number_of n Name.second_letter = n.currency.second - 64
number_of n Name.third_letter = n.currency.third - 64
number_of n Name.spare = 0

abbrev pub numbers_of : Note → List ℕ
numbers_of n = map (number_of n) note_names
