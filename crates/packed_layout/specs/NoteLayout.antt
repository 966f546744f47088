-- A packed note and its table in bits, most significant first.
use Rattle.std.specs.Prelude.{ℕ, ◌+◌, ◌*◌, ◌/◌, List, [], ◌∷◌, map, length, get_or}
use Rattle.bit_fields.specs.Bits.{Field, in_bits}
use Rattle.packed_layout.specs.Layouts.{total, numbers_from, fields_from, AllFit}

-- the fields of a note
pub data Name : Type 0 where
  digit_count digits issue_year issue_month issue_day maturity_year maturity_month maturity_day coupon_day coupon_month : Name
  unit number day_count adjustment denomination rate first_letter second_letter third_letter spare : Name

-- digit count 4; ten digits of 4; issue and maturity as year 14, month 4, day 5; coupon day 5,
-- month 4; unit 3; number 12; day count 3; adjustment 2; denomination 32; rate 64; three letters of
-- 5; 10 zero bits
abbrev pub layout : List (Name × ℕ)
layout =
    (digit_count, 4)
    ∷ (digits, 40)
    ∷ (issue_year, 14)
    ∷ (issue_month, 4)
    ∷ (issue_day, 5)
    ∷ (maturity_year, 14)
    ∷ (maturity_month, 4)
    ∷ (maturity_day, 5)
    ∷ (coupon_day, 5)
    ∷ (coupon_month, 4)
    ∷ (unit, 3)
    ∷ (number, 12)
    ∷ (day_count, 3)
    ∷ (adjustment, 2)
    ∷ (denomination, 32)
    ∷ (rate, 64)
    ∷ (first_letter, 5)
    ∷ (second_letter, 5)
    ∷ (third_letter, 5)
    ∷ (spare, 10)
    ∷ []

abbrev pub note_names : List Name
note_names = map (λ f. f.0) layout

abbrev pub note_widths : List ℕ
note_widths = map (λ f. f.1) layout

-- the place of a field in the layout
abbrev pub place : Name → ℕ
place digit_count = 0
place digits = 1
place issue_year = 2
place issue_month = 3
place issue_day = 4
place maturity_year = 5
place maturity_month = 6
place maturity_day = 7
place coupon_day = 8
place coupon_month = 9
place unit = 10
place number = 11
place day_count = 12
place adjustment = 13
place denomination = 14
place rate = 15
place first_letter = 16
place second_letter = 17
place third_letter = 18
place spare = 19

-- the number in a field, of all the numbers
abbrev pub number_in : List ℕ → Name → ℕ
number_in ns f = get_or ns (place f) 0

-- the numbers that stand in a note's bytes
abbrev pub note_numbers : List ℕ → List ℕ
note_numbers s = numbers_from s 0 note_widths

-- a note's numbers in its fields; and that each fits
abbrev pub note_fields : List ℕ → List Field
note_fields ns = fields_from 0 note_widths ns

abbrev pub NumbersFit : List ℕ → Type 0
NumbersFit ns = AllFit (note_fields ns)

-- the table follows: count 16, days of 22 each
abbrev pub count_width : ℕ
count_width = 16

abbrev pub day_width : ℕ
day_width = 22

abbrev pub count_place : ℕ
count_place = total note_widths

abbrev pub day_place : ℕ → ℕ
day_place i = count_place + count_width + day_width * i

abbrev pub table_fields : List ℕ → List Field
table_fields table = in_bits count_width (length table) ∷ map (in_bits day_width) table

-- the bits of a record with n holidays, and the bytes, zero bits to the byte
abbrev pub bit_length : ℕ → ℕ
bit_length n = day_place n

abbrev pub byte_length : ℕ → ℕ
byte_length n = (bit_length n + 7) / 8
