-- Worked examples: what some texts are read as. Each computes.
use mathlib.Core.Path.{◌≡◌, refl}
use mathlib.Core.List.{[], ◌∷◌}
use lib.IntN.{pos, negsuc}
use Rattle.outcome.specs.Lists.{all_of}
use Rattle.outcome.specs.Outcome.{given, refused}
use Rattle.number_text.specs.read.Reading.{is_digit, is_decimal, continued, decimal_value, decimal_number, begins, after_plus, unsigned_number, below_zero, from_zero, signed_number}

-- 007 is 7
zeros_lead : decimal_value (48 ∷ 48 ∷ 55 ∷ []) ≡ 7
unfolding continued
zeros_lead = refl

-- +15, and 4294967295 but not 4294967296
plus : unsigned_number 6 (43 ∷ 49 ∷ 53 ∷ []) ≡ given 15
unfolding unsigned_number after_plus begins decimal_number is_decimal all_of is_digit continued
plus = refl

unsigned_most : unsigned_number 6 (52 ∷ 50 ∷ 57 ∷ 52 ∷ 57 ∷ 54 ∷ 55 ∷ 50 ∷ 57 ∷ 53 ∷ []) ≡ given 4294967295
unfolding unsigned_number after_plus begins decimal_number is_decimal all_of is_digit continued
unsigned_most = refl

unsigned_past : unsigned_number 6 (52 ∷ 50 ∷ 57 ∷ 52 ∷ 57 ∷ 54 ∷ 55 ∷ 50 ∷ 57 ∷ 54 ∷ []) ≡ refused 6
unfolding unsigned_number after_plus begins decimal_number is_decimal all_of is_digit continued
unsigned_past = refl

-- -1 is no unsigned number
minus_unsigned : unsigned_number 6 (45 ∷ 49 ∷ []) ≡ refused 6
unfolding unsigned_number after_plus begins decimal_number is_decimal all_of is_digit continued
minus_unsigned = refl

-- -2147483648 but not 2147483648; -0 is 0
signed_least : signed_number 4 (45 ∷ 50 ∷ 49 ∷ 52 ∷ 55 ∷ 52 ∷ 56 ∷ 51 ∷ 54 ∷ 52 ∷ 56 ∷ []) ≡ given (negsuc 2147483647)
unfolding signed_number below_zero from_zero after_plus begins decimal_number is_decimal all_of is_digit continued
signed_least = refl

signed-past : signed_number 4 (50 ∷ 49 ∷ 52 ∷ 55 ∷ 52 ∷ 56 ∷ 51 ∷ 54 ∷ 52 ∷ 56 ∷ []) ≡ refused 4
unfolding signed_number below_zero from_zero after_plus begins decimal_number is_decimal all_of is_digit continued
signed-past = refl

minus_zero_lem : signed_number 4 (45 ∷ 48 ∷ []) ≡ given (pos 0)
unfolding signed_number below_zero from_zero after_plus begins decimal_number is_decimal all_of is_digit continued
minus_zero_lem = refl

-- nothing, a sign alone, two signs, and a blank before a digit
nothing : signed_number 4 [] ≡ refused 4
unfolding signed_number below_zero from_zero after_plus begins decimal_number is_decimal all_of is_digit continued
nothing = refl

plus_alone : signed_number 4 (43 ∷ []) ≡ refused 4
unfolding signed_number below_zero from_zero after_plus begins decimal_number is_decimal all_of is_digit continued
plus_alone = refl

minus_alone : signed_number 4 (45 ∷ []) ≡ refused 4
unfolding signed_number below_zero from_zero after_plus begins decimal_number is_decimal all_of is_digit continued
minus_alone = refl

two_signs : signed_number 4 (43 ∷ 45 ∷ 49 ∷ []) ≡ refused 4
unfolding signed_number below_zero from_zero after_plus begins decimal_number is_decimal all_of is_digit continued
two_signs = refl

blank_before : signed_number 4 (32 ∷ 49 ∷ []) ≡ refused 4
unfolding signed_number below_zero from_zero after_plus begins decimal_number is_decimal all_of is_digit continued
blank_before = refl
