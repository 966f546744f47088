-- Worked examples: what some numbers are written as. Each computes.
use mathlib.Core.Path.{◌≡◌, refl}
use mathlib.Core.List.{[], ◌∷◌}
use lib.IntN.{negsuc}
use Rattle.number_text.specs.length.NumberTexts.{digits, places_within, places, decimal_text, padded_text, signed_text}

-- 0, 10, -2147483648, 05 and 2021
text_of-zero : decimal_text 0 ≡ 48 ∷ []
unfolding decimal_text places places_within digits
text_of-zero = refl

text_of_ten : decimal_text 10 ≡ 49 ∷ 48 ∷ []
unfolding decimal_text places places_within digits
text_of_ten = refl

text_of_least : signed_text (negsuc 2147483647) ≡ 45 ∷ 50 ∷ 49 ∷ 52 ∷ 55 ∷ 52 ∷ 56 ∷ 51 ∷ 54 ∷ 52 ∷ 56 ∷ []
unfolding signed_text decimal_text places places_within digits
text_of_least = refl

two_places : padded_text 2 5 ≡ 48 ∷ 53 ∷ []
unfolding padded_text places places_within digits
two_places = refl

more_than_two : padded_text 2 2021 ≡ 50 ∷ 48 ∷ 50 ∷ 49 ∷ []
unfolding padded_text places places_within digits
more_than_two = refl
