-- Worked examples: blanks before a text, and a text among other bytes. Each computes.
use mathlib.Core.Path.{◌≡◌, refl}
use mathlib.Core.List.{[], ◌∷◌}
use Rattle.number_text.specs.write.Writing.{right_aligned, put}

-- a blank before 7
right_of_blanks : right_aligned 2 (55 ∷ []) ≡ 32 ∷ 55 ∷ []
unfolding right_aligned
right_of_blanks = refl

-- 15 written over the second and third of five bytes
over_two : put (1 ∷ 2 ∷ 3 ∷ 4 ∷ 5 ∷ []) 1 (49 ∷ 53 ∷ []) ≡ 1 ∷ 49 ∷ 53 ∷ 4 ∷ 5 ∷ []
unfolding put
over_two = refl
