-- A refusal as it is written.
use mathlib.Core.Path.{◌≡◌, refl}
use mathlib.Core.List.{[], ◌∷◌}
use Rattle.number_text.specs.write.Writing.{digits, places_within, places, decimal_text}
use Rattle.flow_text.specs.refusal.RefusalTexts.{number_text, refused_text}

-- `refused 18` and a line feed
pub malformed : refused_text 18 ≡ 114 ∷ 101 ∷ 102 ∷ 117 ∷ 115 ∷ 101 ∷ 100 ∷ 32 ∷ 49 ∷ 56 ∷ 10 ∷ []
unfolding refused_text number_text decimal_text places places_within digits
malformed = refl
