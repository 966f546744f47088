-- A refusal as it is written.
use Rattle.std.specs.Prelude.{ℕ, List, [], ◌∷◌, ◌++◌}
use Rattle.number_text.specs.write.Writing.{decimal_text}

-- a number and a line feed
unfoldable pub number_text : ℕ → List ℕ
number_text n = decimal_text n ++ (10 ∷ [])

-- a refusal writes `refused N`
unfoldable pub refused_text : ℕ → List ℕ
refused_text n = (114 ∷ 101 ∷ 102 ∷ 117 ∷ 115 ∷ 101 ∷ 100 ∷ 32 ∷ []) ++ number_text n
