-- A number of ten-thousandths as text.
use Rattle.std.specs.Prelude.{ℕ, ◌/◌, List, ◌∷◌, ◌++◌}
use Rattle.number_text.specs.write.Writing.{digits, decimal_text}

-- a number of ten-thousandths: the whole part, a point, and four decimals
unfoldable pub four_decimals : ℕ → List ℕ
four_decimals t = decimal_text (t / 10000) ++ (46 ∷ digits 4 t)
