-- The decimal digits of a number past 64 bits, in lent bytes.
use Rattle.std.specs.Prelude.{ℕ, suc, ◌*◌, ◌^◌, ◌≡◌, List, [], ◌∷◌, eqb, length}
use Rattle.outcome.specs.Outcome.{pick}
use Rattle.number_text.specs.write.Writing.{digits}

-- where the old bytes d are the last digits of a number, the new bytes e are those of m times that
-- number
abbrev pub Multiplied : ℕ → List ℕ → List ℕ → Type 0
Multiplied m d e = (n : ℕ) → d ≡ digits (length d) n → e ≡ digits (length d) (n * m)

-- the new bytes e are the last digits of n * 2 ^ twos, as many as there are bytes
abbrev pub Scaled : ℕ → ℕ → List ℕ → List ℕ → Type 0
Scaled n twos d e = e ≡ digits (length d) (n * 2 ^ twos)

-- how many bytes '0' a text begins with
unfoldable pub zeros_leading : List ℕ → ℕ
zeros_leading [] = 0
zeros_leading (b ∷ s) = pick (eqb b 48) (suc (zeros_leading s)) 0

-- what is promised of that count r
abbrev pub CountsZeros : List ℕ → ℕ → Type 0
CountsZeros s r = r ≡ zeros_leading s
