-- Codes of a packed note: a number's digits.
use Rattle.std.specs.Prelude.{ℕ, zero, suc, ◌+◌, ◌*◌, ◌/◌, ◌%◌, Bool, true, leb, ltb, eqb}
use Rattle.outcome.specs.Outcome.{pick, both}

-- of a number of c digits, place i holds a digit where it is used, and 15 where it is not
unfoldable pub place_good : ℕ → ℕ → ℕ → Bool
place_good c i n = pick (ltb i c) (ltb n 10) (eqb n 15)

-- so do the first k places, 4 bits each
unfoldable pub digits_good : ℕ → ℕ → ℕ → Bool
digits_good c zero n = true
digits_good c (suc k) n = both (digits_good c k (n / 16)) (place_good c k (n % 16))

-- the number that the digits in the first k places are
unfoldable pub digits_number : ℕ → ℕ → ℕ → ℕ
digits_number c zero n = 0
digits_number c (suc k) n = pick (ltb k c) (digits_number c k (n / 16) * 10 + n % 16) (digits_number c k (n / 16))

-- digit count 4 (1 to 10); ten digits of 4, unused 15
unfoldable pub number_good : ℕ → ℕ → Bool
number_good c n = both (both (leb 1 c) (leb c 10)) (digits_good c 10 n)
