-- The places of a number's digits.
use Rattle.std.specs.Prelude.{ℕ, zero, suc, ◌+◌, ◌*◌, ◌/◌, ◌%◌, ltb}
use Rattle.outcome.specs.Outcome.{pick}

-- the first k places of a number of c digits, 4 bits each: its digits, leading zeros with them, and
-- 15 where none is left
unfoldable pub digits_places : ℕ → ℕ → ℕ → ℕ
digits_places c zero d = 0
digits_places c (suc k) d = pick (ltb k c) (digits_places c k (d / 10) * 16 + d % 10) (digits_places c k d * 16 + 15)
