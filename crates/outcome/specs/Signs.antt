-- The sign and the magnitude of a number.
use Rattle.std.specs.Prelude.{ℕ, ◌≡◌, Bool, true, false, ℤ, pos, negsuc, nat_abs}

-- a number below zero
abbrev pub is_negative : ℤ → Bool
is_negative (pos n) = false
is_negative (negsuc n) = true

-- what is promised of the number r without its sign
abbrev pub MagnitudePromise : ℤ → ℕ → Type 0
MagnitudePromise n r = r ≡ nat_abs n
