-- Arithmetic of whole numbers that the laws of rounding share.
use Prim.Native.Nat.{ℕ, ◌+◌, ◌*◌, ◌≤◌, ◌<◌}
use mathlib.Core.Path.{◌≡◌}
use mathlib.Core.Bool.{Bool, true, false, not}
use native.Mathlib.Nat.{zero-add, add-zero, one-mul, mul-one, zero-mul, mul-zero, mul-add, add-mul, mul_assoc, mul_comm, mul_left_comm, mul-le-mul_left, mul-le-mul_right, le_dest, le_of_lt}
use native.Mathlib.Omega.{arith}
use lib.Dec.{T, leb, leb→le, nleb→lt}

-- both sides of an equation or an order as sums of products in one order
pub ruleset ring = (mul-add, add-mul, mul_assoc, mul_comm, mul_left_comm, one-mul, mul-one, zero-mul, mul-zero, zero-add, add-zero)

-- p and q are at most e apart
abbrev pub Apart : ℕ → ℕ → ℕ → Type 0
Apart p q e = (p ≤ q + e) × (q ≤ p + e)

-- a and b are at most m apart, p and q at most w: (a - b) * (p - q) is at most m * w, and no
-- difference is taken
pub cross : (a b m p q w : ℕ) → Apart a b m → Apart p q w → a * p + b * q ≤ a * q + b * p + m * w
cross a b m p q w h k = go (leb b a) (leb→le b a) (nleb→lt b a)
  where
    -- r is the larger less the smaller
    step : (a b r m p q w : ℕ) → b + r ≡ a → r ≤ m → p ≤ q + w → a * p + b * q ≤ a * q + b * p + m * w
    step a b r m p q w e l i = rw (← e) (simp ring (omega (arith, simp ring at (mul-le-mul_left r i), mul-le-mul_right w l)))

    go : (t : Bool) → (T t → b ≤ a) → (T (not t) → a < b) → a * p + b * q ≤ a * q + b * p + m * w
    go true l g = let r = le_dest (l tt) in step a b r.0 m p q w r.1 (omega arith) k.0
    go false l g = let r = le_dest (le_of_lt (g tt)) in omega (arith, step b a r.0 m q p w r.1 (omega arith) k.1)

-- A finite value is a sign and a size. Its signed size is a difference of two naturals that is
-- never taken: `plus_of` less `minus_of`.
abbrev pub plus_of : Bool → ℕ → ℕ
plus_of false x = x
plus_of true x = 0

abbrev pub minus_of : Bool → ℕ → ℕ
minus_of false x = 0
minus_of true x = x

pub of_size : (s : Bool) (x w : ℕ) → x ≤ w → Apart (plus_of s x) (minus_of s x) w
of_size false x w h = omega arith
of_size true x w h = omega arith
