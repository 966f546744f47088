-- A quotient by a power of two, an exact half to the even whole number: its three cases, and the
-- machine's forms of them.
use Prim.Native.Nat.compare
use Prim.Native.Nat.{Ordering}
use Prim.Native.Nat.{ℕ, zero, suc, ◌+◌, ◌-◌, ◌*◌, ◌/◌, ◌%◌, ◌^◌, ◌≤◌, ◌<◌, compare}
use mathlib.Core.Path.{◌≡◌, ◌∙◌}
use native.Mathlib.Nat.{mod-eq_of_lt, div-eq_of_lt, div-mul-le_self}
use native.Mathlib.Omega.{arith}
use lib.Pow.{pow_mono, split}
use lib.Ieee.Nearest.{closest}
use Rattle.outcome.proofs.Numbers.{shifted_one}

-- ---- what a comparison answers

below : (a b : ℕ) → a < b → compare a b ≡ Ordering.lt
below zero zero h = absurd (omega arith)
below zero (suc b) h = compare.zero-suc b
below (suc a) zero h = absurd (omega arith)
below (suc a) (suc b) h = compare.suc-suc a b ∙ below a b (omega arith)

above : (a b : ℕ) → b < a → compare a b ≡ Ordering.gt
above zero b h = absurd (omega arith)
above (suc a) zero h = compare.suc-zero a
above (suc a) (suc b) h = compare.suc-suc a b ∙ above a b (omega arith)

level : (a b : ℕ) → a ≡ b → compare a b ≡ Ordering.eq
level zero zero h = compare.zero-zero
level zero (suc b) h = absurd (omega arith)
level (suc a) zero h = absurd (omega arith)
level (suc a) (suc b) h = compare.suc-suc a b ∙ level a b (omega arith)

-- ---- below a half, above it, and exactly half

closest-down : (n d : ℕ) → n % d * 2 < d → n / d ≡ closest n d
closest-down n d h = rw (below (n % d * 2) d h)

closest-up : (n d : ℕ) → d < n % d * 2 → n / d + 1 ≡ closest n d
closest-up n d h = rw (above (n % d * 2) d h) (omega arith)

closest_tie : (n d : ℕ) → n % d * 2 ≡ d → n / d + n / d % 2 ≡ closest n d
closest_tie n d h = rw (level (n % d * 2) d h)

-- less than a half of the divisor rounds to 0
closest-none : (n d : ℕ) → n * 2 < d → 0 ≡ closest n d
closest-none n d h =
    let l : n < d = omega arith in
    rw (mod-eq_of_lt l, div-eq_of_lt l, below (n * 2) d h)

-- nothing is left over
pub closest-whole : (n : ℕ) → closest n 1 ≡ n
closest-whole n =
    let a : n % 1 ≡ 0 = omega arith in
    let b : n / 1 ≡ n = omega arith in
    rw (a, b)

-- ---- by shifts

module _ (n p : ℕ) (small : n < 2 ^ 63) where
  pub far : 64 ≤ p → 0 ≡ closest n (2 ^ p)
  far h = closest-none n (2 ^ p) (omega (arith, pow_mono {i = 64} {j = p} h))

  -- the whole part shifted back does not wrap
  pub back : n / 2 ^ p * 2 ^ p % 18446744073709551616 ≡ n / 2 ^ p * 2 ^ p
  back = mod-eq_of_lt {m = 18446744073709551616} (omega (arith, div-mul-le_self n (2 ^ p)))

  pub back_most : n / 2 ^ p * 2 ^ p % 18446744073709551616 ≤ n
  back_most = omega (arith, back, div-mul-le_self n (2 ^ p))

  left_over : n - n / 2 ^ p * 2 ^ p % 18446744073709551616 ≡ n % 2 ^ p
  left_over = omega (arith, back, split n p)

  pub rounds_down : p < 64 → (n - n / 2 ^ p * 2 ^ p % 18446744073709551616) * 2 < 1 * 2 ^ p % 18446744073709551616 → n / 2 ^ p ≡ closest n (2 ^ p)
  rounds_down h l = closest-down n (2 ^ p) (rw (left_over, shifted_one p h) at l)

  pub rounds_up : p < 64 → 1 * 2 ^ p % 18446744073709551616 < (n - n / 2 ^ p * 2 ^ p % 18446744073709551616) * 2 → n / 2 ^ p + 1 ≡ closest n (2 ^ p)
  rounds_up h l = closest-up n (2 ^ p) (rw (left_over, shifted_one p h) at l)

  pub rounds_even : p < 64 → 1 * 2 ^ p % 18446744073709551616 ≤ (n - n / 2 ^ p * 2 ^ p % 18446744073709551616) * 2 → (n - n / 2 ^ p * 2 ^ p % 18446744073709551616) * 2 ≤ 1 * 2 ^ p % 18446744073709551616 → n / 2 ^ p + n / 2 ^ p % 2 ≡ closest n (2 ^ p)
  rounds_even h l m = closest_tie n (2 ^ p) (omega (arith, rw (left_over, shifted_one p h) at l, rw (left_over, shifted_one p h) at m))
