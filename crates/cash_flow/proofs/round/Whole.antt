-- The nearest whole number, a half up: what it means, that equal fractions have the same one, and
-- how a shift finds it.
use Prim.Native.Nat.{ℕ, zero, suc, ◌+◌, ◌-◌, ◌*◌, ◌/◌, ◌^◌, ◌≤◌, ◌<◌}
use mathlib.Core.Path.{◌≡◌, refl, sym, ap, ◌∙◌}
use native.Mathlib.Nat.{lt_of_lt_of_le, mul-pos, mul_assoc, mul_comm, div-add-mod', mod-lt, div-eq_of_lt, div-eq_of_eq-mul_left, div-div-eq-div-mul, add-mul-div_right, div-le_self}
use native.Mathlib.Omega.{arith}
use lib.Pow.{pow-add, pow_pos, pow_mono, shl_lt}
use lib.Ieee.Nearest.{div_same}
use Rattle.rounding.proofs.Algebra.{Apart}
use Rattle.cash_flow.specs.round.RoundedAmounts.{nearest_whole}
use Rattle.cash_flow.specs.round.Fields.{size_of}

-- ---- what it means

-- twice the distance from n / d to the number chosen is 1 at the most, multiplied out by d
pub nearest_near : (n d : ℕ) → 0 < d → Apart (nearest_whole n d * d * 2) (n * 2) d
unfolding nearest_whole
nearest_near n d D = omega (arith, div-add-mod' (2 * n + d) (2 * d), mod-lt (2 * n + d) {m = 2 * d} (omega arith))

-- exactly half way between w and w + 1 it is w + 1
pub nearest_tie : (n d w : ℕ) → 0 < d → n * 2 ≡ (2 * w + 1) * d → nearest_whole n d ≡ w + 1
unfolding nearest_whole
nearest_tie n d w D h = div-eq_of_eq-mul_left {n = 2 * d} (omega arith) (omega arith)

pub nearest-same : (a b c d : ℕ) → 0 < b → 0 < d → a * d ≡ c * b → nearest_whole a b ≡ nearest_whole c d
unfolding nearest_whole
nearest-same a b c d B D e = div_same (2 * a + b) (2 * b) (2 * c + d) (2 * d) (omega arith) (omega arith) (omega arith)

-- ---- less than a half

nearest-none : (n h d : ℕ) → n < h → h * 2 ≡ d → nearest_whole n d ≡ 0
unfolding nearest_whole
nearest-none n h d l e = div-eq_of_lt (omega arith)

-- below the field 1022
size_small : (f m : ℕ) → f < 1022 → m < 2 ^ 52 → size_of f m < 2 ^ 1073
unfolding size_of
size_small zero m h l = lt_of_lt_of_le l (pow_mono {i = 52} {j = 1073} (omega arith))
size_small (suc k) m h l = lt_of_lt_of_le (shl_lt {a = 4503599627370496 + m} 53 k (omega arith)) (pow_mono {i = 53 + k} {j = 1073} (omega arith))

pub whole-none : (f m : ℕ) → f < 1022 → m < 2 ^ 52 → 0 ≡ nearest_whole (size_of f m) (2 ^ 1074)
whole-none f m h l = sym (nearest-none (size_of f m) (2 ^ 1073) (2 ^ 1074) (size_small f m h l) refl)

-- ---- by a shift that keeps one bit more than the whole part

by_halves : (q p : ℕ) → 0 < p → (q / p + 1) / 2 ≡ nearest_whole q (p * 2)
unfolding nearest_whole
by_halves q p P =
    ap (λ (n : ℕ). n / 2) (sym (add-mul-div_right q 1 {z = p} P))
    ∙ div-div-eq-div-mul (q + 1 * p) p 2
    ∙ div_same (q + 1 * p) (p * 2) (2 * q + p * 2) (2 * (p * 2)) (omega arith) (omega arith) (omega arith)

pub whole-some : (f m : ℕ) → 1 ≤ f → f ≤ 1074 → ((4503599627370496 + m) / 2 ^ (1074 - f) + 1) / 2 ≡ nearest_whole (size_of f m) (2 ^ 1074)
unfolding size_of
whole-some zero m h l = absurd (omega arith)
whole-some (suc k) m h l =
    let q : ℕ = 4503599627370496 + m in
    let j : ℕ = 1074 - suc k in
    let s : j + 1 + k ≡ 1074 = omega arith in
    let e : 2 ^ j * 2 * 2 ^ k ≡ 2 ^ 1074 = sym (pow-add 2 (j + 1) k ∙ ap (λ (x : ℕ). x * 2 ^ k) (pow-add 2 j 1)) ∙ ap (λ (x : ℕ). 2 ^ x) s in
    by_halves q (2 ^ j) (pow_pos j)
    ∙ nearest-same q (2 ^ j * 2) (q * 2 ^ k) (2 ^ 1074) (mul-pos (pow_pos j) (omega arith)) (pow_pos 1074)
    (ap (λ (x : ℕ). q * x) (sym e) ∙ turn q (2 ^ j * 2) (2 ^ k))
  where
    turn : (q p r : ℕ) → q * (p * r) ≡ q * r * p
    turn q p r = simp (mul_assoc, mul_comm)

pub whole-most : (q p : ℕ) → q < 2 ^ 53 → q / p + 1 ≤ 2 ^ 53
whole-most q p h = omega (arith, div-le_self q p)
