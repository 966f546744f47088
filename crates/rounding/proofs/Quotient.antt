-- The quotient of two values that are `Near` fractions, where the divisor's is at least m, a whole
-- number above 0; and by a whole number, which is exact.
use mathlib.Core.Path.{◌≡◌, refl, sym, ap, subst}
use Prim.Native.Nat.{ℕ, ◌+◌, ◌*◌, ◌^◌, ◌≤◌, ◌<◌, zero-le}
use native.Mathlib.Nat.{lt_of_lt_of_le, lt_of_le_of_lt, mul-le-mul_left, mul-le-mul_right, mul-lt-mul_of_pos_right, le_of_mul-le-mul_left, lt_of_mul-lt-mul_left, mul-pos}
use native.Mathlib.Omega.{arith}
use mathlib.Core.Bool.{Bool, true, false}
use lib.IntN.{pos}
use lib.Ieee.{Float, binary64, div, of_int}
use lib.Ieee.Exact.{HasValue}
use lib.Ieee.Positive.{first_pos}
use Rattle.rounding.proofs.Algebra.{ring, Apart, cross, plus_of, minus_of}
use Rattle.rounding.proofs.Operations.{div_near}
use Rattle.rounding.proofs.Near.{Near, unit, fine, unit_is, unit-pos, fine_pos, unit-low, scale, in_range, near_size, landed, near_int, near_same}

-- (x - a/d) / y + a/d * (c/q - y) / (y * c/q) is what the quotient is off by, and h its rounding:
-- one side, for y of Z units
side : (rp rn xp xn a b d k e c q f Z e' h u v : ℕ) → 0 < Z → Z * rp + xn * u ≤ Z * rn + xp * u + Z * (h * v) → d * xp + b * u ≤ d * xn + a * u + d * (e * v)
    → a * (c * u) + b * (q * Z) ≤ a * (q * Z) + b * (c * u) + d * k * (q * (f * v)) → (c * e + k * q * f) * u ≤ c * Z * e'
    → d * c * rp + b * q * u ≤ d * c * rn + a * q * u + d * c * ((e' + h) * v)
side rp rn xp xn a b d k e c q f Z e' h u v P i x y l =
    let z : Z * (d * c * rp + b * q * u) ≤ Z * (d * c * rn + a * q * u + d * c * ((e' + h) * v)) =
    simp ring (omega (arith, simp ring at (mul-le-mul_left (d * c) i), simp ring at (mul-le-mul_left (c * u) x), simp ring at (mul-le-mul_left u y), simp ring at (mul-le-mul_left (d * v) l))) in
    le_of_mul-le-mul_left z P

-- a divisor that is near a fraction of at least m is above 0, and at least m less its error
module _ (c q m f u v : ℕ) (Q : 0 < q) (l : m * q ≤ c) (i : f * v < m * u) where
  above : (s : Bool) (Z : ℕ) → q * minus_of s Z + c * u ≤ q * plus_of s Z + 0 * u + q * (f * v) → (s ≡ false) × (m * u ≤ Z + f * v)
  above false Z h = (refl, le_of_mul-le-mul_left {k = q} (simp ring (omega (arith, simp ring at h, simp ring at (mul-le-mul_right u l)))) Q)
  above true Z h = absurd (omega (arith, mul-le-mul_right u l, mul-lt-mul_of_pos_right i Q))

-- what the side conditions on m, k', e' and t give of a divisor of Z units
module _ (k e f m k' e' t u v : ℕ) (U : u ≡ 2 ^ 100 * v) where
  -- the quotient is below 2 ^ t
  below : (X Z : ℕ) → 0 < u → 0 < v → k * 2 ^ 100 + e + 2 ^ t * f < 2 ^ t * m * 2 ^ 100 → X ≤ k * u + e * v → m * u ≤ Z + f * v → X * u < 2 ^ t * u * Z
  below X Z P Q h x z =
      let i : X < 2 ^ t * Z = omega (arith, mul-lt-mul_of_pos_right h Q, mul-le-mul_left (2 ^ t) z, ap (λ (n : ℕ). k * n) U, ap (λ (n : ℕ). 2 ^ t * m * n) U) in
      omega (arith, mul-lt-mul_of_pos_right i P)

  -- its error is at most e'
  spread : (c q Z : ℕ) → m * q ≤ c → k ≤ m * k' → (e + k' * f) * 2 ^ 100 + f * e' ≤ m * 2 ^ 100 * e' → m * u ≤ Z + f * v → (c * e + k * q * f) * u ≤ c * Z * e'
  spread c q Z l kk ee z =
      let i : (e + k' * f) * u ≤ Z * e' = omega (arith, mul-le-mul_right v ee, mul-le-mul_right e' z, ap (λ (n : ℕ). (e + k' * f) * n) U, ap (λ (n : ℕ). m * e' * n) U) in
      let j : k * q ≤ c * k' = omega (arith, mul-le-mul_right q kk, mul-le-mul_right k' l) in
      omega (arith, mul-le-mul_left c i, mul-le-mul_right (f * u) j)

module _ {x y : Float} {a b d k e c q l f : ℕ} (X : Near x a b d k e) (Y : Near y c 0 q l f) (m k' e' t : ℕ) (least : m * q ≤ c) (kk : k ≤ m * k')
    (ee : (e + k' * f) * 2 ^ 100 + f * e' ≤ m * 2 ^ 100 * e') (T : t ≤ 900) (room : k * 2 ^ 100 + e + 2 ^ t * f < 2 ^ t * m * 2 ^ 100) where
  -- x / y is near the quotient of the fractions; its size is at most k', and e' is its error before
  -- it is rounded
  pub near_quot : Near (div binary64 x y) (a * q) (b * q) (d * c) k' (e' + 2 ^ (46 + t))
  near_quot =
      let xp = plus_of X.sign X.size in
      let xn = minus_of X.sign X.size in
      let Z = Y.size in
      let h = 2 ^ (46 + t) in
      let small : f * fine < m * unit = smaller unit fine fine_pos unit_is in
      let S = above c q m f unit fine Y.den least small Y.sign Z Y.near.1 in
      let P : 0 < Z = larger Z (m * unit) (f * fine) small S.1 in
      let M : 0 < m = first_pos m unit (lt_of_le_of_lt zero-le small) in
      let off : Apart (c * unit) (q * Z) (q * (f * fine)) =
      turned q Z (c * unit) unit (q * (f * fine)) (subst (λ (s : Bool). Apart (q * plus_of s Z + 0 * unit) (q * minus_of s Z + c * unit) (q * (f * fine))) S.0 Y.near) in
      let err : (c * e + k * q * f) * unit ≤ c * Z * e' = spread k e f m k' e' t unit fine unit_is c q Z least kk ee S.1 in
      landed t
      (div_near binary64 unit unit-low x y X.sign X.size Z (1074 + t) X.value (subst (λ (s : Bool). HasValue y s Z unit) S.0 Y.value) P
      (subst (λ (z : ℕ). X.size * unit < z * Z) (sym (scale t)) (below k e f m k' e' t unit fine unit_is X.size Z unit-pos fine_pos room (near_size X) S.1)) (in_range t T))
      (mul-pos X.den (lt_of_lt_of_le (mul-pos M Y.den) least)) (bound a b X.bound.0, bound b a X.bound.1)
      (λ rp rn i. side rp rn xp xn a b d k e c q f Z e' h unit fine P i X.near.0 (cross a b (d * k) (c * unit) (q * Z) (q * (f * fine)) X.bound off) err)
      (λ rp rn i. side rp rn xn xp b a d k e c q f Z e' h unit fine P i X.near.1 (cross b a (d * k) (c * unit) (q * Z) (q * (f * fine)) (X.bound.1, X.bound.0) off) err)
    where
      smaller : (u v : ℕ) → 0 < v → u ≡ 2 ^ 100 * v → f * v < m * u
      smaller u v P U =
          let i : f < m * 2 ^ 100 = lt_of_mul-lt-mul_left (2 ^ t) (omega arith) in
          omega (arith, mul-lt-mul_of_pos_right i P, ap (λ (n : ℕ). m * n) U)

      larger : (Z p r : ℕ) → r < p → p ≤ Z + r → 0 < Z
      larger Z p r h i = omega arith

      turned : (q Z C u w : ℕ) → Apart (q * Z + 0 * u) (q * 0 + C) w → Apart C (q * Z) w
      turned q Z C u w h = omega arith

      bound : (a b : ℕ) → a ≤ b + d * k → a * q ≤ b * q + d * c * k'
      bound a b h = omega (arith, mul-le-mul_right q h, mul-le-mul_right (d * q) kk, mul-le-mul_right (d * k') least)

-- x / q for a whole number q, which is exact: the error is the q-th part of x's
pub near_div : {x : Float} {a b d k e : ℕ} → Near x a b d k e → (q k' e' t : ℕ) → 0 < q → q < 2 ^ 53 → k ≤ q * k' → e ≤ q * e' → t ≤ 900 → k < 2 ^ t * q → e < 2 ^ 100
    → Near (div binary64 x (of_int binary64 (pos q))) a b (d * q) k' (e' + 2 ^ (46 + t))
near_div {x} {a} {b} {d} {k} {e} X q k' e' t Q Q' kk ee T room i =
    near_same (near_quot X (near_int (pos q) q (omega arith) Q') q k' e' t (omega arith) kk (parts (2 ^ 100)) T (fits_in (2 ^ 100) i)) a b (d * q) (mul-pos X.den Q) (omega arith)
  where
    parts : (w : ℕ) → (e + k' * 0) * w + 0 * e' ≤ q * w * e'
    parts w = omega (arith, mul-le-mul_right w ee)

    fits_in : (w : ℕ) → e < w → k * w + e + 2 ^ t * 0 < 2 ^ t * q * w
    fits_in w h = omega (arith, mul-le-mul_right w room)
