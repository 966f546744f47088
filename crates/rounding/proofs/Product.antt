-- The product of two values that are `Near` fractions, of either sign.
use mathlib.Core.Path.{◌≡◌, refl, sym, ◌∙◌, ap, ap₂, subst}
use Prim.Native.Nat.{ℕ, ◌+◌, ◌*◌, ◌^◌, ◌≤◌, ◌<◌}
use native.Mathlib.Nat.{le_of_lt, mul-le-mul_left, mul-le-mul_right, mul-lt-mul_of_pos_left, mul-lt-mul_of_pos_right, mul_comm, mul_right_comm, le_of_mul-le-mul_left, eq_of_mul-eq-mul_right, mul-pos}
use native.Mathlib.Omega.{arith}
use mathlib.Core.Bool.{Bool, true, false, cond}
use lib.IntN.{pos}
use lib.Dec.{lit<, eqb}
use lib.Ieee.{Float, nan, inf, fin, Format, binary64, unlike, up, down, round, mul, of_int}
use lib.Ieee.Fits.{down_pos}
use lib.Ieee.Scale.{round_same}
use Rattle.rounding.proofs.Algebra.{ring, Apart, cross, plus_of, minus_of, of_size}
use Rattle.rounding.proofs.Operations.{by_value, mul_near, whole-value}
use Rattle.rounding.proofs.Near.{Near, unit, fine, unit_is, unit-pos, fine_pos, unit-low, scale, in_range, near_size, landed}

-- (x - a/d) * y + a/d * (y - c/q) is what the product is off by, and h its rounding: one side, with
-- y at most m and a/d at most k in size
side : (rp rn xp xn yp yn a b d k e c g q f m h u v : ℕ) → 0 < u → u * rp + (xp * yn + xn * yp) ≤ u * rn + (xp * yp + xn * yn) + u * (h * v)
    → yp * (d * xp + b * u) + yn * (d * xn + a * u) ≤ yp * (d * xn + a * u) + yn * (d * xp + b * u) + m * u * (d * (e * v))
    → a * (q * yp + g * u) + b * (q * yn + c * u) ≤ a * (q * yn + c * u) + b * (q * yp + g * u) + d * k * (q * (f * v))
    → d * q * rp + (a * g + b * c) * u ≤ d * q * rn + (a * c + b * g) * u + d * q * ((e * m + k * f + h) * v)
side rp rn xp xn yp yn a b d k e c g q f m h u v P i x y =
    let z : u * (d * q * rp + (a * g + b * c) * u) ≤ u * (d * q * rn + (a * c + b * g) * u + d * q * ((e * m + k * f + h) * v)) =
    simp ring (omega (arith, simp ring at (mul-le-mul_left (d * q) i), simp ring at (mul-le-mul_left q x), simp ring at (mul-le-mul_left u y))) in
    le_of_mul-le-mul_left z P

under : (X k e u v : ℕ) → 0 < v → u ≡ 2 ^ 100 * v → e < 2 ^ 100 → X ≤ k * u + e * v → X < (k + 1) * u
under X k e u v P U i x = omega (arith, mul-lt-mul_of_pos_right i P)

module _ {x y : Float} {a b d k e c g q l f : ℕ} (X : Near x a b d k e) (Y : Near y c g q l f) (t : ℕ) (T : t ≤ 900) (room : (k + 1) * (l + 1) ≤ 2 ^ t) (es : e < 2 ^ 100) (fs : f < 2 ^ 100) where
  -- x * y is near the product of the fractions
  pub near_mul : Near (mul binary64 x y) (a * c + b * g) (a * g + b * c) (d * q) (k * l) (e * (l + 1) + k * f + 2 ^ (46 + t))
  near_mul =
      let xp = plus_of X.sign X.size in
      let xn = minus_of X.sign X.size in
      let yp = plus_of Y.sign Y.size in
      let yn = minus_of Y.sign Y.size in
      let m = l + 1 in
      let wx : X.size < (k + 1) * unit = under X.size k e unit fine fine_pos unit_is es (near_size X) in
      let wy : Y.size < m * unit = under Y.size l f unit fine fine_pos unit_is fs (near_size Y) in
      let size : Apart yp yn (m * unit) = of_size Y.sign Y.size (m * unit) (le_of_lt wy) in
      landed t
      (mul_near binary64 unit unit-low x y X.sign X.size Y.sign Y.size (1074 + t) X.value Y.value
      (subst (λ (z : ℕ). X.size * Y.size < z * unit) (sym (scale t)) (product X.size Y.size unit unit-pos wx wy)) (in_range t T))
      (mul-pos X.den Y.den) (bounds X.bound Y.bound)
      (λ rp rn i. side rp rn xp xn yp yn a b d k e c g q f m (2 ^ (46 + t)) unit fine unit-pos i
      (cross yp yn (m * unit) (d * xp + b * unit) (d * xn + a * unit) (d * (e * fine)) size X.near)
      (cross a b (d * k) (q * yp + g * unit) (q * yn + c * unit) (q * (f * fine)) X.bound Y.near))
      (λ rp rn i. side rp rn xp xn yn yp a b d k e g c q f m (2 ^ (46 + t)) unit fine unit-pos i
      (cross yn yp (m * unit) (d * xp + b * unit) (d * xn + a * unit) (d * (e * fine)) (size.1, size.0) X.near)
      (cross a b (d * k) (q * yn + c * unit) (q * yp + g * unit) (q * (f * fine)) X.bound (Y.near.1, Y.near.0)))
    where
      product : (X Y u : ℕ) → 0 < u → X < (k + 1) * u → Y < (l + 1) * u → X * Y < 2 ^ t * u * u
      product X Y u P h i =
          let z : 0 < (k + 1) * u = omega arith in
          omega (arith, mul-le-mul_right Y (le_of_lt h), mul-lt-mul_of_pos_left i z, mul-le-mul_right (u * u) room)

      bounds : Apart a b (d * k) → Apart c g (q * l) → Apart (a * c + b * g) (a * g + b * c) (d * q * (k * l))
      bounds h i = omega (arith, cross a b (d * k) c g (q * l) h i, cross a b (d * k) g c (q * l) h (i.1, i.0))

-- two whole numbers below 2 ^ 53 multiply as whole numbers do
pub whole-mul : (a b : ℕ) → a < 2 ^ 53 → b < 2 ^ 53 → mul binary64 (of_int binary64 (pos a)) (of_int binary64 (pos b)) ≡ of_int binary64 (pos (a * b))
unfolding mul of_int
whole-mul a b h i =
    by_value (λ (x : Float). mul binary64 x (of_int binary64 (pos b)) ≡ of_int binary64 (pos (a * b))) false (a * unit) unit
    (λ m e p. by_value (λ (y : Float). mul binary64 (fin false m e) y ≡ of_int binary64 (pos (a * b))) false (b * unit) unit
    (λ n d q. round_same binary64 false (m * up e * (n * up d)) (down e * down d) (a * b) 1 (mul-pos (down_pos e) (down_pos d)) (lit< tt)
    (both (m * up e) (n * up d) (down e) (down d) (exact (m * up e) a (down e) p) (exact (n * up d) b (down d) q)))
    (of_int binary64 (pos b)) (whole-value binary64 unit unit-low false b i)) (of_int binary64 (pos a)) (whole-value binary64 unit unit-low false a h)
  where
    exact : (M a c : ℕ) → M * unit ≡ a * unit * c → M ≡ a * c
    exact M a c p = eq_of_mul-eq-mul_right unit unit-pos M (a * c) (p ∙ mul_right_comm a unit c)

    both : (M N c d : ℕ) → M ≡ a * c → N ≡ b * d → M * N * 1 ≡ a * b * (c * d)
    both M N c d p q = rw (p, q) (simp ring)

-- the product is one in either order
unlike_turned : (s t : Bool) → unlike s t ≡ unlike t s
unlike_turned true true = refl
unlike_turned true false = refl
unlike_turned false true = refl
unlike_turned false false = refl

pub mul_turned : (f : Format) (x y : Float) → mul f x y ≡ mul f y x
unfolding mul
mul_turned f nan nan = refl
mul_turned f nan (inf t) = refl
mul_turned f nan (fin t n d) = refl
mul_turned f (inf s) nan = refl
mul_turned f (inf s) (inf t) = ap inf (unlike_turned s t)
mul_turned f (inf s) (fin t n d) = ap (λ (b : Bool). cond (eqb n 0) nan (inf b)) (unlike_turned s t)
mul_turned f (fin s m e) nan = refl
mul_turned f (fin s m e) (inf t) = ap (λ (b : Bool). cond (eqb m 0) nan (inf b)) (unlike_turned s t)
mul_turned f (fin s m e) (fin t n d) =
    ap (λ (b : Bool). round f b (m * up e * (n * up d)) (down e * down d)) (unlike_turned s t)
    ∙ ap₂ (round f (unlike t s)) (mul_comm (m * up e) (n * up d)) (mul_comm (down e) (down d))
