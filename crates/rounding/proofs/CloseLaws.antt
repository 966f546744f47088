-- From `Near` to `Close`, which is what a promise says, and back.
use mathlib.Core.Path.{◌≡◌, refl, sym, ap, ◌∙◌}
use Prim.Native.Nat.{ℕ, ◌+◌, ◌*◌, ◌^◌, ◌≤◌, ◌<◌}
use native.Mathlib.Nat.{zero-mul, mul_comm, mul-pos, mul-le-mul_left, mul-le-mul_right, le_of_mul-le-mul_left}
use native.Mathlib.Omega.{arith}
use mathlib.Core.Bool.{Bool, true, false}
use mathlib.Core.Logic.{◌↔◌}
use lib.IntN.{ℤ, pos, nat_abs, ◌-ℤ◌, ◌*ℤ◌}
use lib.Dec.{T}
use lib.Ieee.{Float, nan, inf, fin, up, down, binary64, fits}
use lib.Ieee.Fits.{down_pos}
use lib.Ieee.Scale.{finite}
use Rattle.rounding.specs.Close.{signed, numerator, denominator, Within, Close}
use Rattle.rounding.proofs.Algebra.{ring, Apart, plus_of, minus_of}
use Rattle.rounding.proofs.Integers.{plus, minus, Diff, of_signed, diff_sub, diff_scale, abs_apart, signed_parts}
use Rattle.rounding.proofs.Operations.{by_value, units_of}
use Rattle.rounding.proofs.Near.{Near, unit, fine, unit_is, unit-low, unit-pos, same_side, exactly}

-- M / n with a sign is X units with the same sign
module _ (M X n u : ℕ) (e : M * u ≡ X * n) where
  plus_units : (s : Bool) → plus_of s M * u ≡ plus_of s X * n
  plus_units false = e
  plus_units true = zero-mul u ∙ sym (zero-mul n)

  minus_units : (s : Bool) → minus_of s M * u ≡ minus_of s X * n
  minus_units false = zero-mul u ∙ sym (zero-mul n)
  minus_units true = e

-- `Within` of a finite `f64` and N / d, which is (A - B) / d, over naturals
pub within_apart : {N : ℤ} {A B : ℕ} → Diff N A B → (w : ℕ) (s : Bool) (m : ℕ) (e : ℤ) (d : ℕ)
    → Within w (numerator (fin s m e)) (denominator (fin s m e)) N d ↔ Apart ((plus_of s (m * up e) * d + B * down e) * w) ((minus_of s (m * up e) * d + A * down e) * w) (down e * d)
within_apart {N} {A} {B} D w s m e d = (λ h. iff.0 (omega (arith, h)), λ h. omega (arith, iff.1 h))
  where
    z : ℤ
    z = signed s (m * up e) *ℤ pos d -ℤ N *ℤ pos (down e)

    iff : (nat_abs z * w ≤ down e * d) ↔ Apart ((plus_of s (m * up e) * d + B * down e) * w) ((minus_of s (m * up e) * d + A * down e) * w) (down e * d)
    iff = abs_apart z (plus_of s (m * up e) * d + B * down e) (minus_of s (m * up e) * d + A * down e) w (down e * d) (diff_sub (diff_scale (of_signed s (m * up e)) d) (diff_scale D (down e)))

-- one side, from units to the fraction P / n and from e / 2 ^ 100 to 1 / w; and back
module _ (d xp xn P Q A B e n w u v : ℕ) (p : P * u ≡ xp * n) (q : Q * u ≡ xn * n) where
  from-units : 0 < u → e * w * v ≤ u → d * xp + B * u ≤ d * xn + A * u + d * (e * v) → (P * d + B * n) * w ≤ (Q * d + A * n) * w + n * d
  from-units U l h =
      let i : u * ((P * d + B * n) * w) ≤ u * ((Q * d + A * n) * w + n * d) =
      simp ring (omega (arith, simp ring at (ap (λ (x : ℕ). x * (d * w)) p), simp ring at (ap (λ (x : ℕ). x * (d * w)) q), simp ring at (mul-le-mul_left (d * n) l), simp ring at (mul-le-mul_left (n * w) h))) in
      le_of_mul-le-mul_left i U

  to-units : 0 < n * w → u ≤ e * w * v → (P * d + B * n) * w ≤ (Q * d + A * n) * w + n * d → d * xp + B * u ≤ d * xn + A * u + d * (e * v)
  to-units W l h =
      let i : n * w * (d * xp + B * u) ≤ n * w * (d * xn + A * u + d * (e * v)) =
      simp ring (omega (arith, simp ring at (ap (λ (x : ℕ). x * (d * w)) p), simp ring at (ap (λ (x : ℕ). x * (d * w)) q), simp ring at (mul-le-mul_left (d * n) l), simp ring at (mul-le-mul_left u h))) in
      le_of_mul-le-mul_left i W

-- near (a - b) / c, which is N / d, and the error is at most 1 / w
pub near_close : {x : Float} {a b c k e : ℕ} {N : ℤ} {A B : ℕ} → Near x a b c k e → Diff N A B → (w d : ℕ) → a * d + B * c ≡ A * c + b * d → e * w ≤ 2 ^ 100 → Close w x N d
near_close {x} {a} {b} {c} {k} {e} {N} {A} {B} X D w d q small =
    by_value (λ (x : Float). Close w x N d) X.sign X.size unit
    (λ m f p. (tt, (within_apart D w X.sign m f d).1 (sides (m * up f) (down f) p))) x X.value
  where
    sides : (M n : ℕ) → M * unit ≡ X.size * n → Apart ((plus_of X.sign M * d + B * n) * w) ((minus_of X.sign M * d + A * n) * w) (n * d)
    sides M n p =
        let s = X.sign in
        let xp = plus_of s X.size in
        let xn = minus_of s X.size in
        let l : e * w * fine ≤ unit = rw unit_is (mul-le-mul_right fine small) in
        let pu = plus_units M X.size n unit p s in
        let mu = minus_units M X.size n unit p s in (
          from-units d xp xn (plus_of s M) (minus_of s M) A B e n w unit fine pu mu unit-pos l (same_side c xp xn a b A B d e X.den q X.near.0),
          from-units d xn xp (minus_of s M) (plus_of s M) B A e n w unit fine mu pu unit-pos l (same_side c xn xp b a B A d e X.den (omega arith) X.near.1),
        )

-- an `f64` that is within 1 / w of N / d is near it, where N / d is at most k in size and 1 / w at
-- most e / 2 ^ 100
pub close_near : (x : Float) {N : ℤ} {A B : ℕ} → T (fits binary64 x) → Diff N A B → (w d k e : ℕ) → 0 < w → 0 < d → A ≤ B + d * k → B ≤ A + d * k → 2 ^ 100 ≤ w * e
    → Close w x N d → Near x A B d k e
close_near nan t D w d k e W P a b l c = absurd c.0
close_near (inf s) t D w d k e W P a b l c = absurd c.0
close_near (fin s m f) {N} {A} {B} t D w d k e W P a b l c =
    let M = m * up f in
    let n = down f in
    let Z = units_of binary64 unit unit-low s m f t in
    let X = Z.0 in
    let pu = plus_units M X n unit Z.1 s in
    let mu = minus_units M X n unit Z.1 s in
    let g : unit ≤ e * w * fine = rw (unit_is, mul_comm e w) (mul-le-mul_right fine l) in
    let h = (within_apart D w s m f d).0 c.1 in
    record {
      sign = s;
      size = X;
      value = (refl, Z.1);
      den = P;
      bound = (a, b);
      near = (
        to-units d (plus_of s X) (minus_of s X) (plus_of s M) (minus_of s M) A B e n w unit fine pu mu (mul-pos (down_pos f) W) g h.0,
        to-units d (minus_of s X) (plus_of s X) (minus_of s M) (plus_of s M) B A e n w unit fine mu pu (mul-pos (down_pos f) W) g h.1,
      );
    }

-- a finite `f64` is exactly the fraction that it means
pub near_own : (x : Float) (k : ℕ) → T (fits binary64 x) → T (finite x) → nat_abs (numerator x) ≤ denominator x * k → Near x (plus (numerator x)) (minus (numerator x)) (denominator x) k 0
near_own nan k t f h = absurd f
near_own (inf s) k t f h = absurd f
near_own (fin s m e) k t f h =
    let c = signed_parts s (m * up e) in
    let Z = units_of binary64 unit unit-low s m e t in
    rw (c.0, c.1) (exactly (fin s m e) s Z.0 (m * up e) (down e) k (refl, Z.1) (down_pos e) Z.1 (rw c.2 at h))
