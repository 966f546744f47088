-- Where the code's test `x == 0.0` holds of a computed float: never where the exact fraction is
-- farther from 0 than the error, always where the fraction is 0 and the error too.
use mathlib.Core.Path.{◌≡◌, sym, ap}
use Prim.Native.Nat.{ℕ, ◌+◌, ◌*◌, ◌^◌, ◌≤◌, ◌<◌}
use native.Mathlib.Nat.{le_of_eq, not-le_of_lt, le_of_mul-le-mul_left, le_of_mul-le-mul_right, eq_of_mul-eq-mul_right}
use native.Mathlib.Omega.{arith}
use mathlib.Core.Bool.{Bool, true, false, or-true, beq}
use borrow.Author.Tests.{eq-eqb, ne_eqb}
use lib.IntN.{ℤ, nat_abs}
use lib.Ieee.{Float, nan, inf, fin, binary64, up, down, eq, of_bits}
use lib.Ieee.Fits.{down_pos}
use Rattle.rounding.specs.Close.{Close}
use Rattle.rounding.proofs.Algebra.{Apart, plus_of, minus_of, of_size}
use Rattle.rounding.proofs.Integers.{plus, minus, Diff, of_int_lem, abs_apart}
use Rattle.rounding.proofs.Operations.{by_value}
use Rattle.rounding.proofs.Near.{Near, unit, fine, unit_is, unit-pos, fine_pos}
use Rattle.rounding.proofs.CloseLaws.{within_apart}

-- the test is that of the size
zero_where : (s : Bool) (m : ℕ) (e : ℤ) → m * up e ≡ 0 → eq (fin s m e) (of_bits binary64 0) ≡ true
unfolding eq of_bits
zero_where s m e h = rw (eq-eqb (m * up e * 1) (0 * 1 * down e) (omega arith), eq-eqb (m * up e * 1) 0 (omega arith)) (or-true (beq s false))

nonzero_where : (s : Bool) (m : ℕ) (e : ℤ) → (m * up e ≡ 0 → ⊥) → eq (fin s m e) (of_bits binary64 0) ≡ false
unfolding eq of_bits
nonzero_where s m e h = rw (ne_eqb (m * up e * 1) (0 * 1 * down e) (λ z. h (omega arith)))

-- a / d and c / b are equal, and one is 0
none : (a b c d : ℕ) → 0 < b → a * b ≡ c * d → c ≡ 0 → a ≡ 0
none a b c d B e z = eq_of_mul-eq-mul_right b B a 0 (omega (arith, e, ap (λ (n : ℕ). n * d) z))

-- the fraction is 0, and so is the error
pub near_zero : {x : Float} {a b d k : ℕ} → Near x a b d k 0 → a ≡ b → eq x (of_bits binary64 0) ≡ true
near_zero {x} {a} {b} {d} {k} X h =
    by_value (λ (x : Float). eq x (of_bits binary64 0) ≡ true) X.sign X.size unit (λ m e p. zero_where X.sign m e (none (m * up e) unit X.size (down e) unit-pos p (go X.sign X.size X.near))) x X.value
  where
    small : (z : ℕ) → d * z ≤ d * 0 → z ≡ 0
    small z i = omega (arith, le_of_mul-le-mul_left i X.den)

    go : (s : Bool) (z : ℕ) → Apart (d * plus_of s z + b * unit) (d * minus_of s z + a * unit) (d * (0 * fine)) → z ≡ 0
    go false z i = small z (omega (arith, ap (λ (n : ℕ). n * unit) h))
    go true z i = small z (omega (arith, ap (λ (n : ℕ). n * unit) h))

-- the fraction is farther from 0 than the error
pub near_not_zero : {x : Float} {a b d k e : ℕ} {N : ℤ} → Near x a b d k e → Diff N a b → d * e < nat_abs N * 2 ^ 100 → eq x (of_bits binary64 0) ≡ false
near_not_zero {x} {a} {b} {d} {k} {e} {N} X D h =
    by_value (λ (x : Float). eq x (of_bits binary64 0) ≡ false) X.sign X.size unit
    (λ m f p. nonzero_where X.sign m f (λ z. not-le_of_lt h ((abs_apart N a b (2 ^ 100) (d * e) D).1 (go X.sign X.size (none X.size (down f) (m * up f) unit (down_pos f) (sym p) z) X.near)))) x X.value
  where
    side : (a b w u v : ℕ) → 0 < v → u ≡ w * v → a * u ≤ b * u + d * (e * v) → a * w ≤ b * w + d * e
    side a b w u v P U i = le_of_mul-le-mul_right {k = v} (omega (arith, ap (λ (n : ℕ). a * n) U, ap (λ (n : ℕ). b * n) U)) P

    go : (s : Bool) (z : ℕ) → z ≡ 0 → Apart (d * plus_of s z + b * unit) (d * minus_of s z + a * unit) (d * (e * fine)) → Apart (a * 2 ^ 100) (b * 2 ^ 100) (d * e)
    go s z q i =
        let r : plus_of s z ≡ minus_of s z = omega (arith, of_size s z 0 (le_of_eq q)) in
        let t : d * plus_of s z ≡ d * minus_of s z = ap (λ (n : ℕ). d * n) r in
        (side a b (2 ^ 100) unit fine fine_pos unit_is (omega arith), side b a (2 ^ 100) unit fine fine_pos unit_is (omega arith))

-- the fraction N / d is farther from 0 than 1 / w
pub close_not_zero : (x : Float) (w : ℕ) (N : ℤ) (d : ℕ) → Close w x N d → d < nat_abs N * w → eq x (of_bits binary64 0) ≡ false
close_not_zero nan w N d c h = absurd c.0
close_not_zero (inf s) w N d c h = absurd c.0
close_not_zero (fin s m e) w N d c h = nonzero_where s m e (λ z. not-le_of_lt h ((abs_apart N (plus N) (minus N) w d (of_int_lem N)).1 (go z)))
  where
    side : (a b n : ℕ) → 0 < n → a * n * w ≤ b * n * w + n * d → a * w ≤ b * w + d
    side a b n P i = le_of_mul-le-mul_left {k = n} (omega arith) P

    go : m * up e ≡ 0 → Apart (plus N * w) (minus N * w) d
    go z =
        let M = m * up e in
        let n = down e in
        let r : plus_of s M ≡ minus_of s M = omega (arith, of_size s M 0 (le_of_eq z)) in
        let t : plus_of s M * d * w ≡ minus_of s M * d * w = ap (λ (k : ℕ). k * d * w) r in
        let i = (within_apart (of_int_lem N) w s m e d).0 c.1 in
        (side (plus N) (minus N) n (down_pos e) (omega arith), side (minus N) (plus N) n (down_pos e) (omega arith))
