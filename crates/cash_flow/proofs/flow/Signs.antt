-- A number's sign dropped, by the library's `abs` and by negating what is below zero.
use Prim.Native.Nat.{ℕ, zero, suc, ◌+◌, ◌*◌, ◌≤◌, ◌<◌}
use mathlib.Core.Path.{◌≡◌, refl, sym, ap, ◌∙◌}
use mathlib.Core.Bool.{Bool, true, false, ◌||◌, false≢true}
use native.Mathlib.Nat.{mul-pos, zero-mul, zero-add}
use native.Mathlib.Omega.{arith}
use lib.IntN.{ℤ}
use lib.Ieee.{Float, nan, inf, fin, binary64, up, down, below, level, neg, lt, eq, le, of_bits}
use lib.Ieee.Fits.{up_pos}
use borrow.Author.Tests.{ltb-false, le-ltb}
use Rattle.std.specs.Float.{float_with_sign}
use Rattle.cash_flow.specs.flow.Flows.{absolute, is_within}

-- the library's is the paper's
pub sign_dropped : (d : Float) → float_with_sign false d ≡ absolute d
unfolding float_with_sign absolute
sign_dropped nan = refl
sign_dropped (inf s) = refl
sign_dropped (fin s m e) = refl

-- a number below zero, negated, has its sign dropped
pub below-zero : (d tol : Float) → lt d (of_bits binary64 0) ≡ true → le (neg d) tol ≡ is_within d tol
unfolding is_within absolute lt neg of_bits
below-zero nan tol h = absurd (false≢true h)
below-zero (inf true) tol h = refl
below-zero (inf false) tol h = absurd (false≢true h)
below-zero (fin true m e) tol h = refl
below-zero (fin false m e) tol h = absurd (false≢true (sym (le-ltb (m * up e * 1) (0 * down e) (omega (arith, zero-mul (down e)))) ∙ h))

-- a zero has no sign that a comparison sees
zero-level : (t : Bool) (n : ℕ) → (below true 0 t n || level true 0 t n) ≡ (below false 0 t n || level false 0 t n)
zero-level true n = rw (le-ltb n 0 (omega arith))
zero-level false n = rw (zero-add)

zero_sign : (e : ℤ) (tol : Float) → le (fin true 0 e) tol ≡ le (fin false 0 e) tol
unfolding le lt eq
zero_sign e nan = refl
zero_sign e (inf t) = refl
zero_sign e (fin t n x) =
    let z : 0 * up e * down x ≡ 0 = rw (zero-mul, zero-mul) in
    ap (λ (a : ℕ). below true a t (n * up x * down e) || level true a t (n * up x * down e)) z
    ∙ zero-level t (n * up x * down e)
    ∙ ap (λ (a : ℕ). below false a t (n * up x * down e) || level false a t (n * up x * down e)) (sym z)

no_digits : (m : ℕ) (e : ℤ) → m * up e ≤ 0 → m ≡ 0
no_digits zero e h = refl
no_digits (suc m) e h =
    let z : 0 < suc m * up e = mul-pos (omega arith) (up_pos e) in
    absurd (omega arith)

pub not-below : (d tol : Float) → lt d (of_bits binary64 0) ≡ false → le d tol ≡ is_within d tol
unfolding is_within absolute lt of_bits
not-below nan tol h = refl
not-below (inf true) tol h = absurd (false≢true (sym h))
not-below (inf false) tol h = refl
not-below (fin false m e) tol h = refl
not-below (fin true m e) tol h =
    let z : m ≡ 0 = no_digits m e (omega (arith, ltb-false 0 (m * up e * 1 + 0 * down e) h, zero-mul (down e))) in
    rw (z) (zero_sign e tol)
