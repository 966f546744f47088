-- Numbers as the code compares and shifts them: whole, signed and binary.
use Prim.Native.Nat.{ℕ, zero, suc, ◌+◌, ◌-◌, ◌*◌, ◌/◌, ◌%◌, ◌^◌, ◌≤◌, ◌<◌}
use mathlib.Core.Path.{◌≡◌, refl, sym, ap, ◌∙◌, subst}
use mathlib.Core.Bool.{true, false, not}
use mathlib.Core.Logic.{◌⊎◌, inl, inr, ⊎_elim}
use native.Mathlib.Nat.{one-mul, mod-eq_of_lt, pow-suc, div-div-eq-div-mul}
use native.Mathlib.Omega.{arith}
use lib.Dec.{T, leb, ltb}
use lib.Ieee.{Float, nan, inf, fin, ne, is_nan}
use lib.IntN.{ℤ, pos, negsuc, neg_ℤ, ◌-ℤ◌, +ℤ_idl}
use lib.Pow.{pow-lt}
use lib.Signed.{lt_z, le_z, mag}
use mir.Syntax.{Width, w32, w64}
use mir.Val.{SFits, hbits, to_z, of_z}
use mir.Facts.{to_z-of_z, to_z_pos, sfits_widen}
use borrow.Author.Tests.{not-true, lt-leb, le-leb, leb-true, lt-ltb, le-ltb}
use Rattle.outcome.specs.Outcome.{both}
use Rattle.outcome.proofs.Outcomes.{both_true}

pub lt_or_le : (a b : ℕ) → (a < b) ⊎ (b ≤ a)
lt_or_le zero zero = inr (omega arith)
lt_or_le zero (suc b) = inl (omega arith)
lt_or_le (suc a) zero = inr (omega arith)
lt_or_le (suc a) (suc b) = ⊎_elim (λ p. inl (omega arith)) (λ q. inr (omega arith)) (lt_or_le a b)

-- a number that is not k, from k on
pub next_up : (k n : ℕ) → k ≤ n → (n ≡ k → ⊥) → suc k ≤ n
next_up k n h e = omega arith

-- a power of two, as a shift gives it
pub shifted_one : (p : ℕ) → p < 64 → 1 * 2 ^ p % 18446744073709551616 ≡ 2 ^ p
shifted_one p h = rw (one-mul (2 ^ p)) (mod-eq_of_lt {m = 18446744073709551616} (pow-lt {j = 64} h))

-- digits to any base: without the last of them, one fewer is cut off
pub digits_apart : (b n m k : ℕ) → k < m → n / b ^ (m - (k + 1)) / b ≡ n / b ^ (m - k)
digits_apart b n m k h =
    let j : ℕ = m - (k + 1) in
    let e : m - k ≡ suc j = omega arith in
    div-div-eq-div-mul n (b ^ j) b ∙ rw (e) (ap (λ (x : ℕ). n / x) (sym (pow-suc b j)))

-- a number between two others, as a test says it
pub between : (a n b : ℕ) → both (leb a n) (leb n b) ≡ true → (a ≤ n) × (n ≤ b)
between a n b e = let p = both_true (leb a n) (leb n b) e in (leb-true a n p.0, leb-true n b p.1)

on-whole : (m n : ℕ) → leb n m ≡ not (ltb m n)
on-whole m n = ⊎_elim (λ l. rw (lt-ltb m n l, lt-leb n m l)) (λ l. rw (le-ltb m n l, le-leb n m l)) (lt_or_le m n)

-- of two signed numbers one is at most the other exactly where the other is not below it
at_most_is : (a b : ℤ) → le_z b a ≡ not (lt_z a b)
at_most_is (pos m) (pos n) = on-whole m n
at_most_is (pos m) (negsuc n) = refl
at_most_is (negsuc m) (pos n) = refl
at_most_is (negsuc m) (negsuc n) = on-whole n m

pub at_most : (a b : ℤ) → lt_z a b ≡ false → le_z b a ≡ true
at_most a b e = at_most_is a b ∙ ap not e

pub not_at_most : (a b : ℤ) → lt_z a b ≡ true → le_z b a ≡ false
not_at_most a b e = at_most_is a b ∙ ap not e

pub not-below : (a b : ℤ) → le_z b a ≡ true → lt_z a b ≡ false
not-below a b e = not-true (lt_z a b) (sym (at_most_is a b) ∙ e)

-- a magnitude that a width's positive numbers have, taken from zero
pub taken_from_zero : (w : Width) (v : ℕ) → v < 2 ^ hbits w → pos 0 -ℤ to_z w v ≡ neg_ℤ (pos v)
taken_from_zero w v h = rw (to_z_pos w {n = v} h) (+ℤ_idl (neg_ℤ (pos v)))

-- it fits the width that it is at most the half of
pub mag_minus : (v c : ℕ) → 0 < c → v ≤ c → mag (neg_ℤ (pos v)) < c
mag_minus zero c p h = p
mag_minus (suc v) c p h = h

-- a number of 32 bits, widened to 64
pub widened : (z : ℤ) → SFits w32 z → to_z w64 (of_z w64 (to_z w32 (of_z w32 z))) ≡ z
widened z f = ap (λ (n : ℤ). to_z w64 (of_z w64 n)) (to_z-of_z f) ∙ to_z-of_z (sfits_widen {w = w32} {w' = w64} (tt {0}) f)

pub wide_fits : (z : ℤ) → SFits w32 z → SFits w64 (to_z w32 (of_z w32 z))
wide_fits z f = subst (SFits w64) (sym (to_z-of_z f)) (sfits_widen {w = w32} {w' = w64} (tt {0}) f)

-- a binary number equal to itself is no NaN
pub not-nan : (x : Float) → ne x x ≡ false → T (not (is_nan x))
unfolding ne is_nan
not-nan nan e = subst T e tt
not-nan (inf s) e = tt
not-nan (fin s m d) e = tt
