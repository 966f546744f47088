-- The machine's tests of a rate are the paper's.
use Prim.Native.Nat.{ℕ, ◌/◌, ◌%◌, ◌^◌, ◌<◌, ◌≤◌}
use mathlib.Core.Path.{◌≡◌, refl, sym, ap, ◌∙◌, subst}
use mathlib.Core.Bool.{true, false, true≢false, false≢true}
use mathlib.Core.Logic.{◌⊎◌, inl, inr, ⊎_elim}
use native.Mathlib.Omega.{arith}
use lib.Dec.{T, leb}
use lib.IntN.{ℤ, pos}
use lib.Ieee.{Float, nan, inf, fin, binary64, of_fields, of_bits, to_bits, of_int, fits, is_nan, le}
use lib.Ieee.Bits.{of_bits-to_bits, to_bits-lt}
use lib.Ieee.Scale.{finite}
use borrow.Author.Tests.{le-leb, lt-leb}
use Rattle.outcome.proofs.Numbers.{lt_or_le}
use Rattle.rounding.proofs.Fields.{not_finite, is_finite}
use Rattle.cash_flow.proofs.currency.Limits.{plus_most}
use Rattle.bond.specs.limits.Limits.{is_coupon_rate}

-- ---- a rate

-- what is not finite is no rate
not_finite_no_rate : (x : Float) → finite x ≡ false → is_coupon_rate x ≡ false
unfolding is_coupon_rate
not_finite_no_rate nan e = refl
not_finite_no_rate (inf true) e = refl
not_finite_no_rate (inf false) e = refl
not_finite_no_rate (fin s m d) e = absurd (true≢false e)

-- nor what has its sign bit set
negative_no_rate : (m : ℕ) (e : ℤ) → is_coupon_rate (fin true m e) ≡ false
unfolding is_coupon_rate
negative_no_rate m e = refl

negative : (x t : ℕ) → (x < 2047) ⊎ (x ≡ 2047) → is_coupon_rate (of_fields binary64 true x t) ≡ false
negative x t (inl l) = let z = is_finite true x t l in rw z.2 (negative_no_rate z.0 z.1)
negative x t (inr e) = rw (e) (not_finite_no_rate (of_fields binary64 true 2047 t) (not_finite true t))

-- from these bits on the sign bit is set or the number is not finite; below them it is finite and
-- its sign bit is clear
pub high_bits : (b : ℕ) → 9218868437227405312 ≤ b → b < 2 ^ 64 → is_coupon_rate (of_bits binary64 b) ≡ false
unfolding of_bits
high_bits b h l = by (lt_or_le b 9223372036854775808)
  where
    field : ℕ
    field = b % 9223372036854775808 / 4503599627370496

    by : (b < 9223372036854775808) ⊎ (9223372036854775808 ≤ b) → is_coupon_rate (of_bits binary64 b) ≡ false
    by (inr k) = rw (le-leb 9223372036854775808 b k) (negative field (b % 4503599627370496) (⊎_elim (λ m. inl m) (λ m. inr (omega arith)) (lt_or_le field 2047)))
    by (inl k) =
        let e : field ≡ 2047 = omega arith in
        rw e (not_finite_no_rate (of_fields binary64 (leb 9223372036854775808 b) 2047 (b % 4503599627370496)) (not_finite (leb 9223372036854775808 b) (b % 4503599627370496)))

pub low_bits : (b : ℕ) → b < 9218868437227405312 → (m : ℕ) × (e : ℤ) × (of_bits binary64 b ≡ fin false m e)
unfolding of_bits
low_bits b h =
    rw (lt-leb 9223372036854775808 b (omega arith))
    (is_finite false (b % 9223372036854775808 / 4503599627370496) (b % 4503599627370496) (omega arith))

hundred_is : of_bits binary64 4636737291354636288 ≡ fin false 25 (pos 2)
unfolding of_bits
hundred_is = refl

hundred : (m : ℕ) (e : ℤ) → le (fin false m e) (of_bits binary64 4636737291354636288) ≡ is_coupon_rate (fin false m e)
unfolding is_coupon_rate
hundred m e = rw hundred_is (plus_most 25 100 (pos 2) refl refl m e)

pub low-rate : (b : ℕ) → b < 9218868437227405312 → le (of_bits binary64 b) (of_bits binary64 4636737291354636288) ≡ is_coupon_rate (of_bits binary64 b)
low-rate b h = let z = low_bits b h in rw z.2 (hundred z.0 z.1)

-- a NaN is no rate
pub nan_no_rate : (x : Float) → is_nan x ≡ true → false ≡ is_coupon_rate x
unfolding is_coupon_rate is_nan
nan_no_rate nan e = refl
nan_no_rate (inf s) e = absurd (false≢true e)
nan_no_rate (fin s m d) e = absurd (false≢true e)

-- and the same of the number whose bits they are
pub rate_high : (x : Float) → T (fits binary64 x) → 9218868437227405312 ≤ to_bits binary64 x → false ≡ is_coupon_rate x
rate_high x f h = sym (high_bits (to_bits binary64 x) h (to_bits-lt binary64 x f)) ∙ ap is_coupon_rate (of_bits-to_bits binary64 x f)

pub rate_low : (x : Float) → T (fits binary64 x) → to_bits binary64 x < 9218868437227405312 → le x (of_bits binary64 4636737291354636288) ≡ is_coupon_rate x
rate_low x f h =
    subst (λ (y : Float). le y (of_bits binary64 4636737291354636288) ≡ is_coupon_rate y) (of_bits-to_bits binary64 x f)
    (low-rate (to_bits binary64 x) h)

-- the literal 100.0 is the whole number 100
pub hundred_whole : of_bits binary64 4636737291354636288 ≡ of_int binary64 (pos 100)
unfolding of_bits of_int
hundred_whole = refl
