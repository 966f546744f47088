-- An integer as a difference of two naturals that is never taken: from the numerator that a promise
-- writes in ℤ to the pair that `Near` wants.
use mathlib.Core.Path.{◌≡◌, refl, ap}
use Prim.Native.Nat.{ℕ, zero, suc, ◌+◌, ◌-◌, ◌*◌, ◌≤◌, ◌<◌}
use native.Mathlib.Nat.{add_comm, zero-add, add-zero, zero-mul, mul-zero}
use native.Mathlib.Omega.{arith}
use mathlib.Core.Bool.{Bool, true, false, not, cond}
use mathlib.Core.Logic.{◌↔◌}
use lib.IntN.{ℤ, pos, negsuc, neg_ℤ, nat_abs, ◌+ℤ◌, ◌-ℤ◌, ◌*ℤ◌, sub_ℕ}
use lib.Dec.{T, ltb, ltb→lt, nltb→le}
use Rattle.rounding.specs.Close.{signed}
use Rattle.rounding.proofs.Algebra.{Apart, plus_of, minus_of}

abbrev pub plus : ℤ → ℕ
plus (pos n) = n
plus (negsuc n) = 0

abbrev pub minus : ℤ → ℕ
minus (pos n) = 0
minus (negsuc n) = suc n

-- z is p - n
pub record Diff (z : ℤ) (p n : ℕ) : Type 0 where
  pub is : p + minus z ≡ n + plus z

pub of_int_lem : (z : ℤ) → Diff z (plus z) (minus z)
of_int_lem z = record { is = add_comm (plus z) (minus z) }

pub diff_neg : {z : ℤ} {p n : ℕ} → Diff z p n → Diff (neg_ℤ z) n p
diff_neg {z} {p} {n} h = record { is = go z h.is }
  where
    go : (z : ℤ) → p + minus z ≡ n + plus z → n + minus (neg_ℤ z) ≡ p + plus (neg_ℤ z)
    go (pos zero) e = omega arith
    go (pos (suc m)) e = omega arith
    go (negsuc m) e = omega arith

pub of_signed : (s : Bool) (m : ℕ) → Diff (signed s m) (plus_of s m) (minus_of s m)
of_signed false m = of_int_lem (pos m)
of_signed true m = diff_neg (of_int_lem (pos m))

of_sub : (a b : ℕ) → Diff (sub_ℕ a b) a b
of_sub a b = record { is = go (ltb a b) (ltb→lt a b) (nltb→le a b) }
  where
    go : (c : Bool) → (T c → a < b) → (T (not c) → b ≤ a) → a + minus (cond c (negsuc (b - suc a)) (pos (a - b))) ≡ b + plus (cond c (negsuc (b - suc a)) (pos (a - b)))
    go true h k = let l : a < b = h tt in omega arith
    go false h k = let l : b ≤ a = k tt in omega arith

pub diff_add : {z w : ℤ} {p n q m : ℕ} → Diff z p n → Diff w q m → Diff (z +ℤ w) (p + q) (n + m)
diff_add {z} {w} {p} {n} {q} {m} h k = record { is = go z w h.is k.is }
  where
    go : (z w : ℤ) → p + minus z ≡ n + plus z → q + minus w ≡ m + plus w → p + q + minus (z +ℤ w) ≡ n + m + plus (z +ℤ w)
    go (pos a) (pos b) e f = omega arith
    go (pos a) (negsuc b) e f = omega (arith, (of_sub a (suc b)).is)
    go (negsuc a) (pos b) e f = omega (arith, (of_sub b (suc a)).is)
    go (negsuc a) (negsuc b) e f = omega arith

pub diff_sub : {z w : ℤ} {p n q m : ℕ} → Diff z p n → Diff w q m → Diff (z -ℤ w) (p + m) (n + q)
diff_sub h k = diff_add h (diff_neg k)

pub diff_mul : {z w : ℤ} {p n q m : ℕ} → Diff z p n → Diff w q m → Diff (z *ℤ w) (p * q + n * m) (p * m + n * q)
diff_mul {z} {w} {p} {n} {q} {m} h k = record { is = go z w h.is k.is }
  where
    go : (z w : ℤ) → p + minus z ≡ n + plus z → q + minus w ≡ m + plus w → p * q + n * m + minus (z *ℤ w) ≡ p * m + n * q + plus (z *ℤ w)
    go (pos a) (pos b) e f = omega (arith, ap (λ (x : ℕ). x * q) e, ap (λ (x : ℕ). x * m) e, ap (λ (x : ℕ). a * x) f)
    go (pos a) (negsuc b) e f = omega (arith, ap (λ (x : ℕ). x * q) e, ap (λ (x : ℕ). x * m) e, ap (λ (x : ℕ). a * x) f, (of_signed true (a * suc b)).is)
    go (negsuc a) (pos b) e f = omega (arith, ap (λ (x : ℕ). x * q) e, ap (λ (x : ℕ). x * m) e, ap (λ (x : ℕ). suc a * x) f, (of_signed true (suc a * b)).is)
    go (negsuc a) (negsuc b) e f = omega (arith, ap (λ (x : ℕ). x * q) e, ap (λ (x : ℕ). x * m) e, ap (λ (x : ℕ). suc a * x) f)

pub diff_scale : {z : ℤ} {p n : ℕ} → Diff z p n → (c : ℕ) → Diff (z *ℤ pos c) (p * c) (n * c)
diff_scale {z} {p} {n} h c = simp (mul-zero, zero-add, add-zero) at (diff_mul h (of_int_lem (pos c)))

pub diff_lscale : {z : ℤ} {p n : ℕ} → Diff z p n → (c : ℕ) → Diff (pos c *ℤ z) (c * p) (c * n)
diff_lscale {z} {p} {n} h c = simp (zero-mul, add-zero) at (diff_mul (of_int_lem (pos c)) h)

-- the size of p - n, times t, is at most w exactly where p * t and n * t are at most w apart
pub abs_apart : (z : ℤ) (p n t w : ℕ) → Diff z p n → (nat_abs z * t ≤ w) ↔ Apart (p * t) (n * t) w
abs_apart (pos a) p n t w h = let e : (p + 0) * t ≡ (n + a) * t = ap (λ (x : ℕ). x * t) h.is in omega arith
abs_apart (negsuc a) p n t w h = let e : (p + suc a) * t ≡ (n + 0) * t = ap (λ (x : ℕ). x * t) h.is in omega arith

-- the two sides and the size of a signed number
pub size_is : (z : ℤ) → plus z + minus z ≡ nat_abs z
size_is (pos n) = add-zero n
size_is (negsuc n) = zero-add (suc n)

pub signed_parts : (s : Bool) (m : ℕ) → (plus (signed s m) ≡ plus_of s m) × (minus (signed s m) ≡ minus_of s m) × (nat_abs (signed s m) ≡ m)
signed_parts false m = (refl, refl, refl)
signed_parts true zero = (refl, refl, refl)
signed_parts true (suc m) = (refl, refl, refl)
