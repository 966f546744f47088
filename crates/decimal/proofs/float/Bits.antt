-- A number's sign and ten-thousandths from its bits. By its fields it is q * 2 ^ k / 2 ^ 1074, and
-- 10000 is 625 * 16.
use Prim.Native.Nat.{ℕ, zero, suc, ◌+◌, ◌-◌, ◌*◌, ◌/◌, ◌%◌, ◌^◌, ◌≤◌, ◌<◌}
use mathlib.Core.Path.{◌≡◌, refl, sym, ap, ◌∙◌}
use mathlib.Core.Bool.{Bool, true}
use native.Mathlib.Nat.{mul-one, mul_right_comm, mul-mul-mul_comm, mul_assoc}
use native.Mathlib.Omega.{arith}
use Rattle.std.specs.Prelude.{Some, None}
use lib.Dec.{leb}
use lib.Pow.{pow-add, pow_pos}
use lib.Ieee.{Float, nan, inf, fin, up, down, binary64, of_fields, of_bits}
use lib.Ieee.Fits.{down_pos}
use lib.Ieee.Exact.{HasValue}
use lib.Ieee.Nearest.{closest, closest_same}
use lib.Ieee.Scale.{finite}
use Rattle.rounding.proofs.Integers.{signed_parts}
use Rattle.rounding.proofs.Fields.{few_value, some-value, not_finite}
use Rattle.rounding.specs.Close.{sign_bit}
use Rattle.decimal.specs.float.Decimal.{ten_thousandths}
use Rattle.decimal.specs.float.Parts.{PartsOf}
use Rattle.decimal.specs.declared.float.Parts.TheVariants.{Small, Large}
use Rattle.decimal.proofs.float.Halves.{closest-whole}

-- ---- a rounding by the value's fraction, in smaller numbers

scale : (q P R L M : ℕ) → P * R ≡ L → M ≡ L * 16 → q * 625 * M ≡ q * P * 10000 * R
scale q P R L M e f = rw (f, mul-mul-mul_comm q 625 L 16, mul_right_comm (q * P) 10000 R, mul_assoc q P R, e)

pub ten_same : (q k : ℕ) → k ≤ 1070 → closest (q * 625) (2 ^ (1070 - k)) ≡ closest (q * 2 ^ k * 10000) (2 ^ 1074)
ten_same q k h =
    let s : k + (1070 - k) ≡ 1070 = omega arith in
    closest_same (q * 625) (2 ^ (1070 - k)) (q * 2 ^ k * 10000) (2 ^ 1074) (pow_pos (1070 - k)) (pow_pos 1074)
    (scale q (2 ^ k) (2 ^ (1070 - k)) (2 ^ 1070) (2 ^ 1074) (sym (pow-add 2 k (1070 - k)) ∙ ap (λ (x : ℕ). 2 ^ x) s) refl)

-- from 2 ^ 1070 smallest values on nothing is rounded
grow : (q k : ℕ) → 1070 ≤ k → q * 625 * 2 ^ (k - 1070) * 2 ^ 1074 ≡ q * 2 ^ k * 10000 * 1
grow q k h =
    let s : (k - 1070) + 1070 ≡ k = omega arith in
    let P : ℕ = 2 ^ (k - 1070) in
    let e : P * 2 ^ 1070 ≡ 2 ^ k = sym (pow-add 2 (k - 1070) 1070) ∙ ap (λ (n : ℕ). 2 ^ n) s in
    let f : P * 2 ^ 1074 ≡ 2 ^ k * 16 = sym (mul_assoc P (2 ^ 1070) 16) ∙ ap (λ (n : ℕ). n * 16) e in
    mul_assoc (q * 625) P (2 ^ 1074) ∙ ap (λ (n : ℕ). q * 625 * n) f ∙ mul-mul-mul_comm q 625 (2 ^ k) 16 ∙ sym (mul-one (q * 2 ^ k * 10000))

exact : (q k : ℕ) → 1070 ≤ k → q * 625 * 2 ^ (k - 1070) ≡ closest (q * 2 ^ k * 10000) (2 ^ 1074)
exact q k h =
    sym (closest-whole (q * 625 * 2 ^ (k - 1070)))
    ∙ closest_same (q * 625 * 2 ^ (k - 1070)) 1 (q * 2 ^ k * 10000) (2 ^ 1074) (pow_pos 0) (pow_pos 1074) (grow q k h)

-- ---- a number by its value a / c

-- the number v is finite, has the sign s, and t ten-thousandths
abbrev Is : Float → Bool → ℕ → Type 0
Is v s t = (finite v ≡ true) × (s ≡ sign_bit v) × (t ≡ ten_thousandths v)

by_value : (v : Float) (s : Bool) (a c t : ℕ) → 0 < c → HasValue v s a c → t ≡ closest (a * 10000) c → Is v s t
unfolding ten_thousandths
by_value nan s a c t C h e = absurd h
by_value (inf r) s a c t C h e = absurd h
by_value (fin r m x) s a c t C h e = (
  refl,
  sym h.0,
  e ∙ rw (signed_parts r (m * up x)).2 (closest_same (a * 10000) c (m * up x * 10000) (down x) C (down_pos x)
      (mul_right_comm a 10000 (down x) ∙ ap (λ (n : ℕ). n * 10000) (sym h.1) ∙ mul_right_comm (m * up x) c 10000)),
)

-- ---- by its fields

few : (s : Bool) (d t : ℕ) → t ≡ closest (d * 2 ^ 0 * 10000) (2 ^ 1074) → Is (of_fields binary64 s 0 d) s t
few s d t e = by_value (of_fields binary64 s 0 d) s (d * 2 ^ 0) (2 ^ 1074) t (pow_pos 1074) (few_value s d) e

some : (s : Bool) (f d t : ℕ) → 1 ≤ f → f < 2047 → t ≡ closest ((4503599627370496 + d) * 2 ^ (f - 1) * 10000) (2 ^ 1074) → Is (of_fields binary64 s f d) s t
some s zero d t l h e = absurd (omega arith)
some s (suc x) d t l h e =
    let p : suc x - 1 ≡ x = omega arith in
    by_value (of_fields binary64 s (suc x) d) s ((4503599627370496 + d) * 2 ^ x) (2 ^ 1074) t (pow_pos 1074) (some-value s x d h) (rw (p) at e)

-- ---- and by its bits b

module _ (b : ℕ) where
  pub bits_none : b % 9223372036854775808 / 4503599627370496 ≡ 2047 → PartsOf (of_bits binary64 b) None
  unfolding of_bits
  bits_none e = rw (e) (not_finite (leb 9223372036854775808 b) (b % 4503599627370496))

  pub bits_few : (t : ℕ) → b % 9223372036854775808 / 4503599627370496 ≡ 0 → t ≡ closest (b % 4503599627370496 * 2 ^ 0 * 10000) (2 ^ 1074) → PartsOf (of_bits binary64 b) (Some (Small (leb 9223372036854775808 b) t))
  unfolding of_bits
  bits_few t e f = rw (e) (few (leb 9223372036854775808 b) (b % 4503599627370496) t f)

  pub bits-some : (t : ℕ) → 1 ≤ b % 9223372036854775808 / 4503599627370496 → b % 9223372036854775808 / 4503599627370496 < 2047
      → t ≡ closest ((4503599627370496 + b % 4503599627370496) * 2 ^ (b % 9223372036854775808 / 4503599627370496 - 1) * 10000) (2 ^ 1074) → PartsOf (of_bits binary64 b) (Some (Small (leb 9223372036854775808 b) t))
  unfolding of_bits
  bits-some t l h e = some (leb 9223372036854775808 b) (b % 9223372036854775808 / 4503599627370496) (b % 4503599627370496) t l h e

  pub bits_large : 1071 < b % 9223372036854775808 / 4503599627370496 → b % 9223372036854775808 / 4503599627370496 < 2047
      → PartsOf (of_bits binary64 b) (Some (Large (leb 9223372036854775808 b) ((4503599627370496 + b % 4503599627370496) * 625) (b % 9223372036854775808 / 4503599627370496 - 1071)))
  unfolding of_bits
  bits_large l h =
      let f : ℕ = b % 9223372036854775808 / 4503599627370496 in
      let q : ℕ = 4503599627370496 + b % 4503599627370496 in
      let p : f - 1071 ≡ f - 1 - 1070 = omega arith in
      let r = some (leb 9223372036854775808 b) f (b % 4503599627370496) (q * 625 * 2 ^ (f - 1071)) (omega arith) h (ap (λ (k : ℕ). q * 625 * 2 ^ k) p ∙ exact q (f - 1) (omega arith)) in
      (r.0, r.1, r.2, omega arith, omega arith)
