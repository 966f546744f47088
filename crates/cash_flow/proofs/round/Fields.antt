-- A number below 2 ^ 52 rounded by its bits: its field is 1074 at the most, and the fields give the
-- nearest whole number.
use Prim.Native.Nat.{ℕ, zero, suc, ◌+◌, ◌*◌, ◌/◌, ◌%◌, ◌^◌, ◌≤◌, ◌<◌}
use mathlib.Core.Path.{◌≡◌, refl, sym, ap, ◌∙◌, subst}
use mathlib.Core.Logic.{⊎_elim}
use mathlib.Core.Bool.{Bool, true, false, cond}
use native.Mathlib.Nat.{eq-or-lt_of_le, mul-one, mul-le-mul, mul-le-mul_right, mul-lt-mul_of_pos_right}
use native.Mathlib.Decide.{dec_lt}
use native.Mathlib.Omega.{arith}
use lib.Dec.{T, ltb, leb, le→leb}
use lib.IntN.{pos}
use lib.Pow.{pow_pos, pow_mono}
use lib.Ieee.{Float, inf, Format, prec, emax, low, up, down, binary64, odd, units, round, neg, of_int, of_fields, of_bits, to_bits, fits, in_float}
use lib.Ieee.Bits.{of_bits-to_bits}
use lib.Ieee.Exact.{HasValue}
use lib.Ieee.Fits.{down_pos, round_is}
use lib.Ieee.Order.{drop, kept}
use lib.Ieee.Positive.{num, den}
use lib.Ieee.Scale.{finite}
use borrow.Author.Tests.{le-leb, lt-leb}
use Rattle.rounding.proofs.Operations.{by_value}
use Rattle.rounding.proofs.Fields.{few_value, some-value, not_finite}
use Rattle.cash_flow.specs.round.RoundedAmounts.{nearest_whole, rounded_away}
use Rattle.cash_flow.specs.round.Fields.{size_of}
use Rattle.cash_flow.proofs.round.Whole.{nearest-same}
use Rattle.cash_flow.proofs.round.Meaning.{value_cross}

-- ---- the sign of a rounded number

neg-odd : (d q k l : ℕ) → neg (odd d false q k l) ≡ odd d true q k l
unfolding neg odd
neg-odd d zero k l = refl
neg-odd d (suc q) k l = refl

neg-units : (f : Format) (q k : ℕ) → neg (units f false q k) ≡ units f true q k
unfolding neg units
neg-units f q k = go (ltb (q * 2 ^ k) (2 ^ (low f + suc (emax f))))
  where
    go : (b : Bool) → neg (cond b (odd (suc (prec f)) false q k (low f)) (inf false)) ≡ cond b (odd (suc (prec f)) true q k (low f)) (inf true)
    go true = neg-odd (suc (prec f)) q k (low f)
    go false = refl

neg-round : (f : Format) (n d : ℕ) → neg (round f false n d) ≡ round f true n d
neg-round f n d = ap neg (round_is f false n d) ∙ neg-units f (kept (prec f) (n * 2 ^ low f) d) (drop (prec f) (n * 2 ^ low f) d) ∙ sym (round_is f true n d)

-- ---- a number by its value a / c

away_of_value : (v : Float) (s : Bool) (a c : ℕ) → 0 < c → HasValue v s a c → round binary64 s (nearest_whole a c) 1 ≡ rounded_away v
unfolding rounded_away
away_of_value v s a c C h =
    by_value (λ (v : Float). round binary64 s (nearest_whole a c) 1 ≡ rounded_away v) s a c
    (λ m e p. ap (λ (n : ℕ). round binary64 s n 1) (sym (nearest-same (m * up e) (down e) a c (down_pos e) C p))) v h

-- ---- by its fields

fields_value : (s : Bool) (f m : ℕ) → f < 2047 → HasValue (of_fields binary64 s f m) s (size_of f m) (2 ^ 1074)
unfolding size_of
fields_value s zero m h = subst (λ (n : ℕ). HasValue (of_fields binary64 s 0 m) s n (2 ^ 1074)) (mul-one m) (few_value s m)
fields_value s (suc k) m h = some-value s k m h

-- a number of the field 1075 or more is not below 2 ^ 52
too_large : (q n D U W : ℕ) → 0 < U → U ≤ W → 4503599627370496 ≤ q → n * U ≡ q * W * D → n < 4503599627370496 * D → ⊥
too_large q n D U W u h l e b =
    let i : n * U < 4503599627370496 * D * U = mul-lt-mul_of_pos_right b u in
    let j : 4503599627370496 * U ≤ q * W = mul-le-mul l h in
    let k : 4503599627370496 * U * D ≤ q * W * D = mul-le-mul_right D j in
    omega arith

field-some : (s : Bool) (f m : ℕ) → f < 2047 → num (of_fields binary64 s f m) < 2 ^ 52 * den (of_fields binary64 s f m) → f ≤ 1074
unfolding size_of
field-some s zero m k b = omega arith
field-some s (suc j) m k b = by (dec_lt 1074 (suc j))
  where
    by : Dec (1074 < suc j) → suc j ≤ 1074
    by (no n) = omega arith
    by (yes n) =
        let v = of_fields binary64 s (suc j) m in
        absurd (too_large (4503599627370496 + m) (num v) (den v) (2 ^ 1074) (2 ^ j) (pow_pos 1074) (pow_mono {i = 1074} {j = j} (omega arith)) (omega arith) (value_cross v s ((4503599627370496 + m) * 2 ^ j) (2 ^ 1074) (fields_value s (suc j) m k)) b)

field-most : (s : Bool) (f m : ℕ) → f ≤ 2047 → T (finite (of_fields binary64 s f m)) → num (of_fields binary64 s f m) < 2 ^ 52 * den (of_fields binary64 s f m) → f ≤ 1074
field-most s f m h t b = ⊎_elim (λ e. absurd (subst T (not_finite s m) (subst (λ (g : ℕ). T (finite (of_fields binary64 s g m))) e t))) (λ k. field-some s f m k b) (eq-or-lt_of_le h)

fields_small : (s : Bool) (f m : ℕ) → f ≤ 1074 → round binary64 s (nearest_whole (size_of f m) (2 ^ 1074)) 1 ≡ rounded_away (of_fields binary64 s f m)
fields_small s f m h = away_of_value (of_fields binary64 s f m) s (size_of f m) (2 ^ 1074) (pow_pos 1074) (fields_value s f m (omega arith))

-- ---- and by its bits b

module _ (b : ℕ) where
  pub bits_plus : (n : ℕ) → b % 9223372036854775808 / 4503599627370496 ≤ 1074 → b < 9223372036854775808
      → n ≡ nearest_whole (size_of (b % 9223372036854775808 / 4503599627370496) (b % 4503599627370496)) (2 ^ 1074) → of_int binary64 (pos n) ≡ rounded_away (of_bits binary64 b)
  unfolding of_bits of_int
  bits_plus n h p e =
      rw (e, lt-leb 9223372036854775808 b p) (fields_small false (b % 9223372036854775808 / 4503599627370496) (b % 4503599627370496) h)

  pub bits_minus : (n : ℕ) → b % 9223372036854775808 / 4503599627370496 ≤ 1074 → 9223372036854775808 ≤ b
      → n ≡ nearest_whole (size_of (b % 9223372036854775808 / 4503599627370496) (b % 4503599627370496)) (2 ^ 1074) → neg (of_int binary64 (pos n)) ≡ rounded_away (of_bits binary64 b)
  unfolding of_bits of_int
  bits_minus n h p e =
      neg-round binary64 n 1
      ∙ rw (e, le-leb 9223372036854775808 b p) (fields_small true (b % 9223372036854775808 / 4503599627370496) (b % 4503599627370496) h)

-- the field of a number below 2 ^ 52
bits_most : (n : ℕ) → T (finite (of_bits binary64 n)) → num (of_bits binary64 n) < 2 ^ 52 * den (of_bits binary64 n) → n % 9223372036854775808 / 4503599627370496 ≤ 1074
unfolding of_bits
bits_most n t b = field-most (leb 9223372036854775808 n) (n % 9223372036854775808 / 4503599627370496) (n % 4503599627370496) (omega arith) t b

pub bits_below : (y : Float) → T (fits binary64 y) → T (finite y) → num y < 2 ^ 52 * den y → to_bits binary64 y % 9223372036854775808 / 4503599627370496 ≤ 1074
bits_below y F t b =
    let e = sym (of_bits-to_bits binary64 y F) in
    bits_most (to_bits binary64 y) (subst (λ (x : Float). T (finite x)) e t) (subst (λ (x : Float). num x < 2 ^ 52 * den x) e b)

pub from_bits : (y r : Float) → T (fits binary64 y) → r ≡ rounded_away (of_bits binary64 (to_bits binary64 y)) → r ≡ rounded_away y
from_bits y r F e = e ∙ ap rounded_away (of_bits-to_bits binary64 y F)

-- the whole number is an f64
pub whole-fits : (n : ℕ) → n ≤ 2 ^ 53 → T (in_float binary64 (pos n))
unfolding in_float
whole-fits n h = le→leb n (2 ^ 53) h
