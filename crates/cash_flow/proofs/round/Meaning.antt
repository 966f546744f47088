-- What the rounding means, once for every number of digits: the whole number chosen is at most a
-- half from the f64 product,
-- from exactly half way it is the one away from zero, and the sign is the amount's.
use Prim.Native.Nat.{ℕ, ◌+◌, ◌*◌, ◌^◌, ◌≤◌, ◌<◌}
use mathlib.Core.Path.{◌≡◌, refl, sym, ap, ◌∙◌, subst}
use mathlib.Core.Bool.{Bool, true, false, not, true≢false}
use native.Mathlib.Nat.{one-le-pow, le_of_lt, mul-le-mul_left, le_trans, mul_right_comm, mul-le-mul, mul-le-mul_right, mul-lt-mul_of_pos_right, le_of_mul-le-mul_right, lt_of_mul-lt-mul_right, pow-le-pow_right, mul-pos}
use native.Mathlib.Omega.{arith}
use lib.Dec.{T, lit≤}
use lib.IntN.{ℤ, pos, negsuc, nat_abs}
use lib.Pow.{pow-add, pow_pos, pow_mono}
use lib.Ieee.{Float, nan, inf, fin, up, down, binary64, unlike, round, mul, div, of_int, is_nan}
use lib.Ieee.Back.{round_whole}
use lib.Ieee.Exact.{HasValue}
use lib.Ieee.Fits.{down_pos}
use lib.Ieee.Positive.{num, den, den_pos, first_pos}
use lib.Ieee.Scale.{finite, round_same}
use borrow.Author.Tests.{leb-true, ne_eqb}
use Rattle.outcome.proofs.Outcomes.{both_true}
use Rattle.cash_flow.specs.currency.Amounts.{up_to}
use Rattle.rounding.proofs.Algebra.{Apart}
use Rattle.rounding.proofs.HalfUlp.{Rounded, round_near}
use Rattle.rounding.proofs.Near.{in_range}
use Rattle.rounding.proofs.Operations.{by_value, some-units}
use Rattle.cash_flow.specs.round.RoundedAmounts.{is_width, is_roundable, power_of_ten, nearest_whole, rounded_away, rounded_by}
use Rattle.cash_flow.proofs.round.Whole.{nearest_near, nearest_tie}

-- ---- any number below 2 ^ 52

-- r is y rounded to a whole number
pub record Away (y r : Float) : Type 0 where
  -- y's own sign, kept by a zero too
  pub sign : Bool
  pub own : HasValue y sign (num y) (den y)
  -- the whole number with that sign
  pub whole : ℕ
  pub value : HasValue r sign whole 1
  -- twice the distance between the whole number and y's size is 1 at the most, multiplied out by
  -- y's denominator
  pub near : Apart (whole * den y * 2) (num y * 2) (den y)
  -- half way between w and w + 1 it is w + 1: away from zero
  pub tie : (w : ℕ) → num y * 2 ≡ (2 * w + 1) * den y → whole ≡ w + 1

pub rounded_away_lem : (y : Float) → T (finite y) → num y ≤ 2 ^ 52 * den y → Away y (rounded_away y)
unfolding rounded_away
rounded_away_lem nan f h = absurd f
rounded_away_lem (inf s) f h = absurd f
rounded_away_lem (fin s m e) f h =
    let n = m * up e in
    let d = down e in
    let w = nearest_whole n d in
    let near = nearest_near n d (down_pos e) in
    let most : w * d ≤ 2 ^ 53 * d = omega (arith, near.0) in
    record {
      sign = s;
      own = (refl, refl);
      whole = w;
      value = round_whole binary64 s w (le_of_mul-le-mul_right most (down_pos e));
      near = near;
      tie = λ v t. nearest_tie n d v (down_pos e) t;
    }

-- ---- the product of an amount and a power of ten

power_most : (d : ℤ) → is_width d ≡ true → 10 ^ nat_abs d ≤ 10000
power_most (pos n) h = pow-le-pow_right {n = 10} (omega arith) {i = n} {j = 4} (leb-true n 4 h)
power_most (negsuc n) h = absurd (true≢false (sym h))

power_value : (d : ℤ) → is_width d ≡ true → HasValue (power_of_ten d) false (10 ^ nat_abs d) 1
unfolding power_of_ten of_int
power_value d h = round_whole binary64 false (10 ^ nat_abs d) (le_trans (power_most d h) (lit≤ tt))

by-amount : (P : Float → Type 0) → ((s : Bool) (m : ℕ) (e : ℤ) → m * up e ≤ 1000000000 * down e → P (fin s m e)) → (x : Float) → up_to 1000000000 x ≡ true → P x
by-amount P k nan h = absurd (true≢false (sym h))
by-amount P k (inf s) h = absurd (true≢false (sym h))
by-amount P k (fin s m e) h = k s m e (leb-true (m * up e) (1000000000 * down e) h)

own_sign : (s : Bool) → unlike s false ≡ s
own_sign false = refl
own_sign true = refl

-- the exact product, rounded once
product_is : (s : Bool) (m : ℕ) (e : ℤ) (p : Float) (P : ℕ) → HasValue p false P 1 → mul binary64 (fin s m e) p ≡ round binary64 s (m * up e * P) (down e)
unfolding mul
product_is s m e p P v =
    by_value (λ (p : Float). mul binary64 (fin s m e) p ≡ round binary64 s (m * up e * P) (down e)) false P 1
    (λ n d q. ap (λ (t : Bool). round binary64 t (m * up e * (n * up d)) (down e * down d)) (own_sign s)
    ∙ round_same binary64 s (m * up e * (n * up d)) (down e * down d) (m * up e * P) (down e) (mul-pos (down_pos e) (down_pos d)) (down_pos e) (turn (m * up e) (n * up d) (down e) P (down d) q)) p v
  where
    turn : (a n c p d : ℕ) → n * 1 ≡ p * d → a * n * c ≡ a * p * (c * d)
    turn a n c p d q = omega (arith, ap (λ (z : ℕ). z * (a * c)) q)

-- it is below 2 ^ 44
product_near : (s : Bool) (m : ℕ) (e : ℤ) (p : Float) (P : ℕ) → HasValue p false P 1 → P ≤ 10000 → m * up e ≤ 1000000000 * down e
    → Rounded binary64 (mul binary64 (fin s m e) p) s (m * up e * P * 2 ^ 1074) (down e) 1118
product_near s m e p P v l h =
    let n = m * up e * P in
    let d = down e in
    let b : n < 2 ^ 44 * d = omega (arith, mul-le-mul h l, down_pos e) in
    subst (λ (y : Float). Rounded binary64 y s (n * 2 ^ 1074) d 1118) (sym (product_is s m e p P v))
    (round_near binary64 s n d 1118 (down_pos e)
    (subst (λ (z : ℕ). n * 2 ^ 1074 < z) (mul_right_comm (2 ^ 44) d (2 ^ 1074) ∙ ap (λ (z : ℕ). z * d) (sym (pow-add 2 44 1074))) (mul-lt-mul_of_pos_right b (pow_pos 1074))) (in_range 44 (lit≤ tt)))

-- ---- sizes: S / U is n / k, and within E / 2 U of N / D

value-finite : (y : Float) (s : Bool) (a c : ℕ) → HasValue y s a c → T (finite y)
value-finite y s a c v = by_value (λ (y : Float). T (finite y)) s a c (λ m e p. tt) y v

pub value_cross : (y : Float) (s : Bool) (a c : ℕ) → HasValue y s a c → num y * c ≡ a * den y
value_cross y s a c v = by_value (λ (y : Float). num y * c ≡ a * den y) s a c (λ m e p. p) y v

below_52 : (S D N U E : ℕ) → 0 < D → 0 < U → E ≤ U → N < 2 ^ 44 * D → S * D * 2 ≤ N * U * 2 + D * E → S < 2 ^ 52 * U
below_52 S D N U E P W e h i =
    let a : N * U ≤ 2 ^ 44 * D * U = mul-le-mul_right U (le_of_lt h) in
    let b : D * E ≤ D * U = mul-le-mul_left D e in
    let v : 0 < D * U = mul-pos P W in
    let c : S * D < 2 ^ 52 * U * D = omega arith in
    lt_of_mul-lt-mul_right D c

num-most : (n k S U : ℕ) → 0 < k → n * U ≡ S * k → S < 2 ^ 52 * U → n < 2 ^ 52 * k
num-most n k S U P e h =
    let a : n * U < 2 ^ 52 * k * U = omega (arith, mul-lt-mul_of_pos_right h P) in
    lt_of_mul-lt-mul_right U a

-- w is within a half of S / U, so it is within 513 / 1024 of N / D
above_exact : (w n k S U E N D : ℕ) → 0 < k → 0 < U → U ≡ E * 512 → n * U ≡ S * k → w * k * 2 ≤ n * 2 + k → S * D * 2 ≤ N * U * 2 + D * E → w * D * 1024 ≤ N * 1024 + D * 513
above_exact w n k S U E N D K P u e h i =
    let a : w * U * 2 * k ≤ (S * 2 + U) * k = omega (arith, mul-le-mul_right U h) in
    let b : w * U * 2 * D ≤ (S * 2 + U) * D = mul-le-mul_right D (le_of_mul-le-mul_right a K) in
    let v : D * U ≡ D * (E * 512) = ap (λ (z : ℕ). D * z) u in
    let c : w * D * 1024 * U ≤ (N * 1024 + D * 513) * U = omega arith in
    le_of_mul-le-mul_right c P

below-exact : (w n k S U E N D : ℕ) → 0 < k → 0 < U → U ≡ E * 512 → n * U ≡ S * k → n * 2 ≤ w * k * 2 + k → N * U * 2 ≤ S * D * 2 + D * E → N * 1024 ≤ w * D * 1024 + D * 513
below-exact w n k S U E N D K P u e h i =
    let a : S * 2 * k ≤ (w * U * 2 + U) * k = omega (arith, mul-le-mul_right U h) in
    let b : S * 2 * D ≤ (w * U * 2 + U) * D = mul-le-mul_right D (le_of_mul-le-mul_right a K) in
    let v : D * U ≡ D * (E * 512) = ap (λ (z : ℕ). D * z) u in
    let c : N * 1024 * U ≤ (w * D * 1024 + D * 513) * U = omega arith in
    le_of_mul-le-mul_right c P

-- ---- the quotient of a whole number by a power of ten is the f64 nearest to the exact one

quotient_is : (s : Bool) (w : ℕ) (r p : Float) (P : ℕ) → HasValue r s w 1 → HasValue p false P 1 → 0 < P → div binary64 r p ≡ round binary64 s w P
unfolding div
quotient_is s w r p P v q Q =
    by_value (λ (r : Float). div binary64 r p ≡ round binary64 s w P) s w 1
    (λ m e i. by_value (λ (p : Float). div binary64 (fin s m e) p ≡ round binary64 s w P) false P 1
    (λ n d j. let N : 0 < n * up d = some-units (n * up d) 1 P (down d) Q (down_pos d) j in
    rw (ne_eqb n 0 (λ z. omega (arith, first_pos n (up d) N)))
    (ap (λ (t : Bool). round binary64 t (m * up e * down d) (n * up d * down e)) (own_sign s)
    ∙ round_same binary64 s (m * up e * down d) (n * up d * down e) w P (mul-pos N (down_pos e)) Q (turn (m * up e) (n * up d) (down e) (down d) i j))) p q) r v
  where
    turn : (a n c d : ℕ) → a * 1 ≡ w * c → n * 1 ≡ P * d → a * d * P ≡ w * (n * c)
    turn a n c d i j = omega (arith, ap (λ (k : ℕ). k * (d * P)) i, ap (λ (k : ℕ). k * (w * c)) j)

-- ---- all of it

-- of an amount x within its limits, and d digits
pub record Rounding (x : Float) (d : ℤ) : Type 0 where
  -- the f64 product is below 2 ^ 52
  pub small : num (mul binary64 x (power_of_ten d)) < 2 ^ 52 * den (mul binary64 x (power_of_ten d))
  -- and is rounded to a whole number
  pub away : Away (mul binary64 x (power_of_ten d)) (rounded_away (mul binary64 x (power_of_ten d)))
  -- whose sign is the amount's
  pub amount : HasValue x away.sign (num x) (den x)
  -- and which is at most 1 / 2 and 1 / 1024 from the exact product
  pub exact : Apart (away.whole * den x * 1024) (num x * 10 ^ nat_abs d * 1024) (den x * 513)
  -- the answer is the f64 nearest to that whole number over the power of ten
  pub answer : rounded_by x (power_of_ten d) ≡ round binary64 away.sign away.whole (10 ^ nat_abs d)

same_sign : (y : Float) (s t : Bool) (a b c d : ℕ) → HasValue y s a c → HasValue y t b d → s ≡ t
same_sign y s t a b c d v = by_value (λ (y : Float). HasValue y t b d → s ≡ t) s a c (λ m e p w. w.0) y v

module _ (d : ℤ) (width : is_width d ≡ true) (s : Bool) (m : ℕ) (e : ℤ) (h : m * up e ≤ 1000000000 * down e) where
  y : Float
  y = mul binary64 (fin s m e) (power_of_ten d)

  near : Rounded binary64 y s (m * up e * 10 ^ nat_abs d * 2 ^ 1074) (down e) 1118
  unfolding y
  near = product_near s m e (power_of_ten d) (10 ^ nat_abs d) (power_value d width) (power_most d width) h

  crossed : num y * 2 ^ 1074 ≡ near.size * den y
  crossed = value_cross y s near.size (2 ^ 1074) near.value

  below : m * up e * 10 ^ nat_abs d < 2 ^ 44 * down e
  below = omega (arith, mul-le-mul h (power_most d width), down_pos e)

  small : num y < 2 ^ 52 * den y
  small =
      num-most (num y) (den y) near.size (2 ^ 1074) (den_pos y) crossed
      (below_52 near.size (down e) (m * up e * 10 ^ nat_abs d) (2 ^ 1074) (2 ^ 1065) (down_pos e) (pow_pos 1074) (pow_mono {i = 1065} {j = 1074} (omega arith)) below near.near.0)

  whole : Away y (rounded_away y)
  whole = rounded_away_lem y (value-finite y s near.size (2 ^ 1074) near.value) (le_of_lt small)

  means : Rounding (fin s m e) d
  unfolding y rounded_by
  means =
      let w = whole.whole in
      let n = m * up e * 10 ^ nat_abs d in
      record {
        small = small;
        away = whole;
        amount = (same_sign y s whole.sign near.size (num y) (2 ^ 1074) (den y) near.value whole.own, refl);
        exact = (
          above_exact w (num y) (den y) near.size (2 ^ 1074) (2 ^ 1065) n (down e) (den_pos y) (pow_pos 1074) refl crossed whole.near.0 near.near.0,
          below-exact w (num y) (den y) near.size (2 ^ 1074) (2 ^ 1065) n (down e) (den_pos y) (pow_pos 1074) refl crossed whole.near.1 near.near.1,
        );
        answer = quotient_is whole.sign w (rounded_away y) (power_of_ten d) (10 ^ nat_abs d) whole.value (power_value d width) (one-le-pow (nat_abs d) 10 (omega arith));
      }

pub rounding_means : (x : Float) (d : ℤ) → is_roundable x d ≡ true → Rounding x d
unfolding is_roundable
rounding_means x d h =
    let b = both_true (is_width d) (up_to 1000000000 x) h in
    by-amount (λ (x : Float). Rounding x d) (λ s m e l. means d b.0 s m e l) x b.1

pub product_finite : (x : Float) (d : ℤ) → is_roundable x d ≡ true → T (finite (mul binary64 x (power_of_ten d)))
product_finite x d h =
    let y = mul binary64 x (power_of_ten d) in
    let A = (rounding_means x d h).away in
    value-finite y A.sign (num y) (den y) A.own

pub finite_not_nan : (y : Float) → T (finite y) → T (not (is_nan y))
unfolding is_nan
finite_not_nan nan h = absurd h
finite_not_nan (inf s) h = absurd h
finite_not_nan (fin s m e) h = tt
