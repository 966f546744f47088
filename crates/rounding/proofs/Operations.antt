-- Each operation in units of the format's smallest value: its exact result is a fraction (p - n) /
-- q of units, and it is rounded once.
-- A finite value is a sign s and a whole number X of units, `HasValue x s X u`, with u units to 1.
use mathlib.Core.Path.{◌≡◌, refl, sym, ap, ap₂, ◌∙◌, subst, subst₂}
use Prim.Native.Nat.{ℕ, zero, suc, ◌+◌, ◌-◌, ◌*◌, ◌^◌, ◌≤◌, ◌<◌}
use native.Mathlib.Nat.{le_refl, le_trans, le_of_eq, le_of_lt, lt_of_lt_of_le, lt_of_not-le, not-le_of_lt, le_of_suc-le-suc, sub-add_cancel, mul-one, mul_comm, mul_assoc, mul_right_comm, mul-sub, mul-le-mul_left, mul-le-mul_right, mul-lt-mul_of_pos_right, le_of_mul-le-mul_left, le_of_mul-le-mul_right, lt_of_mul-lt-mul_right, mul-pos}
use native.Mathlib.Omega.{arith}
use mathlib.Core.Bool.{Bool, true, false, not, cond}
use lib.IntN.{ℤ, pos, negsuc}
use lib.Dec.{T, ltb, eqb, leb→le, ltb→lt, nltb→le, eqb→eq}
use lib.Pow.{pow-add, pow_pos, pow_mono, pow-lt}
use lib.Ieee.{Float, nan, inf, fin, Format, prec, emax, low, up, down, unlike, round, neg, sum, add, sub, mul, div, fits}
use lib.Ieee.Fits.{down_pos, reach, and_l, and_r}
use lib.Ieee.Exact.{HasValue, round_exact}
use lib.Ieee.Positive.{first_pos}
use Rattle.rounding.proofs.Algebra.{ring, Apart, plus_of, minus_of}
use Rattle.rounding.proofs.HalfUlp.{round_near}

-- x is finite, and twice the distance of its units from (p - n) / q is at most e
pub record Rounds (x : Float) (u p n q e : ℕ) : Type 0 where
  pub sign : Bool
  pub size : ℕ
  pub value : HasValue x sign size u
  pub near : Apart ((q * plus_of sign size + n) * 2) ((q * minus_of sign size + p) * 2) (q * e)

-- A / den is A' / q, and B / den is B' / q: a distance over den is one over q
rescale : (A B A' B' den q e : ℕ) → 0 < den → A * q ≡ A' * den → B * q ≡ B' * den → A ≤ B + den * e → A' ≤ B' + q * e
rescale A B A' B' den q e D a b h =
    let i : den * A' ≤ den * (B' + q * e) = omega (arith, mul-le-mul_left q h) in
    le_of_mul-le-mul_left i D

-- the size R is near Z / q: with the sign s, near (p - n) / q
with_sign : (s : Bool) (R Z p n q e : ℕ) → plus_of s Z + n ≡ p + minus_of s Z → Apart (R * q * 2) (Z * 2) (q * e) → Apart ((q * plus_of s R + n) * 2) ((q * minus_of s R + p) * 2) (q * e)
with_sign false R Z p n q e h w = omega arith
with_sign true R Z p n q e h w = omega arith

-- a float that has a value is finite, with its sign and as many units
pub by_value : (P : Float → Type 0) (s : Bool) (X u : ℕ) → ((m : ℕ) (e : ℤ) → m * up e * u ≡ X * down e → P (fin s m e)) → (x : Float) → HasValue x s X u → P x
by_value P s X u k nan v = absurd v
by_value P s X u k (inf r) v = absurd v
by_value P s X u k (fin r m e) v = subst (λ (t : Bool). P (fin t m e)) (sym v.0) (k m e v.1)

-- a value above 0 has some of them
pub some-units : (b u Y d : ℕ) → 0 < Y → 0 < d → b * u ≡ Y * d → 0 < b
some-units b u Y d P D q = first_pos b u (subst (λ (z : ℕ). 0 < z) (sym q) (mul-pos P D))

module _ (f : Format) (u : ℕ) (is : 2 ^ low f ≡ u) where
  -- `round` at num / den, which is Z / q units, below 2 ^ j of them
  settled : (s : Bool) (num den Z q p n j : ℕ) → 0 < den → num * u * q ≡ Z * den → plus_of s Z + n ≡ p + minus_of s Z → Z < 2 ^ j * q → j < low f + suc (emax f)
      → Rounds (round f s num den) u p n q (2 ^ (j - prec f))
  settled s num den Z q p n j D e h z top =
      let E = 2 ^ (j - prec f) in
      let i : num * u * q < 2 ^ j * den * q = subst₂ (λ (x y : ℕ). x < y) (sym e) (mul_right_comm (2 ^ j) q den) (mul-lt-mul_of_pos_right z D) in
      let R = round_near f s num den j D (subst (λ (v : ℕ). num * v < 2 ^ j * den) (sym is) (lt_of_mul-lt-mul_right q i)) top in
      let w : Apart (R.size * den * 2) (num * u * 2) (den * E) = subst (λ (v : ℕ). Apart (R.size * den * 2) (num * v * 2) (den * E)) is R.near in
      let a : R.size * den * 2 * q ≡ R.size * q * 2 * den = turn R.size den q in
      let b : num * u * 2 * q ≡ Z * 2 * den = mul_right_comm (num * u) 2 q ∙ ap (λ (x : ℕ). x * 2) e ∙ mul_right_comm Z den 2 in
      record {
        sign = s;
        size = R.size;
        value = subst (λ (v : ℕ). HasValue (round f s num den) s R.size v) is R.value;
        near =
            with_sign s R.size Z p n q E h
            (rescale (R.size * den * 2) (num * u * 2) (R.size * q * 2) (Z * 2) den q E D a b w.0, rescale (num * u * 2) (R.size * den * 2) (Z * 2) (R.size * q * 2) den q E D b a w.1);
      }
    where
      turn : (r d q : ℕ) → r * d * 2 * q ≡ r * q * 2 * d
      turn r d q = simp ring

  -- ---- the sum: a / c and b / c are X and Y units
  order : (a b c X Y : ℕ) → 0 < c → a * u ≡ X * c → b * u ≡ Y * c → a ≤ b → X ≤ Y
  order a b c X Y C x y h = le_of_mul-le-mul_right (subst₂ (λ (x y : ℕ). x ≤ y) x y (mul-le-mul_right u h)) C

  -- the larger less the smaller, with the sign r
  differ : (r : Bool) (a b c X Y p n j : ℕ) → 0 < c → a * u ≡ X * c → b * u ≡ Y * c → X + Y < 2 ^ j → j < low f + suc (emax f)
      → plus_of r (X - Y) + n ≡ p + minus_of r (X - Y) → Rounds (round f r (a - b) c) u p n 1 (2 ^ (j - prec f))
  differ r a b c X Y p n j C x y h top e =
      settled r (a - b) c (X - Y) 1 p n j C (mul-one ((a - b) * u) ∙ sub-mul a b u ∙ ap₂ (λ (v w : ℕ). v - w) x y ∙ sym (sub-mul X Y c)) e (omega arith) top
    where
      sub-mul : (a b u : ℕ) → (a - b) * u ≡ a * u - b * u
      sub-mul a b u = mul_comm (a - b) u ∙ mul-sub u a b ∙ ap₂ (λ (v w : ℕ). v - w) (mul_comm u a) (mul_comm u b)

  sum_near : (s : Bool) (a : ℕ) (t : Bool) (b c X Y j : ℕ) → 0 < c → a * u ≡ X * c → b * u ≡ Y * c → X + Y < 2 ^ j → j < low f + suc (emax f)
      → Rounds (sum f s a t b c) u (plus_of s X + plus_of t Y) (minus_of s X + minus_of t Y) 1 (2 ^ (j - prec f))
  unfolding sum
  sum_near false a false b c X Y j C x y h top = settled false (a + b) c (X + Y) 1 (X + Y) 0 j C (omega arith) (omega arith) (omega arith) top
  sum_near true a true b c X Y j C x y h top = settled true (a + b) c (X + Y) 1 0 (X + Y) j C (omega arith) (omega arith) (omega arith) top
  sum_near false a true b c X Y j C x y h top = go (ltb a b) (ltb→lt a b) (nltb→le a b)
    where
      go : (q : Bool) → (T q → a < b) → (T (not q) → b ≤ a) → Rounds (cond q (round f true (b - a) c) (round f false (a - b) c)) u (X + 0) (0 + Y) 1 (2 ^ (j - prec f))
      go true l g = differ true b a c Y X (X + 0) (0 + Y) j C y x (omega arith) top (omega (arith, order a b c X Y C x y (le_of_lt (l tt))))
      go false l g = differ false a b c X Y (X + 0) (0 + Y) j C x y h top (omega (arith, order b a c Y X C y x (g tt)))
  sum_near true a false b c X Y j C x y h top = go (ltb a b) (ltb→lt a b) (nltb→le a b)
    where
      -- where the two are equal the result is 0, and either sign is right
      last : (q : Bool) → (T (not q) → a ≤ b) → Y ≤ X → Rounds (round f q (a - b) c) u (0 + Y) (X + 0) 1 (2 ^ (j - prec f))
      last true g l = differ true a b c X Y (0 + Y) (X + 0) j C x y h top (omega arith)
      last false g l = differ false a b c X Y (0 + Y) (X + 0) j C x y h top (omega (arith, order a b c X Y C x y (g tt)))

      go : (q : Bool) → (T q → a < b) → (T (not q) → b ≤ a) → Rounds (cond q (round f false (b - a) c) (round f (ltb b a) (a - b) c)) u (0 + Y) (X + 0) 1 (2 ^ (j - prec f))
      go true l g = differ false b a c Y X (0 + Y) (X + 0) j C y x (omega arith) top (omega (arith, order a b c X Y C x y (le_of_lt (l tt))))
      go false l g = last (ltb b a) (nltb→le b a) (order b a c Y X C y x (g tt))

  pub add_near : (x y : Float) (s : Bool) (X : ℕ) (t : Bool) (Y j : ℕ) → HasValue x s X u → HasValue y t Y u → X + Y < 2 ^ j → j < low f + suc (emax f)
      → Rounds (add f x y) u (plus_of s X + plus_of t Y) (minus_of s X + minus_of t Y) 1 (2 ^ (j - prec f))
  unfolding add
  add_near x y s X t Y j v w h top =
      by_value (λ (x : Float). Goal (add f x y)) s X u
      (λ m e p. by_value (λ (y : Float). Goal (add f (fin s m e) y)) t Y u
      (λ n d q. sum_near s (m * up e * down d) t (n * up d * down e) (down e * down d) X Y j (mul-pos (down_pos e) (down_pos d))
      (wider (m * up e) X (down e) (down d) p) (wider (n * up d) Y (down d) (down e) q ∙ ap (λ (c : ℕ). Y * c) (mul_comm (down d) (down e))) h top) y w) x v
    where
      Goal : Float → Type 0
      Goal z = Rounds z u (plus_of s X + plus_of t Y) (minus_of s X + minus_of t Y) 1 (2 ^ (j - prec f))

      wider : (a X c d : ℕ) → a * u ≡ X * c → a * d * u ≡ X * (c * d)
      wider a X c d e = mul_right_comm a d u ∙ ap (λ (z : ℕ). z * d) e ∙ mul_assoc X c d

  -- ---- the product: X * Y / u units
  pub mul_near : (x y : Float) (s : Bool) (X : ℕ) (t : Bool) (Y j : ℕ) → HasValue x s X u → HasValue y t Y u → X * Y < 2 ^ j * u → j < low f + suc (emax f)
      → Rounds (mul f x y) u (plus_of s X * plus_of t Y + minus_of s X * minus_of t Y) (plus_of s X * minus_of t Y + minus_of s X * plus_of t Y) u (2 ^ (j - prec f))
  unfolding mul
  mul_near x y s X t Y j v w h top =
      by_value (λ (x : Float). Goal (mul f x y)) s X u
      (λ m e p. by_value (λ (y : Float). Goal (mul f (fin s m e) y)) t Y u
      (λ n d q. settled (unlike s t) (m * up e * (n * up d)) (down e * down d) (X * Y) u (plus_of s X * plus_of t Y + minus_of s X * minus_of t Y) (plus_of s X * minus_of t Y + minus_of s X * plus_of t Y) j
      (mul-pos (down_pos e) (down_pos d)) (square (m * up e) (n * up d) (down e) (down d) p q) (signs s t) h top) y w) x v
    where
      Goal : Float → Type 0
      Goal z = Rounds z u (plus_of s X * plus_of t Y + minus_of s X * minus_of t Y) (plus_of s X * minus_of t Y + minus_of s X * plus_of t Y) u (2 ^ (j - prec f))

      square : (a b c d : ℕ) → a * u ≡ X * c → b * u ≡ Y * d → a * b * u * u ≡ X * Y * (c * d)
      square a b c d p q = simp ring (simp ring at (ap₂ (λ (x y : ℕ). x * y) p q))

      signs : (s t : Bool) → plus_of (unlike s t) (X * Y) + (plus_of s X * minus_of t Y + minus_of s X * plus_of t Y) ≡ plus_of s X * plus_of t Y + minus_of s X * minus_of t Y + minus_of (unlike s t) (X * Y)
      signs false false = omega arith
      signs false true = omega arith
      signs true false = omega arith
      signs true true = omega arith

  -- ---- the quotient by a value above 0: X * u / Y units
  pub div_near : (x y : Float) (s : Bool) (X Y j : ℕ) → HasValue x s X u → HasValue y false Y u → 0 < Y → X * u < 2 ^ j * Y → j < low f + suc (emax f)
      → Rounds (div f x y) u (plus_of s X * u) (minus_of s X * u) Y (2 ^ (j - prec f))
  unfolding div
  div_near x y s X Y j v w P h top =
      by_value (λ (x : Float). Goal (div f x y)) s X u
      (λ m e p. by_value (λ (y : Float). Goal (div f (fin s m e) y)) false Y u
      (λ n d q. nonzero (cond (eqb m 0) nan (inf (unlike s false))) (round f (unlike s false) (m * up e * down d) (n * up d * down e)) n (first_pos n (up d) (some-units (n * up d) u Y (down d) P (down_pos d) q))
      (settled (unlike s false) (m * up e * down d) (n * up d * down e) (X * u) Y (plus_of s X * u) (minus_of s X * u) j (mul-pos (some-units (n * up d) u Y (down d) P (down_pos d) q) (down_pos e))
      (over (m * up e) (n * up d) (down e) (down d) p q) (signs s) h top)) y w) x v
    where
      Goal : Float → Type 0
      Goal z = Rounds z u (plus_of s X * u) (minus_of s X * u) Y (2 ^ (j - prec f))

      over : (a b c d : ℕ) → a * u ≡ X * c → b * u ≡ Y * d → a * d * u * Y ≡ X * u * (b * c)
      over a b c d p q = omega (arith, ap (λ (z : ℕ). z * (d * Y)) p, ap (λ (z : ℕ). z * (X * c)) q)

      signs : (s : Bool) → plus_of (unlike s false) (X * u) + minus_of s X * u ≡ plus_of s X * u + minus_of (unlike s false) (X * u)
      signs false = omega arith
      signs true = omega arith

      nonzero : (z r : Float) (n : ℕ) → 0 < n → Goal r → Goal (cond (eqb n 0) z r)
      nonzero z r n N g = go (eqb n 0) (eqb→eq n 0)
        where
          go : (b : Bool) → (T b → n ≡ 0) → Goal (cond b z r)
          go true k = let e : n ≡ 0 = k tt in absurd (omega arith)
          go false k = g

  -- ---- whole numbers of at most prec digits are exact
  pub whole-value : (s : Bool) (n : ℕ) → n < 2 ^ prec f → HasValue (round f s n 1) s (n * u) u
  whole-value s n h =
      to-units (round f s n 1)
      (round_exact f s n 1 n (low f) (le_refl 1) h
      (lt_of_lt_of_le (mul-lt-mul_of_pos_right h (pow_pos (low f))) (le_trans (le_of_eq (sym (pow-add 2 (prec f) (low f)))) (pow_mono (swap (prec f) (low f) (suc (emax f)) (reach f)))))
      (sym (mul-one (n * 2 ^ low f))))
    where
      to-units : (x : Float) → HasValue x s n 1 → HasValue x s (n * u) u
      to-units x v = by_value (λ (x : Float). HasValue x s (n * u) u) s n 1 (λ m e p. (refl, ap (λ (z : ℕ). z * u) (sym (mul-one (m * up e)) ∙ p) ∙ mul_right_comm n (down e) u)) x v

      swap : (a b c : ℕ) → a ≤ c → a + b ≤ b + c
      swap a b c h = omega arith

  -- ---- a value that the format holds is a whole number of units
  pub units_of : (s : Bool) (m : ℕ) (e : ℤ) → T (fits f (fin s m e)) → (X : ℕ) × (m * up e * u ≡ X * down e)
  unfolding fits
  units_of s zero e t = (0, omega arith)
  units_of s (suc m) e t = go (suc m) e (leb→le (down e) (2 ^ low f) (search (and_l, and_r)))
    where
      lower : (i j : ℕ) → 2 ^ i ≤ 2 ^ j → i ≤ j
      lower i j h = le_of_suc-le-suc (lt_of_not-le (λ (g : suc j ≤ i). not-le_of_lt (pow-lt g) h))

      go : (m : ℕ) (e : ℤ) → down e ≤ 2 ^ low f → (X : ℕ) × (m * up e * u ≡ X * down e)
      go m (pos k) h = (m * 2 ^ k * u, sym (mul-one (m * 2 ^ k * u)))
      go m (negsuc k) h = (m * 2 ^ (low f - suc k), ap (λ (x : ℕ). m * 1 * x) (sym is ∙ ap (λ (x : ℕ). 2 ^ x) (sym (sub-add_cancel (lower (suc k) (low f) h))) ∙ pow-add 2 (low f - suc k) (suc k)) ∙ simp ring)

-- ---- a negative, and a difference as a sum
pub neg_value : (y : Float) (t : Bool) (Y u : ℕ) → HasValue y t Y u → HasValue (neg y) (not t) Y u
unfolding neg
neg_value y t Y u v = by_value (λ (y : Float). HasValue (neg y) (not t) Y u) t Y u (λ n d p. (refl, p)) y v

pub sub_is_add : (f : Format) (x y : Float) → add f x (neg y) ≡ sub f x y
unfolding sub
sub_is_add f x y = refl
