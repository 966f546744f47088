-- Counting off: the sum of the first values of f, and the unit that a day falls in. For years and
-- for months.
use Prim.Native.Nat.{ℕ, zero, suc, ◌+◌, ◌-◌, ◌*◌, ◌≤◌, ◌<◌}
use mathlib.Core.Path.{◌≡◌, refl, ◌∙◌, ap}
use mathlib.Core.Bool.{Bool, true, false}
use native.Mathlib.Omega.{arith}
use native.Mathlib.Decide.{dec_lt, dec_le}
use native.Mathlib.Nat.{add-zero, add-suc, le_refl, add-sub_of_le, suc-mul, suc-add}
use borrow.Author.Tests.{le-leb, lt-leb}
use Rattle.calendar.specs.gregorian.Gregorian.{days_before, unit_holding}

module _ (f : ℕ → ℕ) where
  pub before-suc : (k : ℕ) → days_before f (suc k) ≡ days_before f k + f k
  unfolding days_before
  before-suc k = refl

  -- no unit is longer than b
  pub before-most : (b : ℕ) → ((k : ℕ) → f k ≤ b) → (n : ℕ) → days_before f n ≤ n * b
  unfolding days_before
  before-most b h zero = omega arith
  before-most b h (suc n) = rw suc-mul (omega (arith, before-most b h n, h n))

  before-up : (a d : ℕ) → days_before f a ≤ days_before f (a + d)
  before-up a zero = rw add-zero (le_refl (days_before f a))
  before-up a (suc d) = rw add-suc (omega (arith, before-up a d, before-suc (a + d)))

  pub before_mono : (a b : ℕ) → a ≤ b → days_before f a ≤ days_before f b
  before_mono a b h = rw (add-sub_of_le h) at (before-up a (b - a))

  unit-stop : (k u n : ℕ) → n ≤ f u → unit_holding f (suc k) u n ≡ u
  unfolding unit_holding
  unit-stop k u n h = ap (λ (b : Bool). elim b as (λ x. ℕ) [ true ↦ u | false ↦ unit_holding f k (suc u) (n - f u) ]) (le-leb n (f u) h)

  unit_go : (k u n : ℕ) → f u < n → unit_holding f (suc k) u n ≡ unit_holding f k (suc u) (n - f u)
  unfolding unit_holding
  unit_go k u n h = ap (λ (b : Bool). elim b as (λ x. ℕ) [ true ↦ u | false ↦ unit_holding f k (suc u) (n - f u) ]) (lt-leb n (f u) h)

  -- the n-th day counted from the start of unit u falls in unit v
  pub unit-at : (k u v n : ℕ) → u ≤ v → v < u + k → days_before f v < days_before f u + n → days_before f u + n ≤ days_before f (suc v) → unit_holding f k u n ≡ v
  unit-at zero u v n h l p q = absurd (omega arith)
  unit-at (suc k) u v n h l p q = by (dec_lt u v) (unit-at k (suc u) v (n - f u))
    where
      by : Dec (u < v) → (suc u ≤ v → v < suc u + k → days_before f v < days_before f (suc u) + (n - f u) → days_before f (suc u) + (n - f u) ≤ days_before f (suc v) → unit_holding f k (suc u) (n - f u) ≡ v) → unit_holding f (suc k) u n ≡ v
      by (no e) r =
          let same : u ≡ v = omega arith in
          unit-stop k u n (omega (arith, before-suc u, ap (λ (x : ℕ). days_before f (suc x)) same)) ∙ same
      by (yes e) r =
          let more : f u < n = omega (arith, before-suc u, before_mono (suc u) v e) in
          unit_go k u n more ∙ r e (omega arith) (omega (arith, before-suc u)) (omega (arith, before-suc u))

  -- the n-th day counted from the start of unit u falls in the unit that is found
  pub record Falls (k u n v : ℕ) : Type 0 where
    pub from : u ≤ v
    pub to : v < u + k
    pub after : days_before f v < days_before f u + n
    pub until : days_before f u + n ≤ days_before f (suc v)

  pub unit_in : (k u n : ℕ) → 1 ≤ n → days_before f u + n ≤ days_before f (u + k) → Falls k u n (unit_holding f k u n)
  unit_in zero u n h l = absurd (omega (arith, ap (days_before f) (add-zero u)))
  unit_in (suc k) u n h l = by (dec_le n (f u)) (unit_in k (suc u) (n - f u))
    where
      by : Dec (n ≤ f u) → (1 ≤ n - f u → days_before f (suc u) + (n - f u) ≤ days_before f (suc u + k) → Falls k (suc u) (n - f u) (unit_holding f k (suc u) (n - f u))) → Falls (suc k) u n (unit_holding f (suc k) u n)
      by (yes e) r = rw (unit-stop k u n e) (record { from = omega arith; to = omega arith; after = omega arith; until = omega (arith, before-suc u) })
      by (no e) r =
          let s = r (omega arith) (omega (arith, before-suc u, ap (days_before f) (add-suc u k), ap (days_before f) (suc-add u k))) in
          rw (unit_go k u n (omega arith))
          (record { from = omega (arith, s.from); to = omega (arith, s.to); after = omega (arith, s.after, before-suc u); until = omega (arith, s.until, before-suc u) })
