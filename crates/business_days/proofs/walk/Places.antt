-- The place in a table that a day splits it at: the parts on its two sides, how it moves with the
-- day, and what it says of the day.
use Prim.Native.Nat.{ℕ, zero, suc, ◌+◌, ◌-◌, ◌≤◌, ◌<◌, zero-le}
use mathlib.Core.Path.{◌≡◌, sym, subst}
use mathlib.Core.Bool.{true, false}
use mathlib.Core.List.{List, ◌∷◌}
use native.Mathlib.Omega.{arith}
use native.Mathlib.Decide.{dec_lt}
use lib.ListN.{length, get_or, take, drop, length-drop, get_or-eq_default}
use lib.Seq.{get_or-take, get_or-drop, length-take-le}
use Rattle.business_days.specs.table.Table.{ascending, is_listed}
use Rattle.business_days.specs.table.Search.{IsLowerBound}
use Rattle.business_days.proofs.table.Places.{up_to, Bracket, bracket_whole, bracket_up}
use Rattle.business_days.proofs.walk.Listed.{listed_at_lem, unlisted}

-- past the end stands a 0, which is no day
pub placed : (t : List ℕ) (n i : ℕ) → 1 ≤ n → n ≡ get_or t i 0 → i < length t
placed t n i d e = by (dec_lt i (length t))
  where
    by : Dec (i < length t) → i < length t
    by (yes g) = g
    by (no g) = absurd (omega (arith, get_or-eq_default t 0 {n = i} (omega arith)))

module _ {t : List ℕ} {n i : ℕ} (s : IsLowerBound t n i) where
  -- the part from the place on, and the part up to it
  pub part_after : IsLowerBound (drop i t) n 0
  part_after = record {
    sorted = λ p q l h. rw (get_or-drop i t p 0, get_or-drop i t q 0) (s.sorted (i + p) (i + q) (omega arith) (omega (arith, length-drop i t)));
    within = zero-le;
    before = λ k l. absurd (omega arith);
    after = λ k l h. rw (get_or-drop i t k 0) (s.after (i + k) (omega arith) (omega (arith, length-drop i t)));
  }

  pub part_before_lem : IsLowerBound (take i t) n (length (take i t))
  part_before_lem =
      let e : length (take i t) ≡ i = length-take-le i t s.within in
      record {
        sorted = λ p q l h. rw (get_or-take i t p 0 (omega arith), get_or-take i t q 0 (omega arith)) (s.sorted p q l (omega (arith, s.within)));
        within = omega arith;
        before = λ k l. rw (get_or-take i t k 0 (omega arith)) (s.before k (omega arith));
        after = λ k l h. absurd (omega arith);
      }

  -- a day of which the table lists none between it and the next place is not listed
  pub skipped : (m : ℕ) → m ≡ n + 1 → IsLowerBound t m i → is_listed n t ≡ false
  skipped m e u = unlisted n t (λ k l i. by k l i (dec_lt k _))
    where
      by : (k : ℕ) → k < length t → get_or t k 0 ≡ n → Dec (k < i) → ⊥
      by k l f (yes g) = omega (arith, s.before k g)
      by k l f (no g) = omega (arith, u.after k (omega arith) l)

  -- forwards: the day is the holiday at the place
  module _ (d : 1 ≤ n) (e : n ≡ get_or t i 0) where
    pub met : is_listed n t ≡ true
    met = subst (λ (x : ℕ). is_listed x t ≡ true) (sym e) (listed_at_lem t i (placed t n i d e))

    pub met_on : IsLowerBound t (n + 1) (i + 1)
    met_on = record {
      sorted = s.sorted;
      within = omega (arith, placed t n i d e);
      before = λ k l. omega (arith, up_to t s.sorted k i (omega arith) (placed t n i d e));
      after = λ k l h. omega (arith, s.sorted i k (omega arith) h);
    }

  -- or it is not
  pub past-on : (n ≡ get_or t i 0 → ⊥) → IsLowerBound t (n + 1) i
  past-on h = record {
    sorted = s.sorted;
    within = s.within;
    before = λ k l. omega (arith, s.before k l);
    after = λ k l m. omega (arith, h, s.after i (omega arith) (omega arith), up_to t s.sorted i k l m);
  }

-- backwards: the day before is the holiday before the place
pub record Met (t : List ℕ) (n i : ℕ) : Type 0 where
  pub inside : 0 < i
  pub there : is_listed (n - 1) t ≡ true
  pub splits : IsLowerBound t (n - 1) (i - 1)

module _ {t : List ℕ} {n : ℕ} where
  pub met_back : (i : ℕ) → IsLowerBound t n i → 1 < n → n - 1 ≡ get_or (0 ∷ t) i 0 → Met t n i
  met_back zero s d e = absurd (omega arith)
  met_back (suc j) s d e = record {
    inside = omega arith;
    there = subst (λ (x : ℕ). is_listed x t ≡ true) (sym e) (listed_at_lem t j (omega (arith, s.within)));
    splits = record {
      sorted = s.sorted;
      within = omega (arith, s.within);
      before = λ k l. omega (arith, s.sorted k j (omega arith) (omega (arith, s.within)));
      after = λ k l m. omega (arith, up_to t s.sorted j k (omega arith) m);
    };
  }

  -- or it is not
  pub past_back : (i : ℕ) → IsLowerBound t n i → 1 < n → (n - 1 ≡ get_or (0 ∷ t) i 0 → ⊥) → IsLowerBound t (n - 1) i
  past_back zero s d h = record {
    sorted = s.sorted;
    within = zero-le;
    before = λ k l. absurd (omega arith);
    after = λ k l m. omega (arith, s.after k l m);
  }
  past_back (suc j) s d h = record {
    sorted = s.sorted;
    within = s.within;
    before = λ k l. omega (arith, last, up_to t s.sorted k j (omega arith) (omega (arith, s.within)));
    after = λ k l m. omega (arith, s.after k l m);
  }
    where
      last : get_or t j 0 < n - 1
      last = omega (arith, s.before j (omega arith), h)

-- a place that is not past the one sought: before it, all is before
pub bracket_near : (t : List ℕ) (n i : ℕ) → ascending t ≡ true → i ≤ length t → get_or (0 ∷ t) i 0 < n → Bracket t n i (length t)
bracket_near t n zero a w h = bracket_whole t n a
bracket_near t n (suc i) a w h =
    let e : i + 1 ≡ suc i = omega arith in
    rw e at (bracket_up (bracket_whole t n a) i zero-le (omega arith) h)
