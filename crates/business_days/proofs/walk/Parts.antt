-- The answer over a part of the table is that over the whole: the days cut off lie on the other
-- side.
use Prim.Native.Nat.{ℕ, zero, suc, ◌+◌, ◌-◌, ◌≤◌, ◌<◌}
use mathlib.Core.Path.{◌≡◌, refl, ap₂}
use mathlib.Core.Bool.{Bool}
use mathlib.Core.List.{List}
use native.Mathlib.Omega.{arith}
use lib.ListN.{take, drop}
use Rattle.outcome.specs.Outcome.{Outcome}
use Rattle.calendar.specs.declared.dates.Day.{Day}
use Rattle.business_days.specs.table.Table.{is_listed}
use Rattle.business_days.specs.table.Business.{serial_day, is_business, first_of, next_from, last_of, prev_from, later_from, earlier_from}
use Rattle.business_days.specs.table.Search.{IsLowerBound}
use Rattle.business_days.proofs.table.Steps.{same_steps}
use Rattle.business_days.proofs.table.Days.{choose, next_gives, prev_gives}
use Rattle.business_days.proofs.walk.Listed.{listed_drop, listed_take}

-- tables that list the same days are the same to a business day
same_business : (s t : List ℕ) (n : ℕ) → is_listed n s ≡ is_listed n t → is_business s n ≡ is_business t n
unfolding is_business
same_business s t n e = rw e

module _ (s t : List ℕ) where
  first-same : (l n : ℕ) → ((x : ℕ) → n ≤ x → is_listed x s ≡ is_listed x t) → first_of l s n ≡ first_of l t n
  unfolding first_of
  first-same zero n h = refl
  first-same (suc l) n h =
      ap₂ (λ (b : Bool) (o : Outcome Day). choose b (serial_day n) o) (same_business s t n (h n (omega arith))) (first-same l (n + 1) (λ x k. h x (omega arith)))

  last-same : (n : ℕ) → ((x : ℕ) → 1 ≤ x → x ≤ n → is_listed x s ≡ is_listed x t) → last_of s n ≡ last_of t n
  unfolding last_of
  last-same zero h = refl
  last-same (suc n) h =
      ap₂ (λ (b : Bool) (o : Outcome Day). choose b (serial_day (suc n)) o) (same_business s t (suc n) (h (suc n) (omega arith) (omega arith))) (last-same n (λ x k l. h x k (omega arith)))

  -- the same days after n: the same next business day, and the same after k steps
  module _ (n : ℕ) (h : (x : ℕ) → n < x → is_listed x s ≡ is_listed x t) where
    pub same_next : (m : ℕ) → n ≤ m → next_from s m ≡ next_from t m
    unfolding next_from
    same_next m l = first-same (3652059 - m) (m + 1) (λ x k. h x (omega arith))

    pub same-later : (k : ℕ) → later_from s k n ≡ later_from t k n
    same-later k = same_steps (next_from s) (next_from t) (λ m. n ≤ m) same_next (λ m e l g. omega (arith, (next_gives t m e g).later)) k n (omega arith)

  -- the same days before n: the same previous business day, and the same after k steps
  module _ (n : ℕ) (h : (x : ℕ) → x < n → is_listed x s ≡ is_listed x t) where
    pub same_prev : (m : ℕ) → m ≤ n → prev_from s m ≡ prev_from t m
    unfolding prev_from
    same_prev m l = last-same (m - 1) (λ x k j. h x (omega arith))

    pub same_earlier : (k : ℕ) → earlier_from s k n ≡ earlier_from t k n
    same_earlier k = same_steps (prev_from s) (prev_from t) (λ m. m ≤ n) same_prev (λ m e l g. omega (arith, (prev_gives t m e g).earlier)) k n (omega arith)

-- the part of the table from the first holiday after n on
module _ (t : List ℕ) (n i : ℕ) (s : IsLowerBound t (n + 1) i) where
  after_lists : (x : ℕ) → n < x → is_listed x (drop i t) ≡ is_listed x t
  after_lists x h = listed_drop x t i (λ k l e. omega (arith, s.before k l))

  pub next_part : next_from (drop i t) n ≡ next_from t n
  next_part = same_next (drop i t) t n after_lists n (omega arith)

  pub later_part : (k : ℕ) → later_from (drop i t) k n ≡ later_from t k n
  later_part = same-later (drop i t) t n after_lists

-- the part of the table up to the last holiday before n
module _ (t : List ℕ) (n i : ℕ) (s : IsLowerBound t n i) where
  before_lists : (x : ℕ) → x < n → is_listed x (take i t) ≡ is_listed x t
  before_lists x h = listed_take x t i (λ k l m e. omega (arith, s.after k l m))

  pub prev_part : prev_from (take i t) n ≡ prev_from t n
  prev_part = same_prev (take i t) t n before_lists n (omega arith)

  pub earlier_part : (k : ℕ) → earlier_from (take i t) k n ≡ earlier_from t k n
  earlier_part = same_earlier (take i t) t n before_lists
