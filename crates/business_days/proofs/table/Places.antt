-- The place in a table that a day splits it at, found by halving.
use Prim.Native.Nat.{ℕ, ◌+◌, ◌≤◌, ◌<◌, zero-le}
use mathlib.Core.Path.{◌≡◌, ap}
use mathlib.Core.Bool.{true}
use mathlib.Core.List.{List}
use native.Mathlib.Omega.{arith}
use native.Mathlib.Decide.{dec_lt}
use lib.ListN.{length, get_or}
use Rattle.business_days.specs.table.Table.{ascending}
use Rattle.business_days.specs.table.Search.{IsLowerBound}
use Rattle.business_days.proofs.table.Table.{in_order}

-- days in strict order never fall from a place on
pub up_to : (t : List ℕ) → ((p q : ℕ) → p < q → q < length t → get_or t p 0 < get_or t q 0) → (p q : ℕ) → p ≤ q → q < length t → get_or t p 0 ≤ get_or t q 0
up_to t s p q h l = by (dec_lt p q)
  where
    by : Dec (p < q) → get_or t p 0 ≤ get_or t q 0
    by (yes g) = omega (arith, s p q g l)
    by (no g) = let i : p ≡ q = omega arith in omega (arith, ap (λ (x : ℕ). get_or t x 0) i)

-- halving: the place lies between lo and hi
pub record Bracket (t : List ℕ) (n lo hi : ℕ) : Type 0 where
  pub sorted : (p q : ℕ) → p < q → q < length t → get_or t p 0 < get_or t q 0
  pub ordered : lo ≤ hi
  pub within : hi ≤ length t
  pub before : (k : ℕ) → k < lo → get_or t k 0 < n
  pub after : (k : ℕ) → hi ≤ k → k < length t → n ≤ get_or t k 0

pub bracket_whole : (t : List ℕ) (n : ℕ) → ascending t ≡ true → Bracket t n 0 (length t)
bracket_whole t n a = record {
  sorted = in_order 1 t a;
  ordered = zero-le;
  within = omega arith;
  before = λ k l. absurd (omega arith);
  after = λ k l m. absurd (omega arith);
}

module _ {t : List ℕ} {n lo hi : ℕ} (b : Bracket t n lo hi) where
  pub bracket_up : (m : ℕ) → lo ≤ m → m < hi → get_or t m 0 < n → Bracket t n (m + 1) hi
  bracket_up m l h e = record {
    sorted = b.sorted;
    ordered = omega arith;
    within = b.within;
    before = λ k f. omega (arith, up_to t b.sorted k m (omega arith) (omega (arith, b.within)));
    after = b.after;
  }

  pub bracket_down : (m : ℕ) → lo ≤ m → m < hi → n ≤ get_or t m 0 → Bracket t n lo m
  bracket_down m l h e = record {
    sorted = b.sorted;
    ordered = l;
    within = omega (arith, b.within);
    before = b.before;
    after = λ k f g. omega (arith, up_to t b.sorted m k f g);
  }

  pub bracket_ends : hi ≤ lo → IsLowerBound t n lo
  bracket_ends h = record {
    sorted = b.sorted;
    within = omega (arith, b.ordered, b.within);
    before = b.before;
    after = λ k f g. b.after k (omega arith) g;
  }
