-- What the search of a table finds; no promise of an entry point rests on this.
use Rattle.std.specs.Prelude.{ℕ, ◌≤◌, ◌<◌, ◌≡◌, true, false, List, length, get_or, Option, Some, None}
use Rattle.business_days.specs.table.Table.{is_table}

-- in an ascending list, i is the place of the first day that is not before n
pub record IsLowerBound (t : List ℕ) (n i : ℕ) : Type 0 where
  pub sorted : (p q : ℕ) → p < q → q < length t → get_or t p 0 < get_or t q 0
  pub within : i ≤ length t
  pub before : (k : ℕ) → k < i → get_or t k 0 < n
  pub after : (k : ℕ) → i ≤ k → k < length t → n ≤ get_or t k 0

-- the place of a day in a table that is taken, or that it is not taken
abbrev pub Placed : List ℕ → ℕ → Option ℕ → Type 0
Placed t n (Some i) = (is_table t ≡ true) × IsLowerBound t n i
Placed t n None = is_table t ≡ false
