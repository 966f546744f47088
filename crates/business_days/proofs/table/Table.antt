-- The laws of a holiday table: its order and its length.
use Prim.Native.Nat.{ℕ, zero, suc, ◌+◌, ◌≤◌, ◌<◌}
use mathlib.Core.Path.{◌≡◌, refl}
use mathlib.Core.Bool.{true}
use mathlib.Core.List.{List, [], ◌∷◌}
use native.Mathlib.Omega.{arith}
use lib.ListN.{length, get_or}
use lib.Dec.{leb}
use borrow.Author.Tests.{le-leb, leb-true}
use Rattle.outcome.proofs.Outcomes.{both_true}
use Rattle.business_days.specs.table.Table.{ascends_from, ascending, is_table}

-- what an ascending list says of its head and of the rest
pub ascends_cons : (low d : ℕ) (ds : List ℕ) → ascends_from low (d ∷ ds) ≡ true → (low ≤ d) × (d ≤ 3652059) × (ascends_from (d + 1) ds ≡ true)
unfolding ascends_from
ascends_cons low d ds e =
    let p = both_true _ _ e in
    let q = both_true _ _ p.1 in
    (leb-true _ _ p.0, leb-true _ _ q.0, q.1)

pub from_low : (low : ℕ) (t : List ℕ) → ascends_from low t ≡ true → (k : ℕ) → k < length t → low ≤ get_or t k 0
from_low low [] e k h = absurd (omega arith)
from_low low (d ∷ ds) e zero h = (ascends_cons low d ds e).0
from_low low (d ∷ ds) e (suc k) h =
    let a = ascends_cons low d ds e in
    omega (arith, a, from_low (d + 1) ds a.2 k (omega arith))

-- the days of an ascending list stand in strict order
pub in_order : (low : ℕ) (t : List ℕ) → ascends_from low t ≡ true → (p q : ℕ) → p < q → q < length t → get_or t p 0 < get_or t q 0
in_order low [] e p q h l = absurd (omega arith)
in_order low (d ∷ ds) e p zero h l = absurd (omega arith)
in_order low (d ∷ ds) e zero (suc q) h l = omega (arith, from_low (d + 1) ds (ascends_cons low d ds e).2 q (omega arith))
in_order low (d ∷ ds) e (suc p) (suc q) h l = in_order (d + 1) ds (ascends_cons low d ds e).2 p q (omega arith) (omega arith)

-- and none is past the calendar
pub by_last : (low : ℕ) (t : List ℕ) → ascends_from low t ≡ true → (k : ℕ) → k < length t → get_or t k 0 ≤ 3652059
by_last low [] e k h = absurd (omega arith)
by_last low (d ∷ ds) e zero h = (ascends_cons low d ds e).1
by_last low (d ∷ ds) e (suc k) h = by_last (d + 1) ds (ascends_cons low d ds e).2 k (omega arith)

-- and a list of days of the calendar in strict order ascends
pub ascends_by_order : (low : ℕ) (t : List ℕ) → ((k : ℕ) → k < length t → (low ≤ get_or t k 0) × (get_or t k 0 ≤ 3652059)) → ((p q : ℕ) → p < q → q < length t → get_or t p 0 < get_or t q 0) → ascends_from low t ≡ true
unfolding ascends_from
ascends_by_order low [] b o = refl
ascends_by_order low (d ∷ ds) b o =
    let r =
    ascends_by_order (d + 1) ds (λ k h. (omega (arith, o 0 (suc k) (omega arith) (omega arith)), (b (suc k) (omega arith)).1))
    (λ p q h l. o (suc p) (suc q) (omega arith) (omega arith)) in
    simp (le-leb low d (b 0 (omega arith)).0, le-leb d 3652059 (b 0 (omega arith)).1, r)

-- a list that is not too long is taken where it ascends
pub table_is : (t : List ℕ) → length t ≤ 4096 → is_table t ≡ ascending t
unfolding is_table
table_is t h = simp (le-leb (length t) 4096 h)

-- a table that is taken ascends, and is not too long
pub table_ascends : (t : List ℕ) → is_table t ≡ true → ascending t ≡ true
unfolding is_table
table_ascends t e = (both_true (leb (length t) 4096) (ascending t) e).1

pub table-most : (t : List ℕ) → is_table t ≡ true → length t ≤ 4096
unfolding is_table
table-most t e = leb-true _ _ (both_true (leb (length t) 4096) (ascending t) e).0
