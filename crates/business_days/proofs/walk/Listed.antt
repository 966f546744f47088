-- Which days are listed in a table, and in a part of it.
use Prim.Native.Nat.{ℕ, zero, suc, ◌≤◌, ◌<◌}
use mathlib.Core.Path.{◌≡◌, refl, sym, ◌∙◌}
use mathlib.Core.Bool.{true, false, or-true}
use mathlib.Core.List.{List, [], ◌∷◌}
use native.Mathlib.Omega.{arith}
use lib.ListN.{length, get_or, take, drop}
use lib.Dec.{eqb}
use borrow.Author.Tests.{eq-eqb, ne_eqb}
use Rattle.business_days.specs.table.Table.{is_listed}

-- the day at a place is listed, and a day that stands at none is not
pub listed_at_lem : (t : List ℕ) (k : ℕ) → k < length t → is_listed (get_or t k 0) t ≡ true
unfolding is_listed
listed_at_lem [] k h = absurd (omega arith)
listed_at_lem (d ∷ ds) zero h = simp (eq-eqb d d refl)
listed_at_lem (d ∷ ds) (suc k) h = rw (listed_at_lem ds k (omega arith)) (or-true (eqb (get_or ds k 0) d))

listed_past : (x d : ℕ) (ds : List ℕ) → (d ≡ x → ⊥) → is_listed x (d ∷ ds) ≡ is_listed x ds
unfolding is_listed
listed_past x d ds h = simp (ne_eqb x d (λ i. h (sym i)))

pub unlisted : (x : ℕ) (t : List ℕ) → ((k : ℕ) → k < length t → get_or t k 0 ≡ x → ⊥) → is_listed x t ≡ false
unfolding is_listed
unlisted x [] h = refl
unlisted x (d ∷ ds) h = listed_past x d ds (h 0 (omega arith)) ∙ unlisted x ds (λ k l. h (suc k) (omega arith))

-- a part of a table lists what the whole does, but for the days that are cut off
pub listed_drop : (x : ℕ) (t : List ℕ) (i : ℕ) → ((k : ℕ) → k < i → get_or t k 0 ≡ x → ⊥) → is_listed x (drop i t) ≡ is_listed x t
listed_drop x t zero h = refl
listed_drop x [] (suc i) h = refl
listed_drop x (d ∷ ds) (suc i) h =
    listed_drop x ds i (λ k l. h (suc k) (omega arith)) ∙ sym (listed_past x d ds (h 0 (omega arith)))

pub listed_take : (x : ℕ) (t : List ℕ) (i : ℕ) → ((k : ℕ) → i ≤ k → k < length t → get_or t k 0 ≡ x → ⊥) → is_listed x (take i t) ≡ is_listed x t
unfolding is_listed
listed_take x t zero h = unlisted x [] (λ k l. absurd (omega arith)) ∙ sym (unlisted x t (λ k l. h k (omega arith) l))
listed_take x [] (suc i) h = refl
listed_take x (d ∷ ds) (suc i) h = rw (listed_take x ds i (λ k l m. h (suc k) (omega arith) (omega arith)))
