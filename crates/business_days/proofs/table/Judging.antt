-- The test that finds whether a table ascends, day by day.
use Prim.Native.Nat.{ℕ, ◌+◌, ◌≤◌, ◌<◌}
use mathlib.Core.Path.{◌≡◌, refl, sym, ap, ◌∙◌}
use mathlib.Core.Bool.{Bool, true, false}
use mathlib.Core.List.{List, ◌∷◌}
use native.Mathlib.Omega.{arith}
use native.Mathlib.Decide.{dec_lt}
use lib.ListN.{length, get_or, drop, drop_of_length-le}
use lib.Dec.{leb}
use borrow.Author.Tests.{le-leb, lt-leb}
use Rattle.outcome.proofs.Lists.{head_at}
use Rattle.outcome.specs.Outcome.{both}
use Rattle.business_days.specs.table.Table.{ascends_from, ascending}

-- what holds of nothing, and of all
nothing : (b c : Bool) → both b (both c false) ≡ false
nothing true true = refl
nothing true false = refl
nothing false c = refl

both_all : (b : Bool) → both b true ≡ b
both_all true = refl
both_all false = refl

-- the test of a table: what was good so far, the last day, and what is left of the table decide
module _ (t : List ℕ) (good : Bool) (last i : ℕ) (e : ascending t ≡ both good (both (leb last 3652059) (ascends_from (last + 1) (drop i t)))) where
  at_place : i < length t → ascending t ≡ both good (both (leb last 3652059) (ascends_from (last + 1) (get_or t i 0 ∷ drop (i + 1) t)))
  at_place l =
      e ∙ ap (λ (r : List ℕ). both good (both (leb last 3652059) (ascends_from (last + 1) r))) (head_at t i 0 l)

  pub not-later : i < length t → get_or t i 0 ≤ last → ascending t ≡ false
  unfolding ascends_from
  not-later l h = at_place l ∙ simp (lt-leb (last + 1) (get_or t i 0) (omega arith)) (nothing good (leb last 3652059))

  pub later : i < length t → last < get_or t i 0 → ascending t ≡ both good (both (leb (get_or t i 0) 3652059) (ascends_from (get_or t i 0 + 1) (drop (i + 1) t)))
  unfolding ascends_from
  later l h = at_place l ∙ simp (le-leb (last + 1) (get_or t i 0) (omega arith)) (ap (both good) (by (dec_lt 3652059 (get_or t i 0))))
    where
      by : Dec (3652059 < get_or t i 0) → both (leb last 3652059) (both (leb (get_or t i 0) 3652059) (ascends_from (get_or t i 0 + 1) (drop (i + 1) t))) ≡ both (leb (get_or t i 0) 3652059) (ascends_from (get_or t i 0 + 1) (drop (i + 1) t))
      by (yes k) = rw (lt-leb (get_or t i 0) 3652059 k) (nothing true (leb last 3652059))
      by (no k) = rw (le-leb last 3652059 (omega arith))

  pub at_end : length t ≤ i → ascending t ≡ both good (leb last 3652059)
  unfolding ascends_from
  at_end h = e ∙ ap (λ (r : List ℕ). both good (both (leb last 3652059) (ascends_from (last + 1) r))) (drop_of_length-le t h) ∙ ap (both good) (both_all (leb last 3652059))

  pub past_the_end : length t ≤ i → 3652059 < last → false ≡ ascending t
  past_the_end h k = sym (at_end h ∙ rw (lt-leb last 3652059 k) (nothing good true))

  pub within_the_end : length t ≤ i → last ≤ 3652059 → good ≡ ascending t
  within_the_end h k = sym (at_end h ∙ rw (le-leb last 3652059 k) (both_all good))
