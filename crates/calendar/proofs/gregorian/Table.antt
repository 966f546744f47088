-- A table's rule proved once: the list is compared with its rule's values, or a test is computed at
-- each number, and a lemma turns that to each entry.
use Prim.Native.Nat.{ℕ, zero, suc, ◌<◌}
use mathlib.Core.Path.{◌≡◌, ◌∙◌, ap}
use mathlib.Core.Bool.{Bool, true}
use native.Mathlib.Omega.{arith}
use native.Mathlib.Decide.{dec_lt}
use lib.ListN.{get_or}
use Rattle.outcome.specs.Lists.{values_from}
use Rattle.outcome.specs.Outcome.{both}
use Rattle.outcome.proofs.Lists.{value-at}
use Rattle.outcome.proofs.Outcomes.{both_true}

pub table_at : (f : ℕ → ℕ) (n k : ℕ) → k < n → get_or (values_from f 0 n) k 0 ≡ f k
table_at f n k h = value-at f 0 n k 0 h ∙ ap f (omega arith)

-- the test p at each number below n
unfoldable pub passes : (ℕ → Bool) → ℕ → Bool
passes p zero = true
passes p (suc n) = both (p n) (passes p n)

pub passes_at : (p : ℕ → Bool) (n : ℕ) → passes p n ≡ true → (k : ℕ) → k < n → p k ≡ true
unfolding passes
passes_at p zero t k h = absurd (omega arith)
passes_at p (suc n) t k h =
    let b = both_true (p n) (passes p n) t in
    by (dec_lt k n) b (λ l. passes_at p n b.1 k l)
  where
    by : Dec (k < n) → (p n ≡ true) × (passes p n ≡ true) → (k < n → p k ≡ true) → p k ≡ true
    by (yes l) b r = r l
    by (no l) b r = let e : k ≡ n = omega arith in rw e b.0
