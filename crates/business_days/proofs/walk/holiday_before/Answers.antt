-- `business_days::holiday_before` meets its contract: the place before is one less, and at the
-- start stands the 0.
use Prim.Native.Nat.{ℕ, zero, suc, ◌-◌, ◌<◌, ◌≤◌}
use mathlib.Core.List.{List, ◌∷◌}
use mathlib.Core.Path.{◌≡◌, refl, ap}
use native.Mathlib.Omega.{arith}
use lib.ListN.{get_or}
use Rattle.business_days.proofs.walk.holiday_before.Goals as goal

inside : (t : List ℕ) (i : ℕ) → 0 < i → get_or t (i - 1) 0 ≡ get_or (0 ∷ t) i 0
inside t zero h = absurd (omega arith)
inside t (suc j) h = ap (λ (k : ℕ). get_or t k 0) (omega arith)

start : (t : List ℕ) (i : ℕ) → i ≤ 0 → 0 ≡ get_or (0 ∷ t) i 0
start t zero h = refl
start t (suc j) h = absurd (omega arith)

pub returns-then-i-gt0 : goal.returns-then-i-gt0
returns-then-i-gt0 c = inside c.args.table.now c.args.i c.if-i-gt0.true

pub returns-else-i-gt0 : goal.returns-else-i-gt0
returns-else-i-gt0 c = start c.args.table.now c.args.i c.if-i-gt0.false
