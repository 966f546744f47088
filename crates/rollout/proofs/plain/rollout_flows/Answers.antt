-- `rollout::rollout_flows` meets its contract where the flows are kept and copied.
use Prim.Native.Nat.{ℕ}
use mathlib.Core.Path.{refl, sym, ◌∙◌, ap}
use mathlib.Core.List.{List, ◌++◌}
use lib.ListN.{drop}
use lib.Ieee.{Float}
use borrow.Author.Rules.{rules}
use Rattle.outcome.specs.Room.{counted}
use Rattle.rollout.proofs.plain.Passes.{filled_by_copy}
use Rattle.rollout.proofs.plain.rollout_flows.Goals as goal

pub returns : goal.returns
returns c =
    let n : ℕ = c.in_ok-n.n in
    let are = c.in_ok-flows.ensures in
    filled_by_copy c.args.note c.args.position c.args.table.now c.args.days.now c.args.amounts.now _ n
    (sym (c.in_ok-n.ensures.outcome ∙ ap counted are))
    _ _ refl c.if-days-n.false c.if-amounts-n.false _ _ _ _ (search rules) (search rules)
    (rw are at c.collect.ensures.days_kept)
    (rw are at c.collect.ensures.amounts_kept)
    (ap (λ (l : List ℕ). l ++ drop n c.args.days.now) c.copy_from_slice.ensures.after)
    (ap (λ (l : List Float). l ++ drop n c.args.amounts.now) c.copy_from_slice-2.ensures.after)
