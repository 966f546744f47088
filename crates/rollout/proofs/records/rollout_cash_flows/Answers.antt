-- `rollout::rollout_cash_flows` meets its contract: what was kept of each flow makes it again.
use mathlib.Core.Path.{sym, ◌∙◌, ap}
use borrow.Author.Rules.{rules}
use Rattle.outcome.specs.Room.{counted}
use Rattle.rollout.proofs.records.Rolled.{kept-dated, rolling_more}
use Rattle.rollout.proofs.records.rollout_cash_flows.Goals as goal

pub kept_flow-requires : goal.kept_flow-requires
kept_flow-requires c =
    let are = c.in_ok-flows.ensures in
    kept-dated c.args.note c.args.position c.args.table.now c.in_ok-n.n
    (sym (c.in_ok-n.ensures.outcome ∙ ap counted are))
    _ _ _ _ (rw are at c.collect.ensures.days_kept) (rw are at c.collect.ensures.amounts_kept) (search rules) (search rules) c.loop-k.k c.loop-k-test.true

pub loop-k-preserved : goal.loop-k-preserved
loop-k-preserved c =
    let are = c.in_ok-flows.ensures in
    rolling_more c.args.note c.args.position c.args.table.now c.in_ok-n.n
    (sym (c.in_ok-n.ensures.outcome ∙ ap counted are))
    _ _ _ _ (rw are at c.collect.ensures.days_kept) (rw are at c.collect.ensures.amounts_kept) (search rules) (search rules) c.loop-k.k c.loop-k-test.true
    _ _ _ c.kept_flow.ensures (search rules) c.loop-k.invariant
