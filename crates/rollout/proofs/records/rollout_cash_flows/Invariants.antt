use lib.ListN.{drop}
use Rattle.outcome.proofs.Filling.{Filled}
use Rattle.rollout.proofs.records.Rolled.{to_write}
use Rattle.rollout.proofs.records.rollout_cash_flows.Given as goal

abbrev pub invariant-loop-k : goal.invariant-loop-k
invariant-loop-k l = let all = to_write l.note l.position l.table in Filled all l.initial.room l.k (drop l.k all) l.room
