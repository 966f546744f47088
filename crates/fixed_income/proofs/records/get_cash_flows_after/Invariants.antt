use Rattle.outcome.proofs.Lists.{Passed}
use Rattle.fixed_income.specs.records.After.{is_later}
use Rattle.fixed_income.proofs.records.Later.{Column}
use Rattle.fixed_income.proofs.records.get_cash_flows_after.Given as goal

abbrev pub invariant-loop-flow : goal.invariant-loop-flow
invariant-loop-flow l = record {
  passed : Passed (is_later l.date) l.flows l.flow-index l.k;
  column : Column (λ f. f) (is_later l.date) l.flows l.initial.room l.flow-index l.k l.room;
}
