use Rattle.fixed_income.specs.records.After.{has_date, is_later}
use Rattle.fixed_income.proofs.records.Later.{Judging}
use Rattle.fixed_income.proofs.records.count_after.Given as goal

abbrev pub invariant-loop-f : goal.invariant-loop-f
invariant-loop-f l = Judging has_date (is_later l.date) l.flows l.f-index l.count
