use Rattle.fixed_income.specs.plain.Plain.{plain_flows}
use Rattle.fixed_income.proofs.plain.Columns.{Writing}
use Rattle.fixed_income.proofs.plain.flows_after_plain.Given as goal

abbrev pub invariant-loop-i : goal.invariant-loop-i
invariant-loop-i l = Writing l.day (plain_flows l.days l.currencies l.amounts) l.initial.out_days l.initial.out_currencies l.initial.out_amounts l.i l.k l.out_days l.out_currencies l.out_amounts
