use Rattle.fixed_income.specs.plain.Plain.{is_day_number, is_later_day}
use Rattle.fixed_income.proofs.records.Later.{Judging}
use Rattle.fixed_income.proofs.plain.count_after.Given as goal

abbrev pub invariant-loop-d : goal.invariant-loop-d
invariant-loop-d l = Judging is_day_number (is_later_day l.day) l.days l.d-index l.count
