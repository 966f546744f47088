use mathlib.Core.Path.{◌≡◌}
use Rattle.accrued_interest.specs.period.PeriodInterest.{Begun}
use Rattle.accrued_interest.specs.note.Accrued.{period_holding}
use Rattle.accrued_interest.proofs.note.Walk.{ahead}
use Rattle.accrued_interest.proofs.note.period_holding.Given as goal

abbrev pub invariant-loop-p : goal.invariant-loop-p
invariant-loop-p l = record {
  begun : Begun l.today l.p;
  same : period_holding l.note l.today l.p ≡ period_holding l.note l.today l.initial.p;
}

abbrev pub decreases-loop-p : goal.decreases-loop-p
decreases-loop-p l = ahead l.p
