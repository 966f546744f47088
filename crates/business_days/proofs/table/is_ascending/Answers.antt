-- `is_ascending` meets its contract: what was good so far, the last day and what is left of the
-- table decide.
use Rattle.std.proofs.Common.{sym, ◌∙◌, arith}
use Rattle.business_days.proofs.table.Judging.{not-later, later, at_end}
use Rattle.business_days.proofs.table.is_ascending.Goals as goal
use Rattle.business_days.proofs.table.is_ascending.Goals.{then-day-last, else-day-last}

pub loop-day-preserved : goal.loop-day-preserved
loop-day-preserved c =
    let l = c.loop-day in
    let t = c.args.table.now in (
      omega arith,
      elim c.if-day-last.branch [
        | then-day-last w ↦ rw w.good-is (not-later t l.good l.last l.day-index l.invariant.1 c.loop-day-test.true w.if-day-last.true)
        | else-day-last w ↦ rw (w.good-is, w.last-is) (later t l.good l.last l.day-index l.invariant.1 c.loop-day-test.true w.if-day-last.false)
      ],
    )

pub returns-then-good : goal.returns-then-good
returns-then-good c =
    let l = c.loop-day in
    sym (at_end c.args.table.now l.good l.last l.day-index l.invariant.1 c.loop-day-test.false ∙ rw c.if-good.true)
