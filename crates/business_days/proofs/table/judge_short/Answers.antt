-- `judge_short` meets its contract: that nothing was wrong so far, the last day and what is left of
-- the table decide, and what is counted so far and what is left are all the days before.
use Rattle.std.proofs.Common.{sym, ◌∙◌, subst, eqb, get_or, ◌+◌, ◌≡◌, true, arith, lt-ltb, le-ltb}
use borrow.Author.Tests.{eq-eqb, ne_eqb}
use Rattle.outcome.proofs.Lists.{head_at, passed_yes, passed_no, passed_all}
use Rattle.business_days.specs.table.Table.{ascending}
use Rattle.business_days.specs.table.Search.{IsLowerBound}
use Rattle.business_days.proofs.table.Table.{table_is}
use Rattle.business_days.proofs.table.Judging.{not-later, later, at_end, past_the_end, within_the_end}
use Rattle.business_days.proofs.table.Counted.{is_below, counted-place}
use Rattle.business_days.proofs.table.judge_short.Goals as goal
use Rattle.business_days.proofs.table.judge_short.Goals.{then-at-n, else-at-n, then-at-last, else-at-last}
use Rattle.business_days.proofs.table.judge_short.Goals.{then-wrong-gt0-via-then-wrong-gt0, then-wrong-gt0-via-else-wrong-gt0+then-last-gt-LAST_DAY}

pub loop-at-preserved : goal.loop-at-preserved
loop-at-preserved c =
    let l = c.loop-at in
    let t = c.args.table.now in
    let here = c.loop-at-test.true in (
      elim c.if-at-n.branch [
        | then-at-n w ↦ rw w.before-is (passed_yes (is_below c.args.n) t l.at-index l.before _ here (head_at t l.at-index 0 here) l.invariant.0 (lt-ltb _ _ w.if-at-n.true))
        | else-at-n w ↦ rw w.before-is (passed_no (is_below c.args.n) t l.at-index l.before _ here (head_at t l.at-index 0 here) l.invariant.0 (le-ltb _ _ w.if-at-n.false))
      ],
      elim c.if-at-last.branch [ then-at-last w ↦ omega arith | else-at-last w ↦ omega arith ],
      rw last_is
          (elim c.if-at-last.branch [
            | then-at-last w ↦ rw (w.wrong-is, ne_eqb (l.wrong + 1) 0 (λ e. omega arith)) (not-later t (eqb l.wrong 0) l.last l.at-index l.invariant.2 here w.if-at-last.true)
            | else-at-last w ↦ rw w.wrong-is (later t (eqb l.wrong 0) l.last l.at-index l.invariant.2 here w.if-at-last.false)
          ]),
    )
  where
    last_is : c.if-at-n.last ≡ get_or c.args.table.now c.loop-at.at-index 0
    last_is = elim c.if-at-n.branch [ then-at-n w ↦ w.last-is | else-at-n w ↦ w.last-is ]

pub returns-then-wrong-gt0 : goal.returns-then-wrong-gt0
returns-then-wrong-gt0 c =
    let l = c.loop-at in
    let t = c.args.table.now in
    table_is t (omega arith)
    ∙ elim c.then-wrong-gt0.branch [
      | then-wrong-gt0-via-then-wrong-gt0 w ↦ at_end t (eqb l.wrong 0) l.last l.at-index l.invariant.2 c.loop-at-test.false ∙ rw (ne_eqb l.wrong 0 (λ e. omega arith))
      | then-wrong-gt0-via-else-wrong-gt0+then-last-gt-LAST_DAY w ↦ sym (past_the_end t (eqb l.wrong 0) l.last l.at-index l.invariant.2 c.loop-at-test.false w.if-last-gt-LAST_DAY.true)
    ]

pub returns : goal.returns
returns c =
    let l = c.loop-at in
    let t = c.args.table.now in
    let ascends : ascending t ≡ true = sym (within_the_end t (eqb l.wrong 0) l.last l.at-index l.invariant.2 c.loop-at-test.false c.if-last-gt-LAST_DAY.false) ∙ eq-eqb l.wrong 0 (omega arith) in
    (table_is t (omega arith) ∙ ascends, subst (IsLowerBound t c.args.n) (sym (passed_all (is_below c.args.n) t l.at-index l.before c.loop-at-test.false l.invariant.0)) (counted-place t c.args.n ascends))
