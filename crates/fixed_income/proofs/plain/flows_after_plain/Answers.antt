-- `fixed_income::flows_after_plain` meets its contract: the first pass answers, and each turn that
-- finds a later flow writes its three parts.
use mathlib.Core.Path.{sym, ap, ◌∙◌}
use lib.ListN.{length}
use Prim.Native.Nat.{min}
use Rattle.outcome.proofs.Refusals.{refused_on}
use Rattle.fixed_income.specs.records.Promises.{is_refused}
use Rattle.fixed_income.proofs.plain.Columns.{answered, all_kept, told, places_at, turn_yes, turn_no, turns_done}
use Rattle.fixed_income.proofs.plain.flows_after_plain.Goals as goal
use Rattle.fixed_income.proofs.plain.flows_after_plain.Goals.{then-day-days, else-day-days}

pub returns-in_err-count : goal.returns-in_err-count
returns-in_err-count c =
    let a = c.args in
    let e = answered a.day a.days.now a.currencies.now a.amounts.now c.min-n.result c.min-places.result (length a.out_days.now) (length a.out_currencies.now) (length a.out_amounts.now) _ (c.min-n.ensures ∙ ap (min (length a.days.now)) c.min.ensures) (c.min-places.ensures ∙ ap (min (length a.out_days.now)) c.min-2.ensures) c.in_err-count.ensures in
    record { answer = refused_on _ _ c.from_residual.ensures.1 ∙ e; contents = all_kept _ a.out_days.now a.out_currencies.now a.out_amounts.now (ap is_refused (sym e)) }

pub bounds-out_days-k : goal.bounds-out_days-k
bounds-out_days-k c =
    let l = c.loop-i in
    (places_at c.args.day c.args.days.now c.args.currencies.now c.args.amounts.now c.args.out_days.now c.args.out_currencies.now c.args.out_amounts.now c.min-n.result c.min-places.result c.in_ok-count.count (c.min-n.ensures ∙ ap (min (length c.args.days.now)) c.min.ensures) (c.min-places.ensures ∙ ap (min (length c.args.out_days.now)) c.min-2.ensures) c.in_ok-count.ensures l.i l.k l.out_days l.out_currencies l.out_amounts l.invariant c.loop-i-test.true c.if-day-days.true).0

pub bounds-out_currencies-k : goal.bounds-out_currencies-k
bounds-out_currencies-k c =
    let l = c.loop-i in
    (places_at c.args.day c.args.days.now c.args.currencies.now c.args.amounts.now c.args.out_days.now c.args.out_currencies.now c.args.out_amounts.now c.min-n.result c.min-places.result c.in_ok-count.count (c.min-n.ensures ∙ ap (min (length c.args.days.now)) c.min.ensures) (c.min-places.ensures ∙ ap (min (length c.args.out_days.now)) c.min-2.ensures) c.in_ok-count.ensures l.i l.k l.out_days l.out_currencies l.out_amounts l.invariant c.loop-i-test.true c.if-day-days.true).1

pub bounds-out_amounts-k : goal.bounds-out_amounts-k
bounds-out_amounts-k c =
    let l = c.loop-i in
    (places_at c.args.day c.args.days.now c.args.currencies.now c.args.amounts.now c.args.out_days.now c.args.out_currencies.now c.args.out_amounts.now c.min-n.result c.min-places.result c.in_ok-count.count (c.min-n.ensures ∙ ap (min (length c.args.days.now)) c.min.ensures) (c.min-places.ensures ∙ ap (min (length c.args.out_days.now)) c.min-2.ensures) c.in_ok-count.ensures l.i l.k l.out_days l.out_currencies l.out_amounts l.invariant c.loop-i-test.true c.if-day-days.true).2

pub loop-i-preserved : goal.loop-i-preserved
loop-i-preserved c =
    let l = c.loop-i in
    elim c.if-day-days.branch [
      | then-day-days w ↦ rw (w.out_days-is, w.out_currencies-is, w.out_amounts-is, w.k-is) (turn_yes c.args.day c.args.days.now c.args.currencies.now c.args.amounts.now c.args.out_days.now c.args.out_currencies.now c.args.out_amounts.now c.min-n.result c.min-places.result c.in_ok-count.count (c.min-n.ensures ∙ ap (min (length c.args.days.now)) c.min.ensures) (c.min-places.ensures ∙ ap (min (length c.args.out_days.now)) c.min-2.ensures) c.in_ok-count.ensures l.i l.k l.out_days l.out_currencies l.out_amounts l.invariant c.loop-i-test.true w.if-day-days.true)
      | else-day-days w ↦ rw (w.out_days-is, w.out_currencies-is, w.out_amounts-is, w.k-is) (turn_no c.args.day c.args.days.now c.args.currencies.now c.args.amounts.now c.args.out_days.now c.args.out_currencies.now c.args.out_amounts.now c.min-n.result c.min-places.result c.in_ok-count.count (c.min-n.ensures ∙ ap (min (length c.args.days.now)) c.min.ensures) (c.min-places.ensures ∙ ap (min (length c.args.out_days.now)) c.min-2.ensures) c.in_ok-count.ensures l.i l.k l.out_days l.out_currencies l.out_amounts l.invariant c.loop-i-test.true w.if-day-days.false)
    ]

pub returns : goal.returns
returns c =
    let l = c.loop-i in
    record { answer = told c.args.day c.args.days.now c.args.currencies.now c.args.amounts.now c.args.out_days.now c.args.out_currencies.now c.args.out_amounts.now c.min-n.result c.min-places.result c.in_ok-count.count (c.min-n.ensures ∙ ap (min (length c.args.days.now)) c.min.ensures) (c.min-places.ensures ∙ ap (min (length c.args.out_days.now)) c.min-2.ensures) c.in_ok-count.ensures; contents = turns_done c.args.day c.args.days.now c.args.currencies.now c.args.amounts.now c.args.out_days.now c.args.out_currencies.now c.args.out_amounts.now c.min-n.result c.min-places.result c.in_ok-count.count (c.min-n.ensures ∙ ap (min (length c.args.days.now)) c.min.ensures) (c.min-places.ensures ∙ ap (min (length c.args.out_days.now)) c.min-2.ensures) c.in_ok-count.ensures l.i l.k l.out_days l.out_currencies l.out_amounts l.invariant c.loop-i-test.false }
