-- `accrued_interest::period_holding` meets its contract: each turn leaves the same walk to be made,
-- and leads nearer to the calendar's end.
use mathlib.Core.Path.{◌≡◌, sym, ◌∙◌}
use mathlib.Core.Bool.{true, false}
use Rattle.outcome.specs.Outcome.{given}
use Rattle.outcome.proofs.Refusals.{refused_on}
use Rattle.calendar.specs.dates.Dates.{is_before}
use Rattle.calendar.proofs.dates.Compared.{before_by_less}
use Rattle.accrued_interest.specs.note.Accrued.{running, next_period, goes_on}
use Rattle.accrued_interest.proofs.note.Walk.{next-given, next-refused, next_begun, holding_next, holding_refused, holding_there}
use Rattle.accrued_interest.proofs.note.period_holding.Goals as goal

pub returns-in_err-end : goal.returns-in_err-end
unfolding goes_on
returns-in_err-end c =
    let l = c.loop-p in
    let past : is_before l.p.end c.args.today ≡ true = sym (before_by_less _ _ _ c.lt.ensures) ∙ c.loop-p-test.true in
    let more : is_before l.p.end c.args.note.maturity ≡ true = sym (before_by_less _ _ _ c.lt-in-loop-p.ensures) ∙ c.if-lt.true in
    let going : goes_on c.args.note c.args.today l.p ≡ true = rw past more in
    refused_on _ _ c.from_residual.ensures.1 ∙ holding_refused c.args.note c.args.today c.requires.0 c.requires.1 l.p _ going (next-refused _ l.p _ (sym c.in_err-end.ensures)) ∙ l.invariant.same

pub loop-p-smaller : goal.loop-p-smaller
unfolding goes_on
loop-p-smaller c =
    let l = c.loop-p in
    let past : is_before l.p.end c.args.today ≡ true = sym (before_by_less _ _ _ c.lt.ensures) ∙ c.loop-p-test.true in
    let more : is_before l.p.end c.args.note.maturity ≡ true = sym (before_by_less _ _ _ c.lt-in-loop-p.ensures) ∙ c.if-lt.true in
    let going : goes_on c.args.note c.args.today l.p ≡ true = rw past more in
    let turned : next_period c.args.note l.p ≡ given (running l.p.end c.in_ok-end.end) = next-given _ l.p _ (sym c.in_ok-end.ensures) in
    (next_begun c.args.note c.args.today c.requires.0 c.requires.1 l.p _ l.invariant.begun going turned).1

pub loop-p-preserved : goal.loop-p-preserved
unfolding goes_on
loop-p-preserved c =
    let l = c.loop-p in
    let past : is_before l.p.end c.args.today ≡ true = sym (before_by_less _ _ _ c.lt.ensures) ∙ c.loop-p-test.true in
    let more : is_before l.p.end c.args.note.maturity ≡ true = sym (before_by_less _ _ _ c.lt-in-loop-p.ensures) ∙ c.if-lt.true in
    let going : goes_on c.args.note c.args.today l.p ≡ true = rw past more in
    let turned : next_period c.args.note l.p ≡ given (running l.p.end c.in_ok-end.end) = next-given _ l.p _ (sym c.in_ok-end.ensures) in
    record {
      begun = (next_begun c.args.note c.args.today c.requires.0 c.requires.1 l.p _ l.invariant.begun going turned).0;
      same = holding_next c.args.note c.args.today c.requires.0 c.requires.1 l.p _ l.invariant.begun going turned ∙ l.invariant.same;
    }

pub returns-else-lt : goal.returns-else-lt
unfolding goes_on
returns-else-lt c =
    let l = c.loop-p in
    let past : is_before l.p.end c.args.today ≡ true = sym (before_by_less _ _ _ c.lt.ensures) ∙ c.loop-p-test.true in
    let more : is_before l.p.end c.args.note.maturity ≡ false = sym (before_by_less _ _ _ c.lt-in-loop-p.ensures) ∙ c.if-lt.false in
    let there : goes_on c.args.note c.args.today l.p ≡ false = rw past more in
    holding_there c.args.note c.args.today c.requires.0 c.requires.1 l.p there ∙ l.invariant.same

pub returns-after-loop-p : goal.returns-after-loop-p
unfolding goes_on
returns-after-loop-p c =
    let l = c.loop-p in
    let past : is_before l.p.end c.args.today ≡ false = sym (before_by_less _ _ _ c.lt.ensures) ∙ c.loop-p-test.false in
    let there : goes_on c.args.note c.args.today l.p ≡ false = rw past in
    holding_there c.args.note c.args.today c.requires.0 c.requires.1 l.p there ∙ l.invariant.same
