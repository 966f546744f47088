-- `note_listing::lines_length` meets its contract: what is left decides.
use mathlib.Core.Path.{sym, ap, ◌∙◌}
use mathlib.Core.List.{List, [], ◌∷◌}
use native.Mathlib.Omega.{arith}
use lib.ListN.{length-append}
use borrow.Author.Rules.{rules}
use Rattle.std.proofs.lemmas.Slice.Zip.{zip_turn, zip_end}
use Rattle.outcome.proofs.Refusals.{refused_on}
use Rattle.outcome.proofs.Tallies.{tally, tally_none, tally_end}
use Rattle.cash_flow.specs.declared.flow.CashFlow.{CashFlow}
use Rattle.note_listing.specs.lines.Lines.{lines_of}
use Rattle.note_listing.specs.lines.Inner.{flows_shown}
use Rattle.note_listing.proofs.lines.Lines.{pairs-next, pairs-none, lines_none, tally_line, tally_refused}
use Rattle.note_listing.proofs.lines.lines_length.Goals as goal

pub returns-in_err-total-clause-takes : goal.returns-in_err-total-clause-takes
returns-in_err-total-clause-takes c =
    let l = c.loop-day in
    let a = c.args in
    let turn = zip_turn a.days.now a.amounts.now l.yielded c.into_iter-day-iterator.result l.day-iterator c.next.new.self c.next.result (search rules) (search rules) l.yielded_by (c.in-Some.day, c.in-Some.amount) c.in-Some.is c.next.ensures.steps in
    let next = pairs-next a.currency a.days.now a.amounts.now l.yielded (c.in-Some.day, c.in-Some.amount) turn in
    rw (refused_on _ _ c.from_residual.ensures.1)
    (tally_refused l.total _ _ _ _ (sym (ap (λ (fs : List CashFlow). tally l.total (lines_of fs)) next) ∙ l.invariant.1) (rw c.flow_on.ensures at c.in_err-total.ensures.takes) ∙ tally_none (lines_of (flows_shown a.currency a.days.now a.amounts.now)))

pub loop-day-preserved : goal.loop-day-preserved
loop-day-preserved c =
    let l = c.loop-day in
    let a = c.args in
    let turn = zip_turn a.days.now a.amounts.now l.yielded c.into_iter-day-iterator.result l.day-iterator c.next.new.self c.next.result (search rules) (search rules) l.yielded_by (c.in-Some.day, c.in-Some.amount) c.in-Some.is c.next.ensures.steps in
    let next = pairs-next a.currency a.days.now a.amounts.now l.yielded (c.in-Some.day, c.in-Some.amount) turn in
    (omega (arith, l.invariant.0, c.in_ok-total.ensures.short, length-append l.yielded ((c.in-Some.day, c.in-Some.amount) ∷ [])), tally_line l.total _ _ _ _ (sym (ap (λ (fs : List CashFlow). tally l.total (lines_of fs)) next) ∙ l.invariant.1) (rw c.flow_on.ensures at c.in_ok-total.ensures.takes))

pub returns-clause-takes : goal.returns-clause-takes
returns-clause-takes c =
    let l = c.loop-day in
    let a = c.args in
    let none = pairs-none a.currency a.days.now a.amounts.now _ (zip_end a.days.now a.amounts.now l.yielded c.into_iter-day-iterator.result l.day-iterator c.next.new.self c.next.result (search rules) (search rules) l.yielded_by c.in-None.is c.next.ensures.steps) in
    sym (tally_end l.total (lines_of []) lines_none) ∙ sym (ap (λ (fs : List CashFlow). tally l.total (lines_of fs)) none) ∙ l.invariant.1 ∙ tally_none (lines_of (flows_shown a.currency a.days.now a.amounts.now))
