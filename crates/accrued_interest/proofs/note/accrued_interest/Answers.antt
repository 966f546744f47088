-- `accrued_interest::accrued_interest` meets its contract: the note's checks, and then what is
-- accrued.
use mathlib.Core.Path.{sym, ◌∙◌, ap}
use mathlib.Core.Bool.{true}
use lib.Dec.{T}
use lib.Ieee.{binary64, fits}
use borrow.Author.Rules.{rules}
use Rattle.outcome.specs.Outcome.{Outcome, and_then}
use Rattle.outcome.proofs.Refusals.{handed_on}
use Rattle.bond.specs.declared.note.Note.{Note}
use Rattle.bond.proofs.note.Ends.{passed}
use Rattle.accrued_interest.specs.note.Accrued.{accrued_on, accrued, amounts_in_f64}
use Rattle.accrued_interest.proofs.note.Bound.{promised}
use Rattle.accrued_interest.proofs.note.accrued_interest.Goals as goal

pub returns-in_err-checked : goal.returns-in_err-checked
unfolding accrued
returns-in_err-checked c =
    let rate-fits : T (fits binary64 c.args.note.rate) = search rules in
    promised c.args.note c.args.today c.from_residual.result rate-fits
    (handed_on _ _ (λ m. accrued_on amounts_in_f64 m c.args.today) c.from_residual.ensures.1 c.in_err-checked.ensures)

pub accrued_on-requires : goal.accrued_on-requires
accrued_on-requires c =
    let a = passed true true _ _ (sym c.in_ok-checked.ensures) in
    rw (← a.itself) (a.note.period, a.note.issued)

pub returns : goal.returns
unfolding accrued
returns c =
    let rate-fits : T (fits binary64 c.args.note.rate) = search rules in
    promised c.args.note c.args.today c.accrued_on.result rate-fits
    (c.accrued_on.ensures ∙ ap (λ (o : Outcome Note). and_then o (λ m. accrued_on amounts_in_f64 m c.args.today)) c.in_ok-checked.ensures)
