-- `accrued_interest::accrued_on` meets its contract: 1 for today, the 0 before issue, then the walk
-- from the first period, and what is accrued in the period where it stops.
use mathlib.Core.Path.{◌≡◌, sym, ◌∙◌, ap}
use mathlib.Core.Bool.{true, false}
use Rattle.outcome.specs.Outcome.{Outcome, and_then}
use Rattle.outcome.proofs.Refusals.{handed_on}
use Rattle.calendar.specs.dates.Dates.{is_date, is_before}
use Rattle.calendar.specs.declared.dates.Date.{Date}
use Rattle.calendar.proofs.dates.Compared.{before_by_less}
use Rattle.accrued_interest.specs.note.Accrued.{running, accrued_in, accrued_from, accrued_on, amounts_in_f64}
use Rattle.accrued_interest.specs.declared.period.CouponPeriod.{CouponPeriod}
use Rattle.accrued_interest.proofs.note.Walk.{first_begun, holding_stops}
use Rattle.accrued_interest.proofs.note.accrued_on.Goals as goal

pub returns-then-lt : goal.returns-then-lt
unfolding accrued_on
returns-then-lt c =
    let dated : is_date c.args.today ≡ true = sym c.is_date.ensures ∙ c.if-not-is_date.false in
    let before : is_before c.args.today c.args.note.issue_date ≡ true = sym (before_by_less _ _ _ c.lt.ensures) ∙ c.if-lt.true in
    rw (dated, before)

pub returns-in_err-end : goal.returns-in_err-end
unfolding accrued_on
returns-in_err-end c =
    let n = c.args.note in
    let dated : is_date c.args.today ≡ true = sym c.is_date.ensures ∙ c.if-not-is_date.false in
    let issued : is_before c.args.today n.issue_date ≡ false = sym (before_by_less _ _ _ c.lt.ensures) ∙ c.if-lt.false in
    rw (dated, issued) (handed_on _ _ (λ end. accrued_from amounts_in_f64 n c.args.today (running n.issue_date end)) c.from_residual.ensures.1 c.in_err-end.ensures)

pub period_holding-requires : goal.period_holding-requires
period_holding-requires c =
    let n = c.args.note in
    let dated : is_date c.args.today ≡ true = sym c.is_date.ensures ∙ c.if-not-is_date.false in
    let issued : is_before c.args.today n.issue_date ≡ false = sym (before_by_less _ _ _ c.lt.ensures) ∙ c.if-lt.false in
    (c.requires.0, dated, first_begun n c.args.today _ c.requires.1 dated issued (sym c.in_ok-end.ensures))

pub returns-in_err-p : goal.returns-in_err-p
unfolding accrued_on accrued_from
returns-in_err-p c =
    let n = c.args.note in
    let dated : is_date c.args.today ≡ true = sym c.is_date.ensures ∙ c.if-not-is_date.false in
    let issued : is_before c.args.today n.issue_date ≡ false = sym (before_by_less _ _ _ c.lt.ensures) ∙ c.if-lt.false in
    rw (dated, issued)
    (handed_on _ _ (accrued_in amounts_in_f64 n c.args.today) c.from_residual-in_err-p.ensures.1 c.in_err-p.ensures
    ∙ ap (λ (o : Outcome Date). and_then o (λ end. accrued_from amounts_in_f64 n c.args.today (running n.issue_date end))) c.in_ok-end.ensures)

pub accrued_in-requires : goal.accrued_in-requires
accrued_in-requires c =
    let n = c.args.note in
    let dated : is_date c.args.today ≡ true = sym c.is_date.ensures ∙ c.if-not-is_date.false in
    let issued : is_before c.args.today n.issue_date ≡ false = sym (before_by_less _ _ _ c.lt.ensures) ∙ c.if-lt.false in
    let begun = first_begun n c.args.today _ c.requires.1 dated issued (sym c.in_ok-end.ensures) in
    (dated, (holding_stops n c.args.today c.requires.0 dated _ _ begun (sym c.in_ok-p.ensures)).0)

pub returns : goal.returns
unfolding accrued_on accrued_from
returns c =
    let n = c.args.note in
    let dated : is_date c.args.today ≡ true = sym c.is_date.ensures ∙ c.if-not-is_date.false in
    let issued : is_before c.args.today n.issue_date ≡ false = sym (before_by_less _ _ _ c.lt.ensures) ∙ c.if-lt.false in
    rw (dated, issued)
    (c.accrued_in.ensures
    ∙ ap (λ (o : Outcome CouponPeriod). and_then o (accrued_in amounts_in_f64 n c.args.today)) c.in_ok-p.ensures
    ∙ ap (λ (o : Outcome Date). and_then o (λ end. accrued_from amounts_in_f64 n c.args.today (running n.issue_date end))) c.in_ok-end.ensures)
