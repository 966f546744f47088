-- `note_listing::measured` meets its contract: the rollout is refused, or its lines; or all are
-- measured.
use mathlib.Core.Path.{sym, ◌∙◌}
use Rattle.outcome.proofs.Refusals.{refused_on}
use Rattle.outcome.proofs.Outcomes.{passed_refused}
use Rattle.day_fraction.proofs.Written.{lit1}
use Rattle.note_listing.proofs.note.Notes.{rolled, unrolled}
use Rattle.note_listing.proofs.note.measured.Goals as goal

pub returns-in_err-flows : goal.returns-in_err-flows
returns-in_err-flows c = rw (refused_on _ _ c.from_residual.ensures.1) (unrolled _ _ _ _ _ _ c.requires.0 c.requires.1 _ (rw lit1 at c.in_err-flows.ensures))

pub returns-in_err-bytes : goal.returns-in_err-bytes
returns-in_err-bytes c =
    let f = rolled _ _ _ _ _ _ c.requires.0 c.requires.1 _ (rw lit1 at c.in_ok-flows.ensures) in
    rw (refused_on _ _ c.from_residual-in_err-bytes.ensures.1) (f.lines ∙ passed_refused _ _ _ (sym c.in_err-bytes.ensures.takes))

pub returns : goal.returns
returns c =
    let f = rolled _ _ _ _ _ _ c.requires.0 c.requires.1 _ (rw lit1 at c.in_ok-flows.ensures) in
    record { days-long = f.days_long; amounts_long = f.amounts_long; lines = f.lines; bytes = c.in_ok-bytes.ensures.takes; short = c.in_ok-bytes.ensures.short }
