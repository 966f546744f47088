-- `icma::turn` meets its contract: the step, and whether the date it reached counts.
use mathlib.Core.Path.{sym, ◌∙◌}
use Rattle.outcome.proofs.Refusals.{refused_on}
use Rattle.icma.proofs.walks.Ways.{turned_to, turned_stops}
use Rattle.icma.proofs.walks.turn.Goals as goal

pub returns-in_err-at : goal.returns-in_err-at
returns-in_err-at g c = refused_on _ _ c.from_residual.ensures.1 ∙ turned_stops c.args.p c.args.limit c.args.w _ _ c.in_err-at.ensures

pub returns-then-is_past : goal.returns-then-is_past
returns-then-is_past g c = turned_to c.args.p c.args.limit c.args.w _ _ _ c.in_ok-at.ensures (sym c.is_past.ensures ∙ c.if-is_past.true)

pub returns : goal.returns
returns g c = turned_to c.args.p c.args.limit c.args.w _ _ _ c.in_ok-at.ensures (sym c.is_past.ensures ∙ c.if-is_past.false)
