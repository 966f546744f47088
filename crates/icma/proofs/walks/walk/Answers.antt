-- `icma::walk` meets its contract: each turn leaves the same walk to be made, and leads nearer to
-- the calendar's end.
use mathlib.Core.Path.{refl, sym, ◌∙◌}
use native.Mathlib.Omega.{arith}
use denote.Param.{number}
use Rattle.outcome.proofs.Refusals.{refused_on}
use Rattle.outcome.proofs.Walks.{walk_refused, walk-done}
use Rattle.icma.specs.walks.Ways.{is_past, turned}
use Rattle.icma.specs.contracts.walks.walk.{WAY-type}
use Rattle.icma.proofs.walks.Walking.{turned_leads, near, walk_on_turn}
use Rattle.icma.proofs.walks.walk.Goals as goal

pub loop-p-init : goal.loop-p-init
loop-p-init g c = (c.requires.0, omega arith, refl)

pub turn-requires : goal.turn-requires
turn-requires g c =
    let l = c.loop-p in
    (l.invariant.0, omega (arith, l.invariant.1, c.requires.1, near (WAY-type (number g.row.WAY)) l.w.at l.invariant.0))

pub loop-p-smaller : goal.loop-p-smaller
loop-p-smaller g c = (turned_leads _ c.args.p c.args.limit c.requires.2 c.loop-p.w c.in_ok-w.w c.loop-p.invariant.0 (sym c.in_ok-w.ensures)).nearer

pub loop-p-preserved : goal.loop-p-preserved
loop-p-preserved g c =
    let l = c.loop-p in
    let way = WAY-type (number g.row.WAY) in
    let leads = turned_leads way c.args.p c.args.limit c.requires.2 in
    let t = leads l.w c.in_ok-w.w l.invariant.0 (sym c.in_ok-w.ensures) in (
      t.dated,
      omega (arith, t.nearer, t.counted, l.invariant.1),
      walk_on_turn (λ u. is_past way c.args.limit u) (turned way c.args.p c.args.limit) _ leads 3652060 l.w c.in_ok-w.w l.invariant.0 (near way l.w.at l.invariant.0) (sym c.is_past.ensures ∙ c.loop-p-test.true) (sym c.in_ok-w.ensures)
          ∙ l.invariant.2,
    )

pub returns-in_err-w : goal.returns-in_err-w
returns-in_err-w g c =
    let l = c.loop-p in
    refused_on _ _ c.from_residual.ensures.1
    ∙ walk_refused _ _ 3652060 _ l.w (omega arith) (sym c.is_past.ensures ∙ c.loop-p-test.true) (sym c.in_err-w.ensures)
    ∙ l.invariant.2

pub returns : goal.returns
returns g c =
    let l = c.loop-p in
    walk-done _ _ 3652060 l.w (omega arith) (sym c.is_past.ensures ∙ c.loop-p-test.false) ∙ l.invariant.2
