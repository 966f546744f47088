-- `icma::walk_far` meets its contract: the leap is on the way.
use mathlib.Core.Path.{sym, ◌∙◌, subst}
use native.Mathlib.Omega.{arith}
use denote.Param.{number}
use Rattle.icma.specs.walks.Ways.{is_past, left, turned}
use Rattle.icma.specs.contracts.walks.walk_far.{WAY-type}
use Rattle.icma.proofs.walks.Walking.{near, walk_from_is}
use Rattle.icma.proofs.walks.Skips.{OnTheWay, on_the_way}
use Rattle.icma.proofs.walks.walk_far.Goals as goal

pub walk-requires : goal.walk-requires
walk-requires g c =
    let way = WAY-type (number g.row.WAY) in
    let o : OnTheWay (λ u. is_past way c.args.limit u) (turned way c.args.p c.args.limit) (left way) c.args.t c.skip.result =
    subst (OnTheWay _ _ _ c.args.t) (sym c.skip.ensures) (on_the_way c.args.p c.args.limit c.args.t c.requires.0 c.requires.1 way c.requires.2) in
    (o.dated, omega (arith, o.counted, near way c.args.t c.requires.0), c.requires.2)

pub returns : goal.returns
returns g c =
    let way = WAY-type (number g.row.WAY) in
    let o : OnTheWay (λ u. is_past way c.args.limit u) (turned way c.args.p c.args.limit) (left way) c.args.t c.skip.result =
    subst (OnTheWay _ _ _ c.args.t) (sym c.skip.ensures) (on_the_way c.args.p c.args.limit c.args.t c.requires.0 c.requires.1 way c.requires.2) in
    c.walk.ensures ∙ o.same ∙ walk_from_is way c.args.p c.args.limit c.args.t
