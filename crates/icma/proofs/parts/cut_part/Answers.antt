-- `icma::cut_part` meets its contract: nothing where the walk ends at the date itself, else the cut
-- days over the period's length.
use Rattle.std.proofs.Common.{rules}
use mathlib.Core.Path.{◌≡◌, sym, ◌∙◌, ap}
use mathlib.Core.Bool.{true, false, not}
use native.Mathlib.Omega.{arith}
use denote.Param.{number}
use borrow.Author.Tests.{eq-eqb, ne_eqb}
use Rattle.outcome.proofs.Refusals.{refused_on}
use Rattle.icma.specs.contracts.parts.cut_part.{WAY-type}
use Rattle.icma.proofs.parts.Steps.{gap_kept}
use Rattle.icma.proofs.parts.Cut.{cut_none, cut_stops, later, cut_on, earlier, cut_back}
use Rattle.icma.proofs.parts.cut_part.Goals as goal

pub returns-then-not-is_past : goal.returns-then-not-is_past
returns-then-not-is_past g c = cut_none c.args.p c.args.edge c.args.t _ (sym c.is_past.ensures ∙ c.if-not-is_past.true)

pub returns-in_err-u : goal.returns-in_err-u
returns-in_err-u g c = refused_on _ _ c.from_residual.ensures.1 ∙ cut_stops c.args.p c.args.edge c.args.t _ _ (sym c.is_past.ensures ∙ c.if-not-is_past.false) c.in_err-u.ensures

pub gap-days-requires : goal.gap-days-requires
gap-days-requires g c =
    let on : WAY-type (number g.row.WAY) ≡ true = ap not (ne_eqb _ 0 c.if-this-ne0.true) in
    ((later c.args.p c.args.edge c.args.t c.in_ok-u.u c.in_ok-u.ensures _ on c.requires.1 c.requires.2).0, c.requires.0)

pub length-requires : goal.length-requires
length-requires g c =
    let on : WAY-type (number g.row.WAY) ≡ true = ap not (ne_eqb _ 0 c.if-this-ne0.true) in
    let k = later c.args.p c.args.edge c.args.t c.in_ok-u.u c.in_ok-u.ensures _ on c.requires.1 c.requires.2 in
    (c.requires.1, k.0, omega (arith, k.1))

pub returns-then-this-ne0 : goal.returns-then-this-ne0
returns-then-this-ne0 g c =
    let on : WAY-type (number g.row.WAY) ≡ true = ap not (ne_eqb _ 0 c.if-this-ne0.true) in
    let u = c.in_ok-u.u in
    let k = later c.args.p c.args.edge c.args.t u c.in_ok-u.ensures _ on c.requires.1 c.requires.2 in
    cut_on c.args.p c.args.edge c.args.t u c.in_ok-u.ensures _ _ _ on (sym c.is_past.ensures ∙ c.if-not-is_past.false) (gap_kept u c.args.edge c.gap-days.result k.0 c.requires.0 c.gap-days.ensures) c.length.ensures

pub gap-days-requires-2 : goal.gap-days-requires-2
gap-days-requires-2 g c =
    let back : WAY-type (number g.row.WAY) ≡ false = ap not (eq-eqb _ 0 c.if-this-ne0.false) in
    (search rules, (earlier c.args.p c.args.edge c.args.t c.in_ok-u.u c.in_ok-u.ensures _ back c.requires.1 c.requires.2).0)

pub length-requires-2 : goal.length-requires-2
length-requires-2 g c =
    let back : WAY-type (number g.row.WAY) ≡ false = ap not (eq-eqb _ 0 c.if-this-ne0.false) in
    let k = earlier c.args.p c.args.edge c.args.t c.in_ok-u.u c.in_ok-u.ensures _ back c.requires.1 c.requires.2 in
    (k.0, c.requires.1, omega (arith, k.1))

pub returns : goal.returns
returns g c =
    let back : WAY-type (number g.row.WAY) ≡ false = ap not (eq-eqb _ 0 c.if-this-ne0.false) in
    let u = c.in_ok-u.u in
    let k = earlier c.args.p c.args.edge c.args.t u c.in_ok-u.ensures _ back c.requires.1 c.requires.2 in
    cut_back c.args.p c.args.edge c.args.t u c.in_ok-u.ensures _ _ _ back (sym c.is_past.ensures ∙ c.if-not-is_past.false) (gap_kept c.args.edge u c.gap-days-2.result c.requires.0 k.0 c.gap-days-2.ensures) c.length-2.ensures
