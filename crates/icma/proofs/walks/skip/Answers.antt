-- `icma::skip` meets its contract: the period's months are at least one, and the month reached lies
-- between the two.
use Rattle.std.proofs.Common.{rules}
use Prim.Native.Nat.{ℕ, ◌-◌}
use mathlib.Core.Path.{sym, ◌∙◌, ap}
use native.Mathlib.Omega.{arith}
use native.Mathlib.Nat.{div-mul-le_self}
use lib.Dec.{leb}
use lib.IntN.{nat_abs}
use mir.Facts.{to_z-of_z}
use mir.Syntax.{w32}
use mir.Val.{SFits}
use borrow.Author.Tests.{leb-true}
use Rattle.outcome.proofs.Outcomes.{both_true}
use Rattle.calendar.specs.dates.Dates.{month_date}
use Rattle.calendar.proofs.dates.Dates.{date-yes}
use Rattle.calendar.proofs.dates.Order.{index_to}
use Rattle.icma.specs.walks.Skips.{is_months, leap}
use Rattle.icma.proofs.walks.Skips.{leap_none, leap_some}
use Rattle.icma.proofs.walks.skip.Goals as goal

pub returns-then-not-is_uncut : goal.returns-then-not-is_uncut
unfolding leap
returns-then-not-is_uncut g c = rw (sym c.is_uncut.ensures ∙ c.if-not-is_uncut.true)

pub returns-then-gap-eq0 : goal.returns-then-gap-eq0
returns-then-gap-eq0 g c = leap_none _ c.args.p c.args.limit c.args.from _ _ _ c.month_index-here.ensures c.month_index-there.ensures c.gap-gap.ensures (sym c.is_uncut.ensures ∙ c.if-not-is_uncut.false) c.if-gap-eq0.true

pub moved-index-requires : goal.moved-index-requires
moved-index-requires g c = (
  omega (arith, div-mul-le_self (c.gap-gap.result - 1) c.magnitude-months.result, c.gap-gap.ensures),
  omega (arith, c.month_index-here.ensures, index_to c.args.from (date-yes c.args.from c.requires.0)),
  omega (arith, c.month_index-there.ensures, index_to c.args.limit (date-yes c.args.limit c.requires.1)),
)

pub uncut_date-requires : goal.uncut_date-requires
uncut_date-requires g c =
    let t = c.args.from in
    (c.moved-index.ensures.1, (date-yes t c.requires.0).day-from, leb-true t.day 28 (both_true (is_months c.args.p.unit) (leb t.day 28) (sym c.is_uncut.ensures ∙ c.if-not-is_uncut.false)).1)

pub returns : goal.returns
returns g c =
    let fits : SFits w32 c.args.p.num = search rules in
    leap_some _ c.args.p c.args.limit c.args.from _ _ _ c.month_index-here.ensures c.month_index-there.ensures c.gap-gap.ensures (sym c.is_uncut.ensures ∙ c.if-not-is_uncut.false) c.if-gap-eq0.false _
    (c.magnitude-months.ensures ∙ ap nat_abs (to_z-of_z fits)) _ (c.uncut_date.ensures ∙ ap (λ (i : ℕ). month_date i c.args.from.day) c.moved-index.ensures.0)
