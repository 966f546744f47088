-- `day_count_conv::regular` meets its contract: 5, then 14.
use Rattle.std.proofs.Common.{rules}
use mathlib.Core.Path.{◌≡◌, subst}
use mathlib.Core.Bool.{true, false}
use lib.IntN.{ℤ, pos}
use lib.Signed.{lt_z, le_z}
use mir.Syntax.{w32}
use mir.Val.{SFits}
use mir.Facts.{to_z-of_z}
use Rattle.outcome.specs.Outcome.{given, unless}
use Rattle.outcome.proofs.Numbers.{at_most, not_at_most}
use Rattle.outcome.proofs.Refusals.{handed_on}
use Rattle.day_count_conv.specs.conventions.Whole.{regular}
use Rattle.day_count_conv.proofs.conventions.regular.Goals as goal

pub returns-in_err-f : goal.returns-in_err-f
unfolding regular
returns-in_err-f c = handed_on _ _ (λ f. unless (le_z (pos 1) c.args.p.num) 14 (given f)) c.from_residual.ensures.1 c.in_err-f.ensures

pub returns-then-p-lt1 : goal.returns-then-p-lt1
unfolding regular
returns-then-p-lt1 c =
    let fits : SFits w32 c.args.p.num = search rules in
    rw (← c.in_ok-f.ensures, not_at_most c.args.p.num (pos 1) (subst (λ (z : ℤ). lt_z z (pos 1) ≡ true) (to_z-of_z fits) c.if-p-lt1.true))

pub returns : goal.returns
unfolding regular
returns c =
    let fits : SFits w32 c.args.p.num = search rules in
    rw (← c.in_ok-f.ensures, at_most c.args.p.num (pos 1) (subst (λ (z : ℤ). lt_z z (pos 1) ≡ false) (to_z-of_z fits) c.if-p-lt1.false))
