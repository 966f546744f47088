-- `time_period::step_business` meets its contract: the sign says which way, and the magnitude how
-- many business days.
use mathlib.Core.Path.{◌≡◌, sym, ◌∙◌, ap}
use lib.IntN.{nat_abs}
use mir.Facts.{to_z-of_z}
use Rattle.std.specs.Prelude.{List, ℕ}
use Rattle.outcome.specs.Outcome.{Outcome, given, and_then}
use Rattle.outcome.proofs.Refusals.{handed_on}
use Rattle.outcome.proofs.Signs.{below_flag}
use Rattle.calendar.specs.serial.Answers.{date_of}
use Rattle.calendar.specs.declared.dates.Day.{Day}
use Rattle.calendar.proofs.dates.Dates.{date-yes, number-from, number-to}
use Rattle.time_period.specs.steps.Steps.{table, business_step}
use Rattle.time_period.proofs.steps.Signs.{business_back, business_on}
use Rattle.time_period.proofs.steps.step_business.Goals.{After-unsigned_abs-k, then-n-lt0+in_ok-found, else-n-lt0+in_ok-found-2}
use Rattle.time_period.proofs.steps.step_business.Goals as goal

size : (c : After-unsigned_abs-k) → c.unsigned_abs-k.result ≡ nat_abs c.args.n
size c = c.unsigned_abs-k.ensures.value ∙ ap nat_abs (to_z-of_z c.ranges.n)

-- over the holidays of the spot, which are those that are lent
same_holidays : (c : After-unsigned_abs-k) → business_step c.args.n (table c.new-spot.result.holidays.days.now) c.args.t ≡ business_step c.args.n (table c.args.holidays.days.now) c.args.t
same_holidays c = ap (λ (h : List ℕ). business_step c.args.n (table h) c.args.t) c.new-spot.ensures.1

pub new-spot-requires : goal.new-spot-requires
new-spot-requires c = let t = date-yes c.args.t c.requires in rw c.day_of_date.ensures (number-from c.args.t t, number-to c.args.t t)

pub returns-in_err-found : goal.returns-in_err-found
returns-in_err-found c =
    let at = (goal.at.returns-in_err-found c).After-unsigned_abs-k in
    handed_on _ _ date_of c.from_residual.ensures.1 c.in_err-found.ensures
    ∙ business_back _ _ _ _ (c.new-spot.ensures.0 ∙ c.day_of_date.ensures) _ (sym (below_flag c.args.n c.ranges.n) ∙ c.if-n-lt0.true) (size at)
    ∙ same_holidays at

pub returns-in_err-found-2 : goal.returns-in_err-found-2
returns-in_err-found-2 c =
    let at = (goal.at.returns-in_err-found-2 c).After-unsigned_abs-k in
    handed_on _ _ date_of c.from_residual-in_err-found-2.ensures.1 c.in_err-found-2.ensures
    ∙ business_on _ _ _ _ (c.new-spot.ensures.0 ∙ c.day_of_date.ensures) _ (sym (below_flag c.args.n c.ranges.n) ∙ c.if-n-lt0.false) (size at)
    ∙ same_holidays at

pub returns : goal.returns
returns c =
    let at = (goal.at.returns c).After-unsigned_abs-k in
    let found : (o : Outcome Day) (d : Day) → given d ≡ o → c.if-n-lt0.found ≡ d → date_of c.if-n-lt0.found ≡ and_then o date_of = λ o d e i. rw i (ap (λ (x : Outcome Day). and_then x date_of) e) in
    c.date_of.ensures
    ∙ elim c.if-n-lt0.branch [
      | then-n-lt0+in_ok-found w ↦
          found _ _ w.in_ok-found.ensures w.found-is
          ∙ business_back _ _ _ _ (c.new-spot.ensures.0 ∙ c.day_of_date.ensures) _ (sym (below_flag c.args.n c.ranges.n) ∙ w.if-n-lt0.true) (size at)
      | else-n-lt0+in_ok-found-2 w ↦
          found _ _ w.in_ok-found-2.ensures w.found-is
          ∙ business_on _ _ _ _ (c.new-spot.ensures.0 ∙ c.day_of_date.ensures) _ (sym (below_flag c.args.n c.ranges.n) ∙ w.if-n-lt0.false) (size at)
    ]
    ∙ same_holidays at
