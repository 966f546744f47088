-- `Spot::later` meets its contract: the part lent is the table from the first later holiday on, and
-- over it the answer is that over the whole.
use Rattle.std.proofs.Common.{sym, ◌∙◌, ap, ℕ, List, ◌+◌}
use Rattle.outcome.proofs.Lists.{part_from}
use Rattle.business_days.specs.table.Business.{later_from}
use Rattle.business_days.specs.table.Search.{IsLowerBound}
use Rattle.business_days.proofs.walk.Parts.{later_part}
use Rattle.business_days.proofs.walk.Places.{met_on, past-on}
use Rattle.business_days.proofs.walk.Spot.later.Goals as goal
use Rattle.business_days.proofs.walk.Spot.later.Goals.{then-listed, else-listed}

pub returns : goal.returns
returns c =
    let s = c.args.self in
    let t = s.holidays.days.now in
    let after : IsLowerBound t (s.day + 1) c.if-listed.after =
    elim c.if-listed.branch [
      | then-listed w ↦ rw w.after-is (met_on s.placed s.from (sym w.if-listed.true ∙ c.holiday_at.ensures))
      | else-listed w ↦ rw w.after-is (past-on s.placed (λ e. w.if-listed.false (c.holiday_at.ensures ∙ sym e)))
    ] in
    c.walk_on.ensures ∙ ap (λ (u : List ℕ). later_from u c.args.k s.day) (part_from t c.if-listed.after) ∙ later_part t s.day c.if-listed.after after c.args.k
