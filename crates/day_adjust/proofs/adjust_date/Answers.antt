-- `adjust_date` meets its contract: the date and the table are judged in the order of the refusals,
-- and then the rule is applied.
use Rattle.std.proofs.Common.{sym, ◌∙◌, ◌≡◌, true}
use Rattle.calendar.proofs.dates.Dates.{date-yes, number-from, number-to}
use Rattle.calendar.specs.dates.Dates.{is_date}
use Rattle.day_adjust.specs.Adjustment.{adjust_date}
use Rattle.day_adjust.proofs.adjust_date.Goals as goal

pub judged-requires : goal.judged-requires
judged-requires c =
    let d = date-yes c.args.t (sym c.is_date.ensures ∙ c.if-not-is_date.false) in
    rw c.day_of_date.ensures (number-from c.args.t d, number-to c.args.t d)

pub returns : goal.returns
unfolding adjust_date
returns c =
    let s = c.in-Some.ensures in
    let dated : is_date c.args.t ≡ true = sym c.is_date.ensures ∙ c.if-not-is_date.false in
    rw (dated, s.0) (rw s.2 at c.adjusted.ensures)
