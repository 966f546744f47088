-- `DateSpot::adjusted` meets its contract: a business day stays, and any other moves.
use Rattle.std.proofs.Common.{sym, ◌∙◌}
use Rattle.day_adjust.proofs.Adjusting.{open_stays, shut_moves}
use Rattle.day_adjust.proofs.DateSpot.adjusted.Goals as goal

pub returns-then-is_business : goal.returns-then-is_business
returns-then-is_business c = open_stays _ _ _ c.args.self.own c.args.rule (sym c.is_business.ensures ∙ c.if-is_business.true)

pub returns : goal.returns
returns c = c.moved.ensures ∙ shut_moves _ _ _ c.args.self.own c.args.rule (sym c.is_business.ensures ∙ c.if-is_business.false)
