-- `Spot::is_business` meets its contract: the first holiday from the day on is the day, or the day
-- is not listed.
use Rattle.std.proofs.Common.{sym, ◌∙◌, ap, not}
use Rattle.business_days.proofs.walk.Walks.{business_told}
use Rattle.business_days.proofs.table.Days.{shut_weekend}
use Rattle.business_days.proofs.walk.Spot.is_business.Goals as goal

pub returns-then-not-is_weekend : goal.returns-then-not-is_weekend
returns-then-not-is_weekend c = business_told _ _ _ _ c.args.self.placed c.args.self.from (sym c.is_weekend.ensures ∙ c.if-not-is_weekend.true) c.holiday_at.ensures

pub returns-else-not-is_weekend : goal.returns-else-not-is_weekend
returns-else-not-is_weekend c = ap not c.if-not-is_weekend.false ∙ sym (shut_weekend _ _ (sym c.is_weekend.ensures ∙ c.if-not-is_weekend.false))
