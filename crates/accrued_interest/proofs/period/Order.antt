-- What `>=` of two dates says: the first is not before the second.
use mathlib.Core.Path.{◌≡◌, ◌∙◌}
use mathlib.Core.Bool.{Bool, not}
use Rattle.std.specs.Ordering.{partial_ge}
use Rattle.std.proofs.Common.{rules}
use Rattle.calendar.specs.dates.Dates.{is_before}
use Rattle.calendar.specs.declared.dates.Date.{Date}
use Rattle.calendar.specs.contracts.dates.DatePartialOrd.TheImpl.{partial_cmp-value}

pub at_least : (a b : Date) (r : Bool) → r ≡ partial_ge partial_cmp-value.it a b → r ≡ not (is_before a b)
unfolding is_before
at_least a b r h = h ∙ search rules
