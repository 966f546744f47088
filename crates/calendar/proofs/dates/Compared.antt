-- What `<` and `==` of two dates say: the order and the sameness of document 01.
use mathlib.Core.Path.{◌≡◌, ◌∙◌}
use mathlib.Core.Bool.{Bool, ◌&&◌}
use lib.Dec.{eqb}
use Rattle.std.specs.Ordering.{partial_lt}
use Rattle.std.proofs.Common.{rules}
use Rattle.calendar.specs.dates.Dates.{is_before, is_same}
use Rattle.calendar.specs.declared.dates.Date.{Date}
use Rattle.calendar.specs.contracts.dates.DatePartialOrd.TheImpl.{partial_cmp-value}

pub before_by_less : (a b : Date) (r : Bool) → r ≡ partial_lt partial_cmp-value.it a b → r ≡ is_before a b
unfolding is_before
before_by_less a b r h = h ∙ search rules

pub same_by_equal : (a b : Date) (r : Bool) → r ≡ (eqb a.year b.year && (eqb a.month b.month && eqb a.day b.day)) → r ≡ is_same a b
unfolding is_same
same_by_equal a b r h = h ∙ search rules
