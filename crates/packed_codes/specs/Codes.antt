-- Codes of a packed note, both ways: a code is a place in a list, from 0 on.
use Rattle.std.specs.Prelude.{ℕ, zero, suc, List, [], ◌∷◌}
use Rattle.outcome.specs.Outcome.{Outcome, given, refused}
use Rattle.time_period.specs.declared.steps.TimePeriodUnit.{TimePeriodUnit}
use Rattle.time_period.specs.declared.steps.TimePeriodUnit.TheVariants as unit
use Rattle.day_count_conv.specs.declared.conventions.DayCountConv.{DayCountConv}
use Rattle.day_count_conv.specs.declared.conventions.DayCountConv.TheVariants as conv
use Rattle.day_adjust.specs.declared.DayAdjust.{DayAdjust}
use Rattle.day_adjust.specs.declared.DayAdjust.TheVariants as rule

-- what stands at a place; any other code is 18
unfoldable pub at_place : {A : Type 0} → List A → ℕ → Outcome A
at_place [] n = refused 18
at_place (a ∷ l) zero = given a
at_place (a ∷ l) (suc n) = at_place l n

-- unit 3 (D, B, W, M, Y = 0 to 4)
abbrev pub units : List TimePeriodUnit
units = unit.Daily ∷ unit.BusinessDaily ∷ unit.Weekly ∷ unit.Monthly ∷ unit.Annual ∷ []

abbrev pub unit_of_code : ℕ → Outcome TimePeriodUnit
unit_of_code n = at_place units n

abbrev pub code_of_unit : TimePeriodUnit → ℕ
code_of_unit unit.Daily = 0
code_of_unit unit.BusinessDaily = 1
code_of_unit unit.Weekly = 2
code_of_unit unit.Monthly = 3
code_of_unit unit.Annual = 4

-- day count 3 (table order, the two in row one as 0 and 1, then 2 to 5)
abbrev pub conventions : List DayCountConv
conventions = conv.Act365 ∷ conv.Act360 ∷ conv.Act365l ∷ conv.D30_360 ∷ conv.D30E360 ∷ conv.ActActICMA ∷ []

abbrev pub convention_of_code : ℕ → Outcome DayCountConv
convention_of_code n = at_place conventions n

abbrev pub code_of_convention : DayCountConv → ℕ
code_of_convention conv.Act365 = 0
code_of_convention conv.Act360 = 1
code_of_convention conv.Act365l = 2
code_of_convention conv.D30_360 = 3
code_of_convention conv.D30E360 = 4
code_of_convention conv.ActActICMA = 5

-- adjustment 2 (none, following, preceding, modified = 0 to 3)
abbrev pub adjustments : List DayAdjust
adjustments = rule.None ∷ rule.Following ∷ rule.Preceding ∷ rule.Modified ∷ []

abbrev pub adjustment_of_code : ℕ → Outcome DayAdjust
adjustment_of_code n = at_place adjustments n

abbrev pub code_of_adjustment : DayAdjust → ℕ
code_of_adjustment rule.None = 0
code_of_adjustment rule.Following = 1
code_of_adjustment rule.Preceding = 2
code_of_adjustment rule.Modified = 3
