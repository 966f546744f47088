-- What the inner functions of a listed stream hand each other, so that no date is taken where days
-- are enough; no promise of an entry point rests on this.
use Rattle.std.specs.Prelude.{ℕ, leb, Option, Some, None}
use Rattle.outcome.specs.Outcome.{both, pick}
use Rattle.calendar.specs.dates.Dates.{is_date, day_number}
use Rattle.calendar.specs.declared.dates.Date.{Date}
use Rattle.cash_flow.specs.currency.Amounts.{is_currency}
use Rattle.day_count_conv.specs.declared.conventions.DayCountConv.{DayCountConv}
use Rattle.day_count_conv.specs.declared.conventions.DayCountConv.TheVariants as conv
use Rattle.rates.specs.declared.simple.FlatRate.{FlatRate}

-- the days of the year by which a rule divides, if it counts days; else 0
abbrev pub year_days : DayCountConv → ℕ
year_days conv.Act365 = 365
year_days conv.Act360 = 360
year_days conv.Act365l = 0
year_days conv.D30_360 = 0
year_days conv.D30E360 = 0
year_days conv.ActActICMA = 0

-- the day from which on days are enough: today's, where the rule counts days and the rate's
-- currency and today are in order; else none
unfoldable pub counted_from : FlatRate → Date → Option ℕ
counted_from rate today =
    pick (both (leb 1 (year_days rate.day_count_conv)) (both (is_currency rate.currency) (is_date today))) (Some (day_number today)) None
