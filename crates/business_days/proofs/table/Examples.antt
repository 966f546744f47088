-- Dates of a clerk's year, and both ends of the calendar: the definitions compute.
use mathlib.Core.Path.{◌≡◌, refl}
use mathlib.Core.Bool.{true, false}
use mathlib.Core.List.{[], ◌∷◌}
use Rattle.outcome.specs.Outcome.{given, refused}
use Rattle.calendar.specs.serial.Answers.{weekday_of}
use Rattle.calendar.specs.dates.Dates.{is_day}
use Rattle.business_days.specs.table.Table.{ascends_from, is_table, is_listed}
use Rattle.business_days.specs.table.Business.{serial_day, is_weekend, is_business, first_of, next_from, last_of, prev_from, repeated, later_from, earlier_from}

-- 2021-07-31 is a Saturday: after it comes Monday 2021-08-02, before it Friday 2021-07-30
pub saturday_on : next_from [] 738002 ≡ given (serial_day 738004)
unfolding next_from first_of is_business is_weekend weekday_of is_day is_listed
saturday_on = refl

pub saturday_back : prev_from [] 738002 ≡ given (serial_day 738001)
unfolding prev_from last_of is_business is_weekend weekday_of is_day is_listed
saturday_back = refl

-- Christmas 2024: from Tuesday the 24th over two listed days to Friday the 27th, and back
pub christmas_on : next_from (739245 ∷ 739246 ∷ []) 739244 ≡ given (serial_day 739247)
unfolding next_from first_of is_business is_weekend weekday_of is_day is_listed
christmas_on = refl

pub christmas_back : prev_from (739245 ∷ 739246 ∷ []) 739247 ≡ given (serial_day 739244)
unfolding prev_from last_of is_business is_weekend weekday_of is_day is_listed
christmas_back = refl

-- three business days on from there: Friday, Monday, Tuesday; no step stays on a Saturday
pub three_on : later_from (739245 ∷ 739246 ∷ []) 3 739244 ≡ given (serial_day 739251)
unfolding repeated next_from first_of is_business is_weekend weekday_of is_day is_listed
three_on = refl

pub three_back : earlier_from (739245 ∷ 739246 ∷ []) 3 739251 ≡ given (serial_day 739244)
unfolding repeated prev_from last_of is_business is_weekend weekday_of is_day is_listed
three_back = refl

pub none-on : later_from [] 0 738002 ≡ given (serial_day 738002)
unfolding repeated
none-on = refl

-- 9999-12-31 is a Friday and 0001-01-01 a Monday: past them, and from a holiday there, no business
-- day is left
pub end_none : next_from [] 3652059 ≡ refused 1
unfolding next_from first_of
end_none = refl

pub end_closed : next_from (3652059 ∷ []) 3652058 ≡ refused 1
unfolding next_from first_of is_business is_weekend weekday_of is_day is_listed
end_closed = refl

pub start_none : prev_from [] 1 ≡ refused 1
unfolding prev_from last_of
start_none = refl

pub start_closed : prev_from (1 ∷ []) 2 ≡ refused 1
unfolding prev_from last_of is_business is_weekend weekday_of is_day is_listed
start_closed = refl

-- a day twice, a day out of order, and days outside the calendar
pub repeated-day : is_table (7 ∷ 7 ∷ []) ≡ false
unfolding is_table ascends_from
repeated-day = refl

pub unsorted : is_table (8 ∷ 7 ∷ []) ≡ false
unfolding is_table ascends_from
unsorted = refl

pub outside : is_table (0 ∷ []) ≡ false
unfolding is_table ascends_from
outside = refl

pub past_the_end : is_table (3652059 ∷ 3652060 ∷ []) ≡ false
unfolding is_table ascends_from
past_the_end = refl

pub whole_range : is_table (1 ∷ 3652059 ∷ []) ≡ true
unfolding is_table ascends_from
whole_range = refl
