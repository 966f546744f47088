-- The refusals and their numbers, as documents 01 and 02 list them; and the outcome that a result is.
use Rattle.std.specs.Prelude.{ℕ, Result, Ok, Err}
use Rattle.outcome.specs.Outcome.{Outcome, given, refused}
use Rattle.outcome.specs.declared.Refusal.{Refusal}
use Rattle.outcome.specs.declared.Refusal.TheVariants.{InvalidDate, PeriodTooShort, InvalidUnit, InvalidPeriod, NoFrequency, CouponParseError, DayOutOfRange, DayTooBig, Impossible360, IcmaMissingRollDate, IcmaMissingTimePeriod, MissingCalendar, BadHolidayTable, PeriodBelowOne, NumberOutOfLimits, TooFewPlaces, BadCurrency, MalformedRecord, StartAfterEnd}

abbrev pub number_of : Refusal → ℕ
number_of InvalidDate = 1
number_of PeriodTooShort = 2
number_of InvalidUnit = 3
number_of InvalidPeriod = 4
number_of NoFrequency = 5
number_of CouponParseError = 6
number_of DayOutOfRange = 7
number_of DayTooBig = 8
number_of Impossible360 = 9
number_of IcmaMissingRollDate = 10
number_of IcmaMissingTimePeriod = 11
number_of MissingCalendar = 12
number_of BadHolidayTable = 13
number_of PeriodBelowOne = 14
number_of NumberOutOfLimits = 15
number_of TooFewPlaces = 16
number_of BadCurrency = 17
number_of MalformedRecord = 18
number_of StartAfterEnd = 19

abbrev pub outcome_of : {A : Type 0} → Result A Refusal → Outcome A
outcome_of (Ok a) = given a
outcome_of (Err e) = refused (number_of e)
