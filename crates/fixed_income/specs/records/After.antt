-- Flows after a date: which they are, over any kind of flow and over records.
use Rattle.std.specs.Prelude.{Bool, List}
use Rattle.outcome.specs.Lists.{those, all_of}
use Rattle.outcome.specs.Outcome.{Outcome, given, unless, both}
use Rattle.calendar.specs.dates.Dates.{is_date, is_before}
use Rattle.calendar.specs.declared.dates.Date.{Date}
use Rattle.cash_flow.specs.declared.flow.CashFlow.{CashFlow}

-- refused 1 for the date or any record's date; else the later ones, in order
abbrev pub after : {A : Type 0} → Bool → (A → Bool) → (A → Bool) → List A → Outcome (List A)
after dated has_date is_later flows = unless (both dated (all_of has_date flows)) 1 (given (those is_later flows))

-- a record's date is a date of the calendar; it is strictly later than another
abbrev pub has_date : CashFlow → Bool
has_date f = is_date f.date

abbrev pub is_later : Date → CashFlow → Bool
is_later date f = is_before date f.date

-- the records after a date
unfoldable pub flows_after : Date → List CashFlow → Outcome (List CashFlow)
flows_after date flows = after (is_date date) has_date (is_later date) flows
