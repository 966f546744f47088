-- What each entry point of `business_days` answers, on every input, and what it
-- promises.
use Rattle.std.specs.Prelude.{ℕ, ◌≡◌, Bool, false, List, Result}
use Rattle.outcome.specs.Outcome.{Outcome, given, returned, unless}
use Rattle.outcome.specs.Refusals.{outcome_of}
use Rattle.outcome.specs.declared.Refusal.{Refusal}
use Rattle.calendar.specs.dates.Dates.{is_day}
use Rattle.calendar.specs.declared.dates.Day.{Day}
use Rattle.business_days.specs.table.Table.{is_table}
use Rattle.business_days.specs.table.Business.{is_business, next_from, prev_from, later_from, earlier_from}

-- what is returned of it; the zero is no
abbrev pub business_returned : Result Bool Refusal → ℕ × Bool
business_returned r = returned false (outcome_of r)

-- the order: 1 for the date, 13 for the table, then what the search answers
abbrev pub judged : {A : Type 0} → Day → List ℕ → Outcome A → Outcome A
judged d t rest = unless (is_day d) 1 (unless (is_table t) 13 rest)

-- whether the day is a business day
unfoldable pub is_business_day : Day → List ℕ → Outcome Bool
is_business_day d t = judged d t (given (is_business t d.0))

-- the next business day; 1 where the calendar has no later one
unfoldable pub next_bday : Day → List ℕ → Outcome Day
next_bday d t = judged d t (next_from t d.0)

-- the previous business day; 1 where the calendar has no earlier one
unfoldable pub prev_bday : Day → List ℕ → Outcome Day
prev_bday d t = judged d t (prev_from t d.0)

-- k business days on, and k business days back; 1 where the calendar ends before
unfoldable pub bdays_later : Day → ℕ → List ℕ → Outcome Day
bdays_later d k t = judged d t (later_from t k d.0)

unfoldable pub bdays_earlier : Day → ℕ → List ℕ → Outcome Day
bdays_earlier d k t = judged d t (earlier_from t k d.0)

-- what the entry points promise of their result r
abbrev pub TablePromise : List ℕ → Bool → Type 0
TablePromise t r = r ≡ is_table t

abbrev pub BusinessPromise : Day → List ℕ → Result Bool Refusal → Type 0
BusinessPromise d t r = outcome_of r ≡ is_business_day d t

abbrev pub NextPromise : Day → List ℕ → Result Day Refusal → Type 0
NextPromise d t r = outcome_of r ≡ next_bday d t

abbrev pub PreviousPromise : Day → List ℕ → Result Day Refusal → Type 0
PreviousPromise d t r = outcome_of r ≡ prev_bday d t

abbrev pub LaterPromise : Day → ℕ → List ℕ → Result Day Refusal → Type 0
LaterPromise d k t r = outcome_of r ≡ bdays_later d k t

abbrev pub EarlierPromise : Day → ℕ → List ℕ → Result Day Refusal → Type 0
EarlierPromise d k t r = outcome_of r ≡ bdays_earlier d k t
