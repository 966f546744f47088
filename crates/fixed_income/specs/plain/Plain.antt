-- Flows in plain lists after a serial day: which they are, how many are written, and what their
-- room holds.
-- An amount is copied as it is, whatever it is. The logic has one NaN, so of a NaN this says that a
-- NaN is written, and not which bits it has.
use Rattle.std.specs.Prelude.{ℕ, min, ◌≡◌, Bool, List, [], ◌∷◌, ltb, Float, length, Result}
use Rattle.outcome.specs.Outcome.{Outcome}
use Rattle.outcome.specs.Refusals.{outcome_of}
use Rattle.outcome.specs.declared.Refusal.{Refusal}
use Rattle.outcome.specs.Room.{fitting, counted, room_after}
use Rattle.calendar.specs.dates.Dates.{is_day}
use Rattle.calendar.specs.declared.dates.Day.{Day}
use Rattle.fixed_income.specs.records.After.{after}

-- a flow in plain lists: a serial day, a currency's number, an amount
pub record PlainFlow : Type 0 where
  pub day : ℕ
  pub currency : ℕ
  pub amount : Float

-- the flows of three lists: as many as the shortest of them has
unfoldable pub plain_flows : List ℕ → List ℕ → List Float → List PlainFlow
plain_flows [] cs xs = []
plain_flows (d ∷ ds) [] xs = []
plain_flows (d ∷ ds) (c ∷ cs) [] = []
plain_flows (d ∷ ds) (c ∷ cs) (x ∷ xs) = record { day = d; currency = c; amount = x } ∷ plain_flows ds cs xs

-- a number is a serial day of the calendar; it is strictly later than another
abbrev pub is_day_number : ℕ → Bool
is_day_number n = is_day (record { 0 = n })

abbrev pub is_later_day : Day → ℕ → Bool
is_later_day day n = ltb day.0 n

-- the flows of three lists after a serial day
unfoldable pub listed_after : Day → List PlainFlow → Outcome (List PlainFlow)
listed_after day flows = after (is_day day) (λ f. is_day_number f.day) (λ f. is_later_day day f.day) flows

-- the places of three lists: as many as the shortest of them has
abbrev pub shortest : ℕ → ℕ → ℕ → ℕ
shortest a b c = min a (min b c)

-- refused 1, then 16 for fewer places than later flows
unfoldable pub listed_written : Day → List PlainFlow → ℕ → Outcome (List PlainFlow)
listed_written day flows places = fitting places (listed_after day flows)

-- three lists hold the later flows' days, currencies and amounts, and then what they held
pub record ListedContents (written : Outcome (List PlainFlow)) (days currencies : List ℕ) (amounts : List Float) (days' currencies' : List ℕ) (amounts' : List Float) : Type 0 where
  pub days-are : days' ≡ room_after (λ f. f.day) written days
  pub currencies_are : currencies' ≡ room_after (λ f. f.currency) written currencies
  pub amounts_are : amounts' ≡ room_after (λ f. f.amount) written amounts

-- how many were written, and what the three lists hold
pub record FlowsAfterPlainPromise (day : Day) (flows : List PlainFlow) (days currencies : List ℕ) (amounts : List Float) (r : Result ℕ Refusal) (days' currencies' : List ℕ) (amounts' : List Float) : Type 0 where
  pub answer : outcome_of r ≡ counted (listed_written day flows (shortest (length days) (length currencies) (length amounts)))
  pub contents : ListedContents (listed_written day flows (shortest (length days) (length currencies) (length amounts))) days currencies amounts days' currencies' amounts'

-- what the days alone decide: the later days, refused alike
unfoldable pub days_written : Day → List ℕ → ℕ → Outcome (List ℕ)
days_written day days places = fitting places (after (is_day day) is_day_number (is_later_day day) days)
