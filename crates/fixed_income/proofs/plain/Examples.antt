-- Flows in plain lists after a serial day, as theorems about the definitions.
use Prim.Native.Nat.{ℕ}
use mathlib.Core.Path.{◌≡◌, refl}
use mathlib.Core.List.{[], ◌∷◌}
use lib.Ieee.{Float}
use Rattle.outcome.specs.Outcome.{given, refused}
use Rattle.outcome.specs.Room.{room_after}
use Rattle.calendar.specs.dates.Dates.{is_day}
use Rattle.calendar.specs.declared.dates.Day.{Day}
use Rattle.fixed_income.specs.plain.Plain.{PlainFlow, plain_flows, listed_after, listed_written}
use Rattle.outcome.specs.Lists.{those, all_of}

abbrev serial : ℕ → Day
serial n = record { 0 = n }

abbrev flow : ℕ → ℕ → Float → PlainFlow
flow d c x = record { day = d; currency = c; amount = x }

-- four days, three currencies, three amounts: three flows
pub record Lists (a b c : Float) : Type 0 where
  pub shortest : plain_flows (3 ∷ 5 ∷ 7 ∷ 9 ∷ []) (1 ∷ 1 ∷ 2 ∷ []) (a ∷ b ∷ c ∷ []) ≡ flow 3 1 a ∷ flow 5 1 b ∷ flow 7 2 c ∷ []
  pub strictly : listed_after (serial 5) (flow 3 1 a ∷ flow 5 1 b ∷ flow 7 2 c ∷ []) ≡ given (flow 7 2 c ∷ [])
  pub no_day_zero : listed_after (serial 5) (flow 0 1 a ∷ []) ≡ refused 1
  pub past_the_calendar : listed_after (serial 3652060) [] ≡ refused 1
  pub too_few_places : listed_written (serial 4) (flow 5 1 b ∷ flow 7 2 c ∷ []) 1 ≡ refused 16
  pub days_written_lem : room_after (λ f. f.day) (listed_written (serial 5) (flow 3 1 a ∷ flow 7 2 c ∷ []) 2) (1 ∷ 2 ∷ []) ≡ 7 ∷ 2 ∷ []

pub lists : (a b c : Float) → Lists a b c
unfolding is_day those all_of plain_flows listed_after listed_written
lists a b c =
    record {
      shortest = refl;
      strictly = refl;
      no_day_zero = refl;
      past_the_calendar = refl;
      too_few_places = refl;
      days_written_lem = refl;
    }
