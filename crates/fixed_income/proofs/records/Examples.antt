-- Flows after a date, as theorems about the definitions: the three flows of document 01's note, of
-- any amounts.
use mathlib.Core.Path.{◌≡◌, refl}
use mathlib.Core.List.{List, [], ◌∷◌}
use lib.Ieee.{Float}
use Rattle.outcome.specs.Lists.{those, all_of}
use Rattle.outcome.specs.Outcome.{given, refused}
use Rattle.outcome.specs.Room.{room_after}
use Rattle.calendar.specs.gregorian.Gregorian.{leap, length_in, month_length}
use Rattle.calendar.specs.dates.Dates.{is_date, is_before}
use Rattle.calendar.specs.declared.dates.Date.{Date}
use Rattle.cash_flow.specs.declared.flow.CashFlow.{CashFlow}
use Rattle.fixed_income.specs.records.After.{flows_after}
use Rattle.fixed_income.specs.records.Promises.{records_written}
use Rattle.calendar.proofs.dates.Examples.{on}

abbrev euros : Date → Float → CashFlow
euros t x = record { date = t; currency = record { first = 69; second = 85; third = 82 }; amount = x }

-- two coupons and the nominal
abbrev note : Float → Float → Float → List CashFlow
note a b c = euros (on 2021 7 15) a ∷ euros (on 2022 1 17) b ∷ euros (on 2022 1 17) c ∷ []

pub record Records (a b c : Float) : Type 0 where
  pub all_later : flows_after (on 2021 7 14) (note a b c) ≡ given (note a b c)
  pub strictly : flows_after (on 2021 7 15) (note a b c) ≡ given (euros (on 2022 1 17) b ∷ euros (on 2022 1 17) c ∷ [])
  pub none : flows_after (on 2022 1 17) (note a b c) ≡ given []
  pub no_flows : flows_after (on 2022 1 17) [] ≡ given []
  pub no_such_date : flows_after (on 2021 2 29) [] ≡ refused 1
  pub no_such_date_of_a_flow : flows_after (on 2022 1 17) (euros (on 2021 2 29) a ∷ note a b c) ≡ refused 1
  pub places_for_the_later : records_written (note a b c) (on 2021 7 15) 2 ≡ given (euros (on 2022 1 17) b ∷ euros (on 2022 1 17) c ∷ [])
  pub too_few_places : records_written (note a b c) (on 2021 7 15) 1 ≡ refused 16
  pub date-first : records_written (note a b c) (on 2021 2 29) 0 ≡ refused 1
  pub room_past_it : room_after (λ f. f) (records_written (note a b c) (on 2021 7 15) 3) (note c a b) ≡ euros (on 2022 1 17) b ∷ euros (on 2022 1 17) c ∷ euros (on 2022 1 17) b ∷ []

pub records : (a b c : Float) → Records a b c
unfolding leap length_in month_length is_date is_before those all_of flows_after records_written
records a b c =
    record {
      all_later = refl;
      strictly = refl;
      none = refl;
      no_flows = refl;
      no_such_date = refl;
      no_such_date_of_a_flow = refl;
      places_for_the_later = refl;
      too_few_places = refl;
      date-first = refl;
      room_past_it = refl;
    }
