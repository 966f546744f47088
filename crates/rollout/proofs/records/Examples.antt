-- The paper's own listing as records, as a theorem about the definitions.
use mathlib.Core.Path.{◌≡◌}
use mathlib.Core.List.{List, [], ◌∷◌}
use Rattle.outcome.specs.Outcome.{given, refused}
use Rattle.outcome.specs.Room.{counted, room_after}
use Rattle.cash_flow.specs.declared.flow.CashFlow.{CashFlow}
use Rattle.calendar.proofs.dates.Examples.{on}
use Rattle.bond.specs.note.Example.{example_note}
use Rattle.rollout.specs.plain.Rollout.{fitted_in}
use Rattle.rollout.proofs.plain.Examples.{one, twenty, thousand, flow, the_listing}

-- its three records
abbrev records : List CashFlow
records = flow (on 2021 7 15) twenty ∷ flow (on 2022 1 17) twenty ∷ flow (on 2022 1 17) thousand ∷ []

-- what a room held before
abbrev before : CashFlow
before = flow (on 1999 12 31) one

-- four places: three are written, and the fourth keeps its contents; two are too few, and keep
-- theirs
pub record Room : Type 0 where
  pub just_enough : fitted_in example_note one [] 3 ≡ given records
  pub answer : counted (fitted_in example_note one [] 4) ≡ given 3
  pub contents : room_after (λ x. x) (fitted_in example_note one [] 4) (before ∷ before ∷ before ∷ before ∷ []) ≡ flow (on 2021 7 15) twenty ∷ flow (on 2022 1 17) twenty ∷ flow (on 2022 1 17) thousand ∷ before ∷ []
  pub too_few : fitted_in example_note one [] 2 ≡ refused 16
  pub kept : room_after (λ x. x) (fitted_in example_note one [] 2) (before ∷ before ∷ []) ≡ before ∷ before ∷ []

pub room : Room
room = record { just_enough = rw the_listing; answer = rw the_listing; contents = rw the_listing; too_few = rw the_listing; kept = rw the_listing }
