-- A step on or back: what a turn makes of it.
use Prim.Native.Nat.{ℕ, ◌+◌}
use mathlib.Core.Path.{◌≡◌}
use mathlib.Core.Bool.{Bool, true, false}
use Rattle.outcome.specs.Outcome.{given, refused, pick}
use Rattle.calendar.specs.declared.dates.Date.{Date}
use Rattle.time_period.specs.declared.steps.TimePeriod.{TimePeriod}
use Rattle.icma.specs.walks.Walks.{step, turn_on, turn_back}
use Rattle.icma.specs.walks.Ways.{is_past, turned}
use Rattle.icma.specs.declared.walks.Walked.{Walked}

module _ (p : TimePeriod) (limit : Date) (w : Walked) where
  pub turned_to : (way : Bool) (u : Date) (b : Bool) → given u ≡ step p w.at → is_past way u limit ≡ b → given (record { at = u; count = pick b w.count (w.count + 1) }) ≡ turned way p limit w
  unfolding turn_on turn_back
  turned_to true u b e h = rw (← e, h)
  turned_to false u b e h = rw (← e, h)

  pub turned_stops : (way : Bool) (n : ℕ) → refused n ≡ step p w.at → refused n ≡ turned way p limit w
  unfolding turn_on turn_back
  turned_stops true n e = rw (← e)
  turned_stops false n e = rw (← e)
