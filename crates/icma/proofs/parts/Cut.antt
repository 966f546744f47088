-- The part at either end: what is cut of the period by which a walk came past it.
use Prim.Native.Nat.{ℕ, ◌-◌, ◌<◌}
use mathlib.Core.Path.{◌≡◌, sym}
use mathlib.Core.Bool.{Bool, true, false, true≢false, false≢true}
use lib.IntN.{ℤ, pos, ◌-ℤ◌}
use Rattle.std.specs.Prelude.{Some, None}
use Rattle.outcome.specs.Outcome.{given, refused}
use Rattle.calendar.specs.dates.Dates.{is_date, day_number}
use Rattle.calendar.specs.declared.dates.Date.{Date}
use Rattle.time_period.specs.declared.steps.TimePeriod.{TimePeriod}
use Rattle.time_period.proofs.steps.Steps.{step-later, step_earlier}
use Rattle.icma.specs.walks.Ways.{leads, is_past}
use Rattle.icma.specs.parts.Walk.{step, first_part, last_part}
use Rattle.icma.specs.parts.Cut.{cut_part}

module _ (p : TimePeriod) (edge t : Date) where
  pub cut_none : (way : Bool) → is_past way edge t ≡ false → given None ≡ cut_part way p edge t
  unfolding first_part last_part
  cut_none true h = rw h
  cut_none false h = rw h

  pub cut_stops : (way : Bool) (n : ℕ) → is_past way edge t ≡ true → refused n ≡ step p t → refused n ≡ cut_part way p edge t
  unfolding first_part last_part
  cut_stops true n h e = rw (h, ← e)
  cut_stops false n h e = rw (h, ← e)

  -- by a period on, which led later
  module _ (u : Date) (e : given u ≡ step p t) where
    pub later : (way : Bool) → way ≡ true → is_date t ≡ true → leads way p.num ≡ true → (is_date u ≡ true) × (day_number t < day_number u)
    later true w d h = step-later p t u d h (sym e)
    later false w d h = absurd (false≢true w)

    pub cut_on : (way : Bool) (x : ℤ) (l : ℕ) → way ≡ true → is_past way edge t ≡ true → x ≡ pos (day_number u) -ℤ pos (day_number edge) → l ≡ day_number u - day_number t → given (Some (record { days = x; length = l })) ≡ cut_part way p edge t
    unfolding first_part
    cut_on true x l w h i j = rw (h, ← e, i, j)
    cut_on false x l w h i j = absurd (false≢true w)

    -- and by one back, which led earlier
    pub earlier : (way : Bool) → way ≡ false → is_date t ≡ true → leads way p.num ≡ true → (is_date u ≡ true) × (day_number u < day_number t)
    earlier true w d h = absurd (true≢false w)
    earlier false w d h = step_earlier p t u d h (sym e)

    pub cut_back : (way : Bool) (x : ℤ) (l : ℕ) → way ≡ false → is_past way edge t ≡ true → x ≡ pos (day_number edge) -ℤ pos (day_number u) → l ≡ day_number t - day_number u → given (Some (record { days = x; length = l })) ≡ cut_part way p edge t
    unfolding last_part
    cut_back true x l w h i j = absurd (true≢false w)
    cut_back false x l w h i j = rw (h, ← e, i, j)
