-- Act/Act ICMA walks from the roll date: the whole periods and the broken parts between start and
-- end. The walks are those of `icma`.
use Rattle.std.specs.Prelude.{ℕ, ◌+◌, ◌-◌, pos, ◌-ℤ◌, Option, Some, None}
use Rattle.outcome.specs.Outcome.{Outcome, given, and_then, pick}
use Rattle.calendar.specs.dates.Dates.{is_before, day_number}
use Rattle.calendar.specs.declared.dates.Date.{Date}
use Rattle.time_period.specs.declared.steps.TimePeriod.{TimePeriod}
unfoldable pub use Rattle.icma.specs.walks.Walks.{turn_on, walk_on, turn_back, walk_back, base_from}
pub use Rattle.icma.specs.walks.Walks.{step, walk}
pub use Rattle.time_period.specs.steps.Steps.{negated}
use Rattle.icma.specs.declared.walks.Walked.{Walked}
use Rattle.icma.specs.declared.parts.Part.{Part}
use Rattle.icma.specs.declared.parts.Parts.{Parts}
use Rattle.icma.specs.declared.parts.Parts.TheVariants.{Short, Long}

-- the walks from the roll date (`base_from`) ended before start: the days, over the length of the
-- period from there
unfoldable pub short_parts : TimePeriod → Date → Date → Date → Outcome Parts
short_parts p start end base = and_then (step p base) (λ u. given (Short (day_number end - day_number start) (day_number u - day_number base)))

-- a walk back that ends before start: one step forward again minus start, over that period's length
unfoldable pub first_part : TimePeriod → Date → Date → Outcome (Option Part)
first_part p start b =
    pick (is_before b start)
    (and_then (step p b) (λ u. given (Some (record { days = pos (day_number u) -ℤ pos (day_number start); length = day_number u - day_number b }))))
    (given None)

-- a walk on that ends past end: end minus one step back, over that period's length
unfoldable pub last_part : TimePeriod → Date → Date → Outcome (Option Part)
last_part q end e =
    pick (is_before end e)
    (and_then (step q e) (λ s. given (Some (record { days = pos (day_number end) -ℤ pos (day_number s); length = day_number e - day_number s }))))
    (given None)

-- otherwise it is the base: go back from it to start, then forward from it to end; both counts are
-- added
unfoldable pub to_last : TimePeriod → Date → Option Part → ℕ → Walked → Outcome Parts
to_last q end first count e = and_then (last_part q end e.at) (λ last. given (Long first last (count + e.count)))

unfoldable pub to_end : TimePeriod → TimePeriod → Date → Date → ℕ → Option Part → Outcome Parts
to_end p q end base count first = and_then (walk_on p end base) (to_last q end first count)

unfoldable pub to_first : TimePeriod → TimePeriod → Date → Date → Date → Walked → Outcome Parts
to_first p q start end base b = and_then (first_part p start b.at) (to_end p q end base b.count)

unfoldable pub long_parts : TimePeriod → TimePeriod → Date → Date → Date → Outcome Parts
long_parts p q start end base = and_then (walk_back q start base) (to_first p q start end base)

unfoldable pub parts_from : TimePeriod → TimePeriod → Date → Date → Walked → Outcome Parts
parts_from p q start end b = pick (is_before b.at start) (short_parts p start end b.at) (long_parts p q start end b.at)

unfoldable pub icma_parts : TimePeriod → Date → Date → Date → Outcome Parts
icma_parts p start end roll = and_then (base_from p (negated p) start end roll) (parts_from p (negated p) start end)
