-- What is left to find of the parts after each walk.
use Prim.Native.Nat.{◌+◌}
use mathlib.Core.Path.{◌≡◌}
use mathlib.Core.Bool.{true, false}
use Rattle.std.specs.Prelude.{Option}
use Rattle.outcome.specs.Outcome.{given}
use Rattle.calendar.specs.dates.Dates.{is_before}
use Rattle.calendar.specs.declared.dates.Date.{Date}
use Rattle.time_period.specs.declared.steps.TimePeriod.{TimePeriod}
use Rattle.icma.specs.parts.Walk.{negated, walk_on, walk_back, base_from, short_parts, first_part, last_part, to_last, to_end, to_first, long_parts, parts_from, icma_parts}
use Rattle.icma.specs.declared.walks.Walked.{Walked}
use Rattle.icma.specs.declared.parts.Part.{Part}
use Rattle.icma.specs.declared.parts.Parts.TheVariants.{Long}

module _ (p q : TimePeriod) (start end base : Date) (b : Walked) (back : given b ≡ walk_back q start base) where
  pub after_back : to_first p q start end base b ≡ long_parts p q start end base
  unfolding long_parts
  after_back = rw (← back)

  module _ (first : Option Part) (cut : given first ≡ first_part p start b.at) where
    pub after_first : to_end p q end base b.count first ≡ long_parts p q start end base
    unfolding to_first
    after_first = rw (← after_back, ← cut)

    module _ (e : Walked) (on : given e ≡ walk_on p end base) where
      pub after_on : to_last q end first b.count e ≡ long_parts p q start end base
      unfolding to_end
      after_on = rw (← after_first, ← on)

      pub after_last : (last : Option Part) → given last ≡ last_part q end e.at → given (Long first last (b.count + e.count)) ≡ long_parts p q start end base
      unfolding to_last
      after_last last l = rw (← after_on, ← l)

-- from the base: before start or not
module _ (p : TimePeriod) (start end roll : Date) (b : Walked) (found : given b ≡ base_from p (negated p) start end roll) where
  pub base_before : is_before b.at start ≡ true → short_parts p start end b.at ≡ icma_parts p start end roll
  unfolding icma_parts parts_from
  base_before h = rw (← found, h)

  pub base_not_before : is_before b.at start ≡ false → long_parts p (negated p) start end b.at ≡ icma_parts p start end roll
  unfolding icma_parts parts_from
  base_not_before h = rw (← found, h)
