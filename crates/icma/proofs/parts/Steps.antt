-- One step on or back, the signs of the two periods, and where the walks from the roll date end.
use Prim.Native.Nat.{◌^◌, ◌<◌}
use mathlib.Core.Path.{◌≡◌, sym, ◌∙◌, ap, subst}
use mathlib.Core.Bool.{true}
use native.Mathlib.Omega.{arith}
use lib.IntN.{ℤ, pos, ◌-ℤ◌}
use lib.Signed.{lt_z}
use mir.Syntax.{w32}
use mir.Val.{SFits, to_z, of_z}
use mir.Facts.{to_z-of_z}
use Rattle.outcome.specs.Outcome.{given}
use Rattle.outcome.proofs.Outcomes.{then_given}
use Rattle.rounding.proofs.Difference.{gap_fits, gap_is}
use Rattle.calendar.specs.dates.Dates.{is_date, day_number}
use Rattle.calendar.specs.declared.dates.Date.{Date}
use Rattle.calendar.proofs.dates.Dates.{date-yes, number-to}
use Rattle.time_period.specs.declared.steps.TimePeriod.{TimePeriod}
use Rattle.time_period.proofs.steps.Signs.{positive_not_least, minus_read, negative_back}
use Rattle.icma.specs.declared.walks.Walked.{Walked}
use Rattle.icma.proofs.walks.Walking.{on_ends, back_ends}
use Rattle.icma.specs.parts.Walk.{negated, walk_on, walk_back, base_from}

-- the difference of two dates' serial days is kept whole in 32 bits
pub gap_kept : (t u : Date) (z : ℤ) → is_date t ≡ true → is_date u ≡ true → z ≡ pos (day_number t) -ℤ pos (day_number u) → to_z w32 (of_z w32 z) ≡ pos (day_number t) -ℤ pos (day_number u)
gap_kept t u z d e q =
    let h : day_number t < 2 ^ 31 = omega (arith, number-to t (date-yes t d)) in
    let k : day_number u < 2 ^ 31 = omega (arith, number-to u (date-yes u e)) in
    let f = gap_fits (day_number t) (day_number u) h k in
    ap (λ (x : ℤ). to_z w32 (of_z w32 x)) q ∙ to_z-of_z (subst (SFits w32) (sym (to_z-of_z f) ∙ gap_is (day_number t) (day_number u) h k) f)

-- a period above 0, its number negated as the code does
pub negated_is : (p : TimePeriod) → SFits w32 p.num → lt_z (pos 0) p.num ≡ true → ◌≡◌ {A = TimePeriod} (record { num = to_z w32 (of_z w32 (pos 0 -ℤ to_z w32 (of_z w32 p.num))); unit = p.unit }) (negated p)
negated_is p f h = ap {B = TimePeriod} (λ (z : ℤ). record { num = z; unit = p.unit }) (minus_read p.num f (positive_not_least p.num h))

-- the base is a date of the calendar
pub base_ends : (p : TimePeriod) (start end roll : Date) (w : Walked) → is_date roll ≡ true → lt_z (pos 0) p.num ≡ true → base_from p (negated p) start end roll ≡ given w → is_date w.at ≡ true
unfolding base_from
base_ends p start end roll w d h e =
    let g = then_given (walk_on p start roll) (λ a. walk_back (negated p) end a.at) w e in
    let a = on_ends p start roll g.0 d h g.1 in
    (back_ends (negated p) end g.0.at w a.0.dated (negative_back p.num h) g.2).0.dated
