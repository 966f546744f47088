-- What later layers count on: a period from its own start is one whole period.
use mathlib.Core.Path.{◌≡◌, ◌∙◌, ap}
use mathlib.Core.Bool.{true, false, false≢true}
use native.Mathlib.Omega.{arith}
use lib.IntN.{pos}
use lib.Signed.{lt_z}
use Rattle.std.specs.Prelude.{None}
use Rattle.outcome.specs.Outcome.{Outcome, given, refused}
use Rattle.calendar.specs.dates.Dates.{is_date, is_before}
use Rattle.calendar.specs.declared.dates.Date.{Date}
use Rattle.calendar.proofs.dates.Dates.{date-yes}
use Rattle.calendar.proofs.dates.Order.{days-before, days_not_before, same-yes}
use Rattle.time_period.specs.declared.steps.TimePeriod.{TimePeriod}
use Rattle.icma.specs.walks.Walks.{from}
use Rattle.icma.specs.parts.Walk.{step, negated, turn_on, walk_on, turn_back, walk_back, base_from, first_part, last_part, to_last, to_end, to_first, long_parts, parts_from, icma_parts}
use Rattle.icma.specs.parts.Leads.{leads_to}
use Rattle.icma.specs.declared.parts.Parts.TheVariants.{Long}
use Rattle.outcome.proofs.Walks.{walk-there, walk_more}
use Rattle.time_period.proofs.steps.Steps.{step-later}

-- no date is before itself
not_itself : (t : Date) → is_date t ≡ true → is_before t t ≡ false
not_itself t d = days_not_before t t (date-yes t d) (date-yes t d) (omega arith)

-- a walk that is there at once
on_stays : (p : TimePeriod) (limit t : Date) → is_before t limit ≡ false → walk_on p limit t ≡ given (from t)
unfolding walk_on
on_stays p limit t h = walk-there (λ w. is_before w.at limit) (turn_on p limit) 3652059 (from t) h

back_stays : (q : TimePeriod) (limit t : Date) → is_before limit t ≡ false → walk_back q limit t ≡ given (from t)
unfolding walk_back
back_stays q limit t h = walk-there (λ w. is_before limit w.at) (turn_back q limit) 3652059 (from t) h

-- and one that is there after a step
on_steps : (p : TimePeriod) (t u : Date) → is_before t u ≡ true → is_before u u ≡ false → step p t ≡ given u → walk_on p u t ≡ given (record { at = u; count = 1 })
unfolding walk_on turn_on
on_steps p t u h k e =
    walk_more (λ w. is_before w.at u) (turn_on p u) 3652059 (from t) h
    ∙ rw (e, k) (walk-there (λ w. is_before w.at u) (turn_on p u) 3652058 (record { at = u; count = 1 }) k)

-- a period from its own start is exactly one period
pub one_period : (p : TimePeriod) (start end : Date) → is_date start ≡ true → lt_z (pos 0) p.num ≡ true → step p start ≡ given end → icma_parts p start end start ≡ given (Long None None 1)
unfolding icma_parts base_from parts_from long_parts to_first first_part to_end to_last last_part
one_period p start end d h e =
    let l = step-later p start end d h e in
    let s = not_itself start d in
    let f = not_itself end l.0 in
    let g = days_not_before end start (date-yes end l.0) (date-yes start d) (omega (arith, l.1)) in
    let b = days-before start end (date-yes start d) (date-yes end l.0) l.1 in
    rw (on_stays p start start s, back_stays (negated p) end start g, s, back_stays (negated p) start start s, s, on_steps p start end b f e, f)

-- a step that led to a date
pub led : (o : Outcome Date) (t : Date) → leads_to o t ≡ true → o ≡ given t
led (given u) t e = ap given (same-yes u t e)
led (refused n) t e = absurd (false≢true e)
