-- A refusal of the walk has a number above 0.
use native.Mathlib.Omega.{arith}
use Rattle.outcome.proofs.Walks.{walk_numbered}
use Rattle.std.specs.Prelude.{None}
use Rattle.outcome.specs.Outcome.{given, and_then, Numbered}
use Rattle.outcome.proofs.Outcomes.{then_numbered, pick_numbered}
use Rattle.calendar.specs.dates.Dates.{is_before}
use Rattle.calendar.specs.declared.dates.Date.{Date}
use Rattle.time_period.specs.declared.steps.TimePeriod.{TimePeriod}
use Rattle.time_period.proofs.steps.OneOutcome.{step_numbered}
use Rattle.icma.specs.walks.Walks.{from}
use Rattle.icma.specs.parts.Walk.{step, negated, turn_on, walk_on, turn_back, walk_back, base_from, short_parts, first_part, last_part, to_last, to_end, to_first, long_parts, parts_from, icma_parts}

-- a step, and then a value of it
stepped_numbered : {A : Type 0} (p : TimePeriod) (t : Date) (f : Date → A) → Numbered (and_then (step p t) (λ u. given (f u)))
stepped_numbered p t f = then_numbered (step p t) (λ u. given (f u)) (step_numbered p.unit p.num t) (λ u. omega arith)

on_numbered : (p : TimePeriod) (limit t : Date) → Numbered (walk_on p limit t)
unfolding walk_on turn_on
on_numbered p limit t = walk_numbered (λ w. is_before w.at limit) (turn_on p limit) (λ w. stepped_numbered p w.at _) 3652060 (from t)

back_numbered : (q : TimePeriod) (limit t : Date) → Numbered (walk_back q limit t)
unfolding walk_back turn_back
back_numbered q limit t = walk_numbered (λ w. is_before limit w.at) (turn_back q limit) (λ w. stepped_numbered q w.at _) 3652060 (from t)

long_numbered : (p q : TimePeriod) (start end base : Date) → Numbered (long_parts p q start end base)
unfolding long_parts to_first first_part to_end to_last last_part
long_numbered p q start end base =
    then_numbered (walk_back q start base) (to_first p q start end base) (back_numbered q start base)
    (λ b. then_numbered (first_part p start b.at) (to_end p q end base b.count) (pick_numbered (is_before b.at start) _ (given None) (stepped_numbered p b.at _) (omega arith))
    (λ first. then_numbered (walk_on p end base) (to_last q end first b.count) (on_numbered p end base)
    (λ e. then_numbered (last_part q end e.at) _ (pick_numbered (is_before end e.at) _ (given None) (stepped_numbered q e.at _) (omega arith)) (λ last. omega arith))))

pub parts_numbered : (p : TimePeriod) (start end roll : Date) → Numbered (icma_parts p start end roll)
unfolding icma_parts base_from parts_from short_parts
parts_numbered p start end roll =
    then_numbered (base_from p (negated p) start end roll) (parts_from p (negated p) start end)
    (then_numbered (walk_on p start roll) _ (on_numbered p start roll) (λ a. back_numbered (negated p) end a.at))
    (λ b. pick_numbered (is_before b.at start) _ _ (stepped_numbered p b.at _) (long_numbered p (negated p) start end b.at))
