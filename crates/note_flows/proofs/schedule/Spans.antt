-- The dates of an accepted note's coupons are in order.
use mathlib.Core.Path.{◌≡◌, refl, sym, ◌∙◌, ap, ap₂}
use mathlib.Core.Bool.{Bool, true, false}
use native.Mathlib.Omega.{arith}
use Rattle.outcome.specs.Outcome.{Outcome, given, refused}
use Rattle.calendar.specs.dates.Dates.{is_date}
use Rattle.calendar.specs.declared.dates.Date.{Date}
use Rattle.time_period.specs.steps.Steps.{absent, stepped}
use Rattle.time_period.proofs.steps.Steps.{step-later}
use Rattle.day_fraction.specs.Fractions.{Span}
use Rattle.bond.specs.note.Notes.{note_checks, first_coupon_end}
use Rattle.bond.specs.declared.note.Note.{Note}
use Rattle.bond.proofs.note.Ends.{Accepted, passed, first_end_later}
use Rattle.note_flows.specs.schedule.Schedule.{is_accepted}

pub accepted_note : (n : Note) → is_accepted n ≡ true → Accepted n
unfolding is_accepted
accepted_note n h = by (note_checks true true n) refl h
  where
    by : (o : Outcome Note) → note_checks true true n ≡ o → elim o as (λ x. Bool) [ given m ↦ true | refused k ↦ false ] ≡ true → Accepted n
    by (given m) e q = (passed true true n m e).note
    by (refused k) e q = cc

-- what passes the checks with a position and a table passes them with any
pub passes : (n m : Note) (position table : Bool) → note_checks position table n ≡ given m → is_accepted n ≡ true
unfolding is_accepted
passes n m position table e =
    let p = passed position table n m e in
    let q : note_checks true true n ≡ given m = sym (ap₂ (λ (x y : Bool). note_checks x y n) p.position_in p.table_taken) ∙ e in
    ap (λ (o : Outcome Note). elim o as (λ x. Bool) [ given x ↦ true | refused k ↦ false ]) q

module _ (n : Note) (a : Accepted n) where
  pub first_span : (end : Date) → first_coupon_end n ≡ given end → Span n.issue_date end
  first_span end e =
      let l = first_end_later n end a.issued e in
      record { first = a.issued; last = l.0; order = omega (arith, l.1) }

  pub next_span : (t next : Date) → is_date t ≡ true → stepped n.period absent t ≡ given next → Span t next
  next_span t next d e =
      let l = step-later n.period t next d a.period e in
      record { first = d; last = l.0; order = omega (arith, l.1) }
