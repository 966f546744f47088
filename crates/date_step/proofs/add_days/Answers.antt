-- `add_days` meets its contract: a move of more than the calendar leads out of it, and any other is
-- that of a date that exists.
use Rattle.std.proofs.Common.{◌≡◌, ◌∙◌, ap, ℕ, arith, ℤ, pos, ◌+ℤ◌}
use mir.Facts.{to_z-of_z}
use Rattle.outcome.specs.Outcome.{Outcome, given, refused, and_then}
use Rattle.outcome.proofs.Refusals.{handed_on}
use Rattle.calendar.specs.dates.Dates.{day_number}
use Rattle.calendar.specs.serial.Answers.{date_of}
use Rattle.calendar.specs.declared.dates.Date.{Date}
use Rattle.calendar.proofs.dates.Dates.{date-yes, number-to}
use Rattle.date_step.specs.Steps.{from_zero_to, existing_date, add_days, days_later}
use Rattle.date_step.proofs.Landing.{far_back, far_on, near}
use Rattle.date_step.proofs.Steps.{existing_gives, existing_then}
use Rattle.date_step.proofs.add_days.Goals as goal
use Rattle.date_step.proofs.add_days.Goals.{then-n-ltminus3652059-via-then-n-ltminus3652059, then-n-ltminus3652059-via-else-n-ltminus3652059+then-n-gt3652059}

-- a move that leads out of the calendar
out : (t u : Date) (n : ℤ) → given u ≡ existing_date t → refused 1 ≡ from_zero_to 3652059 (pos (day_number u) +ℤ n) → refused 1 ≡ add_days t n
unfolding add_days days_later
out t u n g e =
    let next : Date → Outcome Date = λ v. days_later v n in
    ap (λ (o : Outcome ℕ). and_then o (λ k. date_of (record { 0 = k }))) e ∙ ap (λ (o : Outcome Date). and_then o next) g ∙ existing_then t next

pub returns-in_err-t : goal.returns-in_err-t
unfolding add_days
returns-in_err-t c =
    let next : Date → Outcome Date = λ t. days_later t c.args.n in
    handed_on _ _ next c.from_residual.ensures.1 c.in_err-t.ensures ∙ existing_then c.args.t next

pub returns-then-n-ltminus3652059 : goal.returns-then-n-ltminus3652059
returns-then-n-ltminus3652059 c =
    let n = c.args.n in
    let u = c.in_ok-t.t in
    let h = number-to u (date-yes u (existing_gives _ _ c.in_ok-t.ensures)) in
    out c.args.t u n c.in_ok-t.ensures
    (elim c.then-n-ltminus3652059.branch [
      | then-n-ltminus3652059-via-then-n-ltminus3652059 w ↦ far_back 3652059 (day_number u) 3652059 h (omega arith) n (rw (to_z-of_z c.ranges.n) at w.if-n-ltminus3652059.true)
      | then-n-ltminus3652059-via-else-n-ltminus3652059+then-n-gt3652059 w ↦ far_on 3652059 (day_number u) 3652059 h (omega arith) n (rw (to_z-of_z c.ranges.n) at w.if-n-gt3652059.true)
    ])

pub days_later-requires : goal.days_later-requires
days_later-requires c =
    let e = to_z-of_z c.ranges.n in
    (existing_gives _ _ c.in_ok-t.ensures, rw e (near c.args.n (rw e at c.if-n-ltminus3652059.false) (rw e at c.if-n-gt3652059.false)))

pub returns : goal.returns
unfolding add_days
returns c =
    let next : Date → Outcome Date = λ t. days_later t c.args.n in
    c.days_later.ensures ∙ ap (days_later c.in_ok-t.t) (to_z-of_z c.ranges.n) ∙ ap (λ (o : Outcome Date). and_then o next) c.in_ok-t.ensures ∙ existing_then c.args.t next
