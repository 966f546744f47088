-- No second answer satisfies an entry point's promise; and a refusal's number is never 0.
use Rattle.calendar.specs.declared.dates.Date.{Date}
use Rattle.std.specs.Prelude.{Result}
use mathlib.Core.Path.{◌≡◌, sym, ◌∙◌}
use mathlib.Core.Bool.{Bool, true, not}
use native.Mathlib.Omega.{arith}
use lib.IntN.{pos}
use lib.Signed.{le_z}
use lib.Ieee.{Float}
use Rattle.outcome.specs.Outcome.{Numbered, both}
use Rattle.outcome.specs.Refusals.{outcome_of}
use Rattle.outcome.specs.declared.Refusal.{Refusal}
use Rattle.outcome.proofs.Outcomes.{unless_numbered, then_numbered, one_value, Returns, returns}
use Rattle.outcome.proofs.Refusals.{same_result}
use Rattle.calendar.specs.dates.Dates.{is_date}
use Rattle.date_step.specs.Steps.{existing_date}
use Rattle.time_period.specs.steps.Steps.{needs_table}
use Rattle.coupon_date.specs.Coupons.{coupon_date_of}
use Rattle.coupon_date.proofs.OneOutcome.{new_numbered}
use Rattle.cash_flow.specs.currency.Amounts.{is_currency}
use Rattle.bond.specs.limits.Limits.{is_note_number, is_coupon_rate}
use Rattle.bond.specs.note.Notes.{note_zero, note_returned, interest_on, nominal_of, coupon_amount, period_checks, term_checks, note_checks, in_year_of, first_coupon_end, PositionPromise, ChecksPromise, NotePromise, FirstEndPromise}
use Rattle.bond.specs.declared.note.Note.{Note}

-- a refusal returns its number and the zero
pub note-returned : Returns outcome_of note_zero note_returned
note-returned = returns outcome_of note_zero

pub one_checks : (position table : Bool) (n : Note) (r s : Result Note Refusal) → ChecksPromise position table n r → ChecksPromise position table n s → r ≡ s
one_checks position table n r s p q = same_result r s (p ∙ sym q)

pub one-note : (n : Note) (r s : Result Note Refusal) → NotePromise n r → NotePromise n s → r ≡ s
one-note n r s p q = one_checks true true n r s p q

pub one_first_end : (n : Note) (r s : Result Date Refusal) → FirstEndPromise n r → FirstEndPromise n s → r ≡ s
one_first_end n r s p q = same_result r s (p ∙ sym q)

pub checks_numbered : (position table : Bool) (n : Note) → Numbered (note_checks position table n)
unfolding note_checks term_checks period_checks
checks_numbered position table n =
    unless_numbered (is_note_number n.number) 18 _ (omega arith)
    (unless_numbered (both (is_coupon_rate n.rate) position) 15 _ (omega arith)
    (unless_numbered (is_currency n.currency) 17 _ (omega arith)
    (unless_numbered (both (is_date n.issue_date) (is_date n.maturity)) 1 _ (omega arith)
    (then_numbered (coupon_date_of n.coupon_date.day n.coupon_date.month) (λ c. period_checks table n) (new_numbered n.coupon_date.day n.coupon_date.month)
    (λ c. unless_numbered table 13 _ (omega arith)
    (unless_numbered (le_z (pos 1) n.period.num) 14 _ (omega arith)
    (unless_numbered (not (needs_table n.period.unit)) 12 _ (omega arith) (omega arith))))))))

pub first_end_numbered : (n : Note) → Numbered (first_coupon_end n)
unfolding first_coupon_end in_year_of existing_date
first_end_numbered n = unless_numbered (is_date _) 1 _ (omega arith) (omega arith)

-- and of the promises that are equations
pub one-is_position : (x : Float) (r s : Bool) → PositionPromise x r → PositionPromise x s → r ≡ s
one-is_position x r s p q = one_value r s p q

pub one_interest : (nominal rate fraction r s : Float) → r ≡ interest_on nominal rate fraction → s ≡ interest_on nominal rate fraction → r ≡ s
one_interest nominal rate fraction r s p q = one_value r s p q

pub one_nominal : (position : Float) (n : Note) (r s : Float) → r ≡ nominal_of position n → s ≡ nominal_of position n → r ≡ s
one_nominal position n r s p q = one_value r s p q

pub one-coupon_amount : (position : Float) (n : Note) (fraction r s : Float) → r ≡ coupon_amount position n fraction → s ≡ coupon_amount position n fraction → r ≡ s
one-coupon_amount position n fraction r s p q = one_value r s p q
