-- A refusal's number is never 0.
use Prim.Native.Nat.{ℕ}
use mathlib.Core.Bool.{Bool, true}
use mathlib.Core.List.{List}
use native.Mathlib.Omega.{arith}
use lib.Dec.{eqb}
use Rattle.outcome.specs.Outcome.{Numbered, both}
use Rattle.outcome.proofs.Outcomes.{unless_numbered, then_numbered}
use Rattle.bond.proofs.note.OneOutcome.{checks_numbered}
use Rattle.packed_codes.specs.Codes.{units, unit_of_code, conventions, convention_of_code, adjustments, adjustment_of_code}
use Rattle.packed_codes.proofs.Codes.{place_numbered}
use Rattle.packed_layout.specs.NoteLayout.{Name, number_in}
use Rattle.packed_read.specs.note.Codes.{number_good}
use Rattle.packed_read.specs.note.Records.{note_with, note_from}

pub note_numbered : (table : Bool) (ns : List ℕ) → Numbered (note_from table ns)
unfolding note_from
note_numbered table ns =
    unless_numbered (both (number_good (number_in ns Name.digit_count) (number_in ns Name.digits)) (eqb (number_in ns Name.spare) 0)) 18 _ (omega arith)
    (then_numbered (unit_of_code (number_in ns Name.unit)) _ (place_numbered units (number_in ns Name.unit))
    (λ u. then_numbered (convention_of_code (number_in ns Name.day_count)) _ (place_numbered conventions (number_in ns Name.day_count))
    (λ c. then_numbered (adjustment_of_code (number_in ns Name.adjustment)) _ (place_numbered adjustments (number_in ns Name.adjustment))
    (λ a. checks_numbered true table (note_with ns u c a)))))
