-- What the inner functions hand each other; no promise of an entry point rests on this.
use Rattle.std.specs.Prelude.{ℕ, ◌≤◌, ◌≡◌, List, length, take, Float}
use Rattle.outcome.specs.Outcome.{Outcome, given, refused, passed_as}
use Rattle.bond.specs.declared.note.Note.{Note}
use Rattle.packed_read.specs.packed.Notes.{Unpacked}
use Rattle.note_listing.specs.lines.Lines.{lines_of}
use Rattle.note_listing.specs.lines.Inner.{flows_shown}
use Rattle.note_listing.specs.declared.note.Measure.{Measure}

-- a note and its holidays
abbrev pub with_days : Note → List ℕ → Unpacked
with_days n table = record { note = n; days = table }

-- the flows that a note's lines o show stand in front of two lists, and m measures these lines
pub record IsMeasure (o : Outcome (List ℕ)) (days : List ℕ) (amounts : List Float) (m : Measure) : Type 0 where
  pub days-long : m.flows ≤ length days
  pub amounts_long : m.flows ≤ length amounts
  pub lines : o ≡ lines_of (flows_shown m.currency (take m.flows days) (take m.flows amounts))
  pub bytes : given m.bytes ≡ passed_as length (lines_of (flows_shown m.currency (take m.flows days) (take m.flows amounts)))
  pub short : m.bytes ≤ 662000

-- or there are no lines
abbrev pub Measures : Outcome (List ℕ) → List ℕ → List Float → Outcome Measure → Type 0
Measures o days amounts (given m) = IsMeasure o days amounts m
Measures o days amounts (refused k) = o ≡ refused k
