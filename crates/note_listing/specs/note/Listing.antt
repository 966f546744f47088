-- The listing: what the program writes of the bytes that it reads.
use Rattle.std.specs.Prelude.{ℕ, List, pos, Float, Result}
use Rattle.std.specs.Float.{binary64}
use Rattle.std.specs.Float.Ieee.{of_int}
use Rattle.outcome.specs.Outcome.{Outcome, and_then}
use Rattle.outcome.specs.Refusals.{outcome_of}
use Rattle.outcome.specs.declared.Refusal.{Refusal}
use Rattle.number_text.specs.write.Writing.{Written}
use Rattle.rollout.specs.plain.Rollout.{fitted_in}
use Rattle.note_listing.specs.lines.Lines.{lines_of, answer_text}
use Rattle.packed_read.specs.packed.Notes.{Unpacked, unpacked}

-- position 1, with 2,000 places for flows
abbrev pub one : Float
one = of_int binary64 (pos 1)

unfoldable pub note_lines : Unpacked → Outcome (List ℕ)
note_lines p = and_then (fitted_in p.note one p.days 2000) lines_of

-- the program reads both from standard input
unfoldable pub listing : List ℕ → List ℕ
listing s = answer_text (and_then (unpacked s) note_lines)

-- what is promised of the bytes s, the old and the new bytes d and e, and the answer r: all of the
-- listing, or 16
abbrev pub ListPromise : List ℕ → List ℕ → List ℕ → Result ℕ Refusal → Type 0
ListPromise s d e r = Written d e (listing s) (outcome_of r)
