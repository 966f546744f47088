-- Laws of a text that may be refused: what answers to its length and to writing it there are, and
-- what a refusal keeps.
use Prim.Native.Nat.{ℕ, ◌≤◌, ◌<◌}
use mathlib.Core.Path.{◌≡◌, refl, sym, ◌∙◌}
use mathlib.Core.Bool.{Bool, true, false}
use mathlib.Core.List.{List}
use lib.Dec.{leb}
use lib.ListN.{length}
use Rattle.outcome.specs.Outcome.{Outcome, given, refused, unless, and_then, passed_as, pick, Numbered}
use Rattle.outcome.specs.Refusals.{number_of, outcome_of}
use Rattle.outcome.specs.declared.Refusal.{Refusal}
use Rattle.outcome.proofs.Outcomes.{given_not_refused, passed_given, passed_refused, then_numbered}
use Rattle.outcome.proofs.Refusals.{refused_on}
use Rattle.std.specs.Prelude.{Result}
use Rattle.std.specs.Result.{IsErrAnd}
use Rattle.number_text.specs.declared.write.Writer.{Writer}
use native.Mathlib.Omega.{arith}
use Rattle.number_text.specs.write.Writing.{put, Wrote, Puts, written_length, written_bytes, shown_bytes}
use Rattle.number_text.proofs.write.Writers.{written_fits, written_by, written_refused, written_numbered}

module _ (o : Outcome (List ℕ)) (d : List ℕ) where
  -- written with room, not written without it, refused
  pub writes_all : (xs e : List ℕ) (r : ℕ) → o ≡ given xs → Wrote d e 0 xs r → length xs ≤ length d → (given r ≡ and_then o (written_length d)) × (e ≡ shown_bytes d o)
  writes_all xs e r q w h = rw (q) (written_fits d e xs r w h)

  pub writes_short : (xs : List ℕ) → o ≡ given xs → length d < length xs → (refused 16 ≡ and_then o (written_length d)) × (d ≡ shown_bytes d o)
  writes_short xs q h = rw (q) (written_refused d xs h)

  pub writes_none : (n : ℕ) → o ≡ refused n → (refused n ≡ and_then o (written_length d)) × (d ≡ shown_bytes d o)
  writes_none n q = rw (q) (refl, refl)

  -- where the length was asked first: its refusal handed on, room too short for it, and a writer that
  -- began at the first of the bytes d and left e
  pub handed_none : (r : Result ℕ Refusal) (n : Refusal) → IsErrAnd r (λ m. m ≡ n) → refused (number_of n) ≡ passed_as length o → (outcome_of r ≡ and_then o (written_length d)) × (d ≡ shown_bytes d o)
  handed_none r n h e =
      let w = writes_none (number_of n) (passed_refused length o (number_of n) (sym e)) in
      (refused_on r n h ∙ w.0, w.1)

  pub length_short : (k : ℕ) → given k ≡ passed_as length o → length d < k → (refused 16 ≡ and_then o (written_length d)) × (d ≡ shown_bytes d o)
  length_short k e h = let p = passed_given length o k (sym e) in writes_short p.0 p.1 (omega (arith, p.2))

  pub shown_by : (xs e : List ℕ) (v w : Writer) → o ≡ given xs → v.out.now ≡ d → v.at ≡ 0 → Puts v w xs → length xs ≤ length d → e ≡ w.out.now → (given w.at ≡ and_then o (written_length d)) × (e ≡ shown_bytes d o)
  shown_by xs e v w q p z s h k = rw (q) (written_by d e xs v w p z s h k)

  pub writes_numbered : Numbered o → Numbered (and_then o (written_length d))
  writes_numbered h = then_numbered o (written_length d) h (written_numbered d)

-- a refusal leaves the bytes as they were
room_kept : (l : Bool) (n k : ℕ) (d e : List ℕ) → unless l 16 (given k) ≡ refused n → pick l e d ≡ d
room_kept true n k d e q = absurd (given_not_refused q)
room_kept false n k d e q = refl

pub refused-kept : (o : Outcome (List ℕ)) (d : List ℕ) (n : ℕ) → and_then o (written_length d) ≡ refused n → shown_bytes d o ≡ d
unfolding written_length written_bytes
refused-kept (given xs) d n q = room_kept (leb (length xs) (length d)) n (length xs) d (put d 0 xs) q
refused-kept (refused m) d n q = refl
