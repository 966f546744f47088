-- No second outcome meets a promise: each fixes the answer and the bytes.
use Rattle.std.specs.Prelude.{Result}
use Prim.Native.Nat.{ℕ}
use mathlib.Core.Path.{◌≡◌, sym, ◌∙◌}
use mathlib.Core.List.{List}
use Rattle.outcome.specs.Outcome.{Outcome}
use Rattle.outcome.specs.Refusals.{outcome_of}
use Rattle.outcome.specs.declared.Refusal.{Refusal}
use Rattle.outcome.proofs.Outcomes.{Returns, returns}
use Rattle.outcome.proofs.Refusals.{same_result}
use Rattle.number_text.specs.declared.write.Writer.{Writer}
use Rattle.number_text.specs.write.Writing.{Wrote, Puts, Written, length_returned, Writes, Takes}

-- a refusal returns its number and the zero
pub length-returned : Returns outcome_of 0 length_returned
length-returned = returns outcome_of 0

-- ---- writers: the answer and the bytes, whatever the text

pub one_written : (d e f xs : List ℕ) (o p : Outcome ℕ) → Written d e xs o → Written d f xs p → (o ≡ p) × (e ≡ f)
one_written d e f xs o p v w = (v.0 ∙ sym w.0, v.1 ∙ sym w.1)

pub one_write : (d e f xs : List ℕ) (r t : Result ℕ Refusal) → Written d e xs (outcome_of r) → Written d f xs (outcome_of t) → (r ≡ t) × (e ≡ f)
one_write d e f xs r t v w = (same_result r t (v.0 ∙ sym w.0), v.1 ∙ sym w.1)

-- and of a text that may be refused
pub one_writes : (o : Outcome (List ℕ)) (d e f : List ℕ) (r s : Result ℕ Refusal) → Writes o d e r → Writes o d f s → (r ≡ s) × (e ≡ f)
one_writes o d e f r s p q = (same_result r s (p.0 ∙ sym q.0), p.1 ∙ sym q.1)

pub one_takes : (o : Outcome (List ℕ)) (r s : Result ℕ Refusal) → Takes o r → Takes o s → r ≡ s
one_takes o r s p q = same_result r s (p ∙ sym q)

pub one_wrote : (d e f : List ℕ) (at : ℕ) (xs : List ℕ) (r t : ℕ) → Wrote d e at xs r → Wrote d f at xs t → (e ≡ f) × (r ≡ t)
one_wrote d e f at xs r t v w = (v.0 ∙ sym w.0, v.1 ∙ sym w.1)

-- of writers that began as one
pub one_put : (u v w : Writer) (xs : List ℕ) → Puts u v xs → Puts u w xs → (v.out.now ≡ w.out.now) × (v.at ≡ w.at)
one_put u v w xs p q = (p.bytes ∙ sym q.bytes, p.at ∙ sym q.at)
