-- No second answer and no other bytes satisfy the promise; what is written stands in the bytes; and
-- 662,000 bytes are always enough.
use Rattle.std.specs.Prelude.{Result, Ok}
use mathlib.Core.Path.{◌≡◌, refl, sym, ap, subst, ◌∙◌}
use mathlib.Core.List.{List}
use Prim.Native.Nat.{ℕ, ◌≤◌}
use native.Mathlib.Omega.{arith}
use lib.ListN.{length}
use Rattle.number_text.specs.write.Writing.{put}
use Rattle.outcome.specs.declared.Refusal.{Refusal}
use Rattle.outcome.proofs.Refusals.{same_result}
use Rattle.number_text.proofs.write.Putting.{length-put}
use Rattle.number_text.proofs.write.Writers.{written_fits, written_given}
use Rattle.number_text.proofs.write.OneOutcome.{one_write}
use Rattle.note_listing.specs.note.Listing.{listing, ListPromise}

-- the answer and the bytes
pub one-listing : (s d e f : List ℕ) (r t : Result ℕ Refusal) → ListPromise s d e r → ListPromise s d f t → (r ≡ t) × (e ≡ f)
one-listing s d e f r t p q = one_write d e f (listing s) r t p q

pub listed_within : (s d e : List ℕ) (r : Result ℕ Refusal) (m : ℕ) → r ≡ Ok m → ListPromise s d e r → m ≤ length e
listed_within s d e r m f p =
    let w = written_given d e (listing s) m (subst (λ (x : Result ℕ Refusal). ListPromise s d e x) f p) in
    omega (arith, w.0, w.1, ap length w.2, length-put d 0 (listing s) (omega (arith, w.1)))

-- of 662,000 bytes no listing asks more, so that 16 is not answered
pub room_enough : (s d e : List ℕ) (r : Result ℕ Refusal) → ListPromise s d e r → length (listing s) ≤ 662000 → 662000 ≤ length d → r ≡ Ok (length (listing s))
room_enough s d e r p h k = same_result r (Ok (length (listing s))) (p.0 ∙ sym (written_fits d (put d 0 (listing s)) (listing s) (length (listing s)) (refl, omega arith) (omega arith)).0)
