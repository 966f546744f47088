-- No second outcome meets a promise: each fixes the answer.
use Rattle.std.specs.Prelude.{ℤ, Result}
use Rattle.std.specs.Prelude.{Result}
use Rattle.outcome.specs.declared.Refusal.{Refusal}
use Prim.Native.Nat.{ℕ}
use mathlib.Core.Path.{◌≡◌, sym, ◌∙◌}
use mathlib.Core.List.{List}
use Rattle.outcome.proofs.Refusals.{same_result}
use Rattle.number_text.specs.read.Reading.{TellsDecimal, TellsUnsigned, TellsSigned, ReadsDecimal, ReadsUnsigned, ReadsSigned}
use Rattle.number_text.proofs.read.Numberings.{same_by}

pub one_read_decimal : (most n : ℕ) (s : List ℕ) (r t : Result ℕ Refusal) → ReadsDecimal most n s r → ReadsDecimal most n s t → r ≡ t
one_read_decimal most n s r t p q = same_result r t (p ∙ sym q)

pub one_read_u32 : (n : ℕ) (s : List ℕ) (r t : Result ℕ Refusal) → ReadsUnsigned n s r → ReadsUnsigned n s t → r ≡ t
one_read_u32 n s r t p q = same_result r t (p ∙ sym q)

pub one_read_i32 : (n : ℕ) (s : List ℕ) (r t : Result ℤ Refusal) → ReadsSigned n s r → ReadsSigned n s t → r ≡ t
one_read_i32 n s r t p q = same_result r t (p ∙ sym q)

-- nor where the refusal that the caller names is any number
pub one_told_decimal : (most n : ℕ) (s : List ℕ) (r t : Result ℕ ℕ) → TellsDecimal most n s r → TellsDecimal most n s t → r ≡ t
one_told_decimal most n s r t p q = same_by (λ m. m) (λ d e h. h) r t (p (λ m. m) ∙ sym (q (λ m. m)))

pub one_told_u32 : (n : ℕ) (s : List ℕ) (r t : Result ℕ ℕ) → TellsUnsigned n s r → TellsUnsigned n s t → r ≡ t
one_told_u32 n s r t p q = same_by (λ m. m) (λ d e h. h) r t (p (λ m. m) ∙ sym (q (λ m. m)))

pub one_told_i32 : (n : ℕ) (s : List ℕ) (r t : Result ℤ ℕ) → TellsSigned n s r → TellsSigned n s t → r ≡ t
one_told_i32 n s r t p q = same_by (λ m. m) (λ d e h. h) r t (p (λ m. m) ∙ sym (q (λ m. m)))
