-- Laws of the outcomes by a numbering of the refusals: what the readers promise of the refusals of
-- documents 01 and 02, and of a refusal that is a number.
use Prim.Native.Nat.{ℕ}
use mathlib.Core.Path.{◌≡◌, refl, sym, ap}
use mathlib.Core.List.{List}
use Rattle.std.specs.Prelude.{ℤ, Result, Ok, Err}
use Rattle.std.specs.Result.{IsErrAnd}
use Rattle.std.proofs.lemmas.Result.{err_from_is_err_and}
use Rattle.outcome.specs.Outcome.{Outcome, refused, and_then}
use Rattle.outcome.proofs.Outcomes.{given_injective, refused_injective, given_not_refused}
use Rattle.outcome.specs.Refusals.{number_of, outcome_of}
use Rattle.outcome.specs.declared.Refusal.{Refusal}
use Rattle.number_text.specs.read.Reading.{decimal_number, unsigned_number, signed_number, outcome_by, TellsDecimal, TellsUnsigned, TellsSigned, ReadsDecimal, ReadsUnsigned, ReadsSigned}

-- what a `?` hands on: the refusal that it met
pub handed_by : {A B E : Type 0} {o : Outcome A} (f : E → ℕ) (r : Result B E) (e : E) (next : A → Outcome B) → IsErrAnd r (λ d. d ≡ e) → refused (f e) ≡ o → outcome_by f r ≡ and_then o next
handed_by f r e next h k =
    let p = err_from_is_err_and r h in
    rw (p.1, p.2) (ap (λ o. and_then o next) k)

-- two results with one outcome are one, where the numbering tells refusals apart
pub same_by : {A E : Type 0} (f : E → ℕ) → ((d e : E) → f d ≡ f e → d ≡ e) → (r t : Result A E) → outcome_by f r ≡ outcome_by f t → r ≡ t
same_by f apart (Ok a) (Ok b) h = ap Ok (given_injective h)
same_by f apart (Ok a) (Err e) h = absurd (given_not_refused h)
same_by f apart (Err d) (Ok b) h = absurd (given_not_refused (sym h))
same_by f apart (Err d) (Err e) h = ap Err (apart d e (refused_injective h))

-- with the numbers of documents 01 and 02 it is the outcome
outcome_by_number : {A : Type 0} (r : Result A Refusal) → outcome_by number_of r ≡ outcome_of r
outcome_by_number (Ok a) = refl
outcome_by_number (Err e) = refl

pub reads_decimal : (most : ℕ) (e : Refusal) (s : List ℕ) (r : Result ℕ Refusal) → TellsDecimal most e s r → ReadsDecimal most (number_of e) s r
reads_decimal most e s r h = rw (← outcome_by_number r) (h number_of)

pub reads_unsigned : (e : Refusal) (s : List ℕ) (r : Result ℕ Refusal) → TellsUnsigned e s r → ReadsUnsigned (number_of e) s r
reads_unsigned e s r h = rw (← outcome_by_number r) (h number_of)

pub reads_signed : (e : Refusal) (s : List ℕ) (r : Result ℤ Refusal) → TellsSigned e s r → ReadsSigned (number_of e) s r
reads_signed e s r h = rw (← outcome_by_number r) (h number_of)

-- a refusal that is a number is that number, a refusal's of documents 01 and 02 or not
pub numbered_decimal : (most n : ℕ) (s : List ℕ) (r : Result ℕ ℕ) → TellsDecimal most n s r → outcome_by (λ m. m) r ≡ decimal_number most n s
numbered_decimal most n s r h = h (λ m. m)

pub numbered_unsigned : (n : ℕ) (s : List ℕ) (r : Result ℕ ℕ) → TellsUnsigned n s r → outcome_by (λ m. m) r ≡ unsigned_number n s
numbered_unsigned n s r h = h (λ m. m)

pub numbered_signed : (n : ℕ) (s : List ℕ) (r : Result ℤ ℕ) → TellsSigned n s r → outcome_by (λ m. m) r ≡ signed_number n s
numbered_signed n s r h = h (λ m. m)
