-- The laws of an outcome: the number and the value fix it, and its number is 0 exactly where a
-- value is given.
use Prim.Native.Nat.{ℕ, ◌<◌}
use mathlib.Core.Path.{◌≡◌, refl, sym, ◌∙◌, ap}
use mathlib.Core.Bool.{Bool, true, false}
use native.Mathlib.Omega.{arith}
use lib.Ieee.{binary64, odd, of_fields, of_bits}
use Rattle.outcome.specs.Outcome.{Outcome, given, refused, number, value, returned, plus_zero, unless, and_then, passed_as, Given, Numbered, pick, both}

pub given_injective : {A : Type 0} {a b : A} → given a ≡ given b → a ≡ b
given_injective e = cc

pub refused_injective : {A : Type 0} {m n : ℕ} → ◌≡◌ {A = Outcome A} (refused m) (refused n) → m ≡ n
refused_injective e = cc

pub given_not_refused : {A : Type 0} {a : A} {n : ℕ} → given a ≡ refused n → ⊥
given_not_refused e = let z : ◌≡◌ {A = ℕ} 0 1 = cc in omega arith

-- a promise that names its value has one answer
pub one_value : {A : Type 0} {x : A} (r s : A) → r ≡ x → s ≡ x → r ≡ s
one_value r s p q = p ∙ sym q

-- the answer in code that an outcome is: its value's, or its number's; two answers with one outcome
-- are one
abbrev pub answer_of : {A R : Type 0} → (A → R) → (ℕ → R) → Outcome A → R
answer_of valued numbered (given a) = valued a
answer_of valued numbered (refused n) = numbered n

pub one_answer : {A R : Type 0} (out : R → Outcome A) (valued : A → R) (numbered : ℕ → R) → ((r : R) → answer_of valued numbered (out r) ≡ r) → (r s : R) → out r ≡ out s → r ≡ s
one_answer out valued numbered back r s e = sym (back r) ∙ ap (answer_of valued numbered) e ∙ back s

pub zero_where_given : {A : Type 0} (o : Outcome A) → Given o → number o ≡ 0
zero_where_given (given a) g = refl
zero_where_given (refused n) g = absurd g

pub given_where_zero : {A : Type 0} (o : Outcome A) → Numbered o → number o ≡ 0 → Given o
given_where_zero (given a) h e = h
given_where_zero (refused n) h e = absurd (omega arith)

-- two outcomes with one number and one value are one outcome
pub fixed_by_parts : {A : Type 0} (zero : A) (o p : Outcome A) → Numbered o → Numbered p → number o ≡ number p → value zero o ≡ value zero p → o ≡ p
fixed_by_parts zero (given a) (given b) h k e v = ap given v
fixed_by_parts zero (given a) (refused n) h k e v = absurd (omega arith)
fixed_by_parts zero (refused m) (given b) h k e v = absurd (omega arith)
fixed_by_parts zero (refused m) (refused n) h k e v = ap refused e

-- what an answer returns: a refusal its number and the zero; and one outcome has one pair
pub record Returns {A R : Type 0} (out : R → Outcome A) (zero : A) (pair : R → ℕ × A) : Type 0 where
  pub refusal : (r : R) (n : ℕ) → out r ≡ refused n → pair r ≡ (n, zero)
  pub one_pair : (r s : R) → out r ≡ out s → pair r ≡ pair s

pub returns : {A R : Type 0} (out : R → Outcome A) (zero : A) → Returns out zero (λ r. returned zero (out r))
returns out zero = record { refusal = λ r n e. ap (returned zero) e; one_pair = λ r s e. ap (returned zero) e }

-- the zero of an f64 has the bits 0
pub plus_zero_lem : of_bits binary64 0 ≡ plus_zero
unfolding of_bits of_fields odd
plus_zero_lem = refl

pub unless_numbered : {A : Type 0} (b : Bool) (n : ℕ) (o : Outcome A) → 0 < n → Numbered o → Numbered (unless b n o)
unless_numbered true n o h k = k
unless_numbered false n o h k = h

pub then_numbered : {A B : Type 0} (o : Outcome A) (f : A → Outcome B) → Numbered o → ((a : A) → Numbered (f a)) → Numbered (and_then o f)
then_numbered (given a) f h k = k a
then_numbered (refused n) f h k = h

pub passed_numbered : {A B : Type 0} (form : A → B) (o : Outcome A) → Numbered o → Numbered (passed_as form o)
passed_numbered form (given a) h = h
passed_numbered form (refused n) h = h

pub pick_numbered : {A : Type 0} (b : Bool) (o p : Outcome A) → Numbered o → Numbered p → Numbered (pick b o p)
pick_numbered true o p h k = h
pick_numbered false o p h k = k

-- a value that comes out of a check says that the check held
pub unless-given : {A : Type 0} (b : Bool) (n : ℕ) (o : Outcome A) (a : A) → unless b n o ≡ given a → (b ≡ true) × (o ≡ given a)
unless-given true n o a e = (refl, e)
unless-given false n o a e = let z : ◌≡◌ {A = ℕ} 0 1 = cc in absurd (omega arith)

-- and one that comes out of two steps came out of the first
pub then_given : {A B : Type 0} (o : Outcome A) (f : A → Outcome B) (b : B) → and_then o f ≡ given b → (a : A) × (o ≡ given a) × (f a ≡ given b)
then_given (given a) f b e = (a, refl, e)
then_given (refused n) f b e = absurd (given_not_refused (sym e))

-- what passes in another form was given, or refused alike
pub passed_given : {A B : Type 0} (form : A → B) (o : Outcome A) (b : B) → passed_as form o ≡ given b → (a : A) × (o ≡ given a) × (form a ≡ b)
passed_given form (given a) b e = (a, refl, given_injective e)
passed_given form (refused n) b e = absurd (given_not_refused (sym e))

pub passed_refused : {A B : Type 0} (form : A → B) (o : Outcome A) (n : ℕ) → passed_as form o ≡ refused n → o ≡ refused n
passed_refused form (given a) n e = absurd (given_not_refused e)
passed_refused form (refused m) n e = ap refused (refused_injective e)

pub both_true : (a b : Bool) → both a b ≡ true → (a ≡ true) × (b ≡ true)
both_true true b e = (refl, e)
both_true false b e = let z : ◌≡◌ {A = Bool} false true = e in (z, cc)

-- one of two outcomes by a test, as a recursion writes it, is numbered where both are
pub elim_numbered : {A : Type 0} (b : Bool) (o p : Outcome A) → Numbered o → Numbered p → Numbered {A = A} (elim b [ true ↦ o | false ↦ p ])
elim_numbered true o p h k = h
elim_numbered false o p h k = k

-- a check before a step is a check before both
pub unless_then : {A B : Type 0} (b : Bool) (n : ℕ) (o : Outcome A) (f : A → Outcome B) → and_then (unless b n o) f ≡ unless b n (and_then o f)
unless_then true n o f = refl
unless_then false n o f = refl

-- a step that gives what it has
pub then_same : {A : Type 0} (o : Outcome A) → and_then o given ≡ o
then_same (given a) = refl
then_same (refused n) = refl

-- nothing but n is refused
abbrev pub Only : {A : Type 0} → ℕ → Outcome A → Type 0
Only n o = (m : ℕ) → o ≡ refused m → m ≡ n

module _ {A : Type 0} (n : ℕ) where
  pub only-given : (a : A) → Only n (given a)
  only-given a m e = absurd (given_not_refused e)

  pub only-refused : Only {A = A} n (refused n)
  only-refused m e = sym (refused_injective e)

  pub only-unless : (b : Bool) (o : Outcome A) → Only n o → Only n (unless b n o)
  only-unless true o h = h
  only-unless false o h = only-refused

  pub only-pick : (b : Bool) (o p : Outcome A) → Only n o → Only n p → Only n (pick b o p)
  only-pick true o p h k = h
  only-pick false o p h k = k

  pub only_then : {B : Type 0} (o : Outcome A) (f : A → Outcome B) → Only n o → ((a : A) → Only n (f a)) → Only n (and_then o f)
  only_then (given a) f h k m e = k a m e
  only_then (refused j) f h k m e = h m (ap refused (refused_injective e))
