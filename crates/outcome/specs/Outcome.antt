-- What every entry point answers: a value, or the number of a refusal; and what the paper returns
-- of it: the number, and the value or its zero.
use Rattle.std.specs.Prelude.{ℕ, ◌<◌, Bool, true, false, pos, Float}
use Rattle.std.specs.Float.{fin}

pub data Outcome (A : Type 0) : Type 0 where
  given : A → Outcome A
  refused : ℕ → Outcome A

-- the number that is returned: the refusal's, or 0 where a value is given
abbrev pub number : {A : Type 0} → Outcome A → ℕ
number (given a) = 0
number (refused n) = n

-- the value that is returned: the one given, or the zero in its place
abbrev pub value : {A : Type 0} → A → Outcome A → A
value zero (given a) = a
value zero (refused n) = zero

-- both, as the paper returns them; a refusal its number and the zero
abbrev pub returned : {A : Type 0} → A → Outcome A → ℕ × A
returned zero o = (number o, value zero o)

-- the zero of an f64: +0.0
abbrev pub plus_zero : Float
plus_zero = fin false 0 (pos 0)

-- a check in its place in the order: unless it holds, refused n; then the rest
abbrev pub unless : {A : Type 0} → Bool → ℕ → Outcome A → Outcome A
unless true n rest = rest
unless false n rest = refused n

-- a step in its place in the order: its refusal ends it, its value goes on
abbrev pub and_then : {A B : Type 0} → Outcome A → (A → Outcome B) → Outcome B
and_then (given a) next = next a
and_then (refused n) next = refused n

-- a value that passes in another form
abbrev pub passed_as : {A B : Type 0} → (A → B) → Outcome A → Outcome B
passed_as form o = and_then o (λ a. given (form a))

-- a value is given
abbrev pub Given : {A : Type 0} → Outcome A → Type 0
Given (given a) = 0 < 1
Given (refused n) = ⊥

-- a refusal's number is never 0
abbrev pub Numbered : {A : Type 0} → Outcome A → Type 0
Numbered (given a) = 0 < 1
Numbered (refused n) = 0 < n

-- one of two things, by a test; and two tests at once
abbrev pub pick : {A : Type 0} → Bool → A → A → A
pick true a b = a
pick false a b = b

abbrev pub both : Bool → Bool → Bool
both true b = b
both false b = false
