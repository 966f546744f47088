-- Text in lent bytes: what stands in the bytes once it is written. The text of a number is that of
-- `number_text`.
use Rattle.std.specs.Prelude.{ℕ, ◌+◌, ◌-◌, ◌≤◌, ◌≡◌, List, ◌++◌, leb, length, take, drop, replicate, Result}
use Rattle.outcome.specs.Outcome.{Outcome, given, refused, returned, unless, and_then, passed_as, pick}
use Rattle.outcome.specs.Refusals.{outcome_of}
use Rattle.outcome.specs.declared.Refusal.{Refusal}
unfoldable pub use Rattle.number_text.specs.length.NumberTexts.{digits, places_within, places, decimal_text, padded_text, signed_text}
use Rattle.number_text.specs.declared.write.Writer.{Writer}
pub use Rattle.number_text.specs.length.NumberTexts.{sign_text, TakesSigned}

-- text behind as many blanks as make it `width` bytes long
unfoldable pub right_aligned : ℕ → List ℕ → List ℕ
right_aligned width xs = replicate (width - length xs) 32 ++ xs

-- the list d with xs in the place of what stands from place at on
unfoldable pub put : List ℕ → ℕ → List ℕ → List ℕ
put d at xs = take at d ++ (xs ++ drop (at + length xs) d)

-- what a writer at a place promises: e is d with xs written at place at, and r is the place past it
abbrev pub Wrote : List ℕ → List ℕ → ℕ → List ℕ → ℕ → Type 0
Wrote d e at xs r = (e ≡ put d at xs) × (r ≡ at + length xs)

-- what a writer asks for: places for xs from where it stands on
abbrev pub HasRoom : Writer → List ℕ → Type 0
HasRoom w xs = w.at + length xs ≤ length w.out.now

-- what it promises: w is v with xs written, over the same lent bytes
pub record Puts (v w : Writer) (xs : List ℕ) : Type 0 where
  pub lent : w.out.ghost_name ≡ v.out.ghost_name
  pub size : length w.out.now ≡ length v.out.now
  pub at : w.at ≡ v.at + length xs
  pub bytes : w.out.now ≡ put v.out.now v.at xs

-- text written at the start of lent bytes: its length, or 16 where the bytes are fewer
unfoldable pub written_length : List ℕ → List ℕ → Outcome ℕ
written_length d xs = unless (leb (length xs) (length d)) 16 (given (length xs))

-- and the bytes after it: the text and then the old ones, or all the old ones where it was refused
unfoldable pub written_bytes : List ℕ → List ℕ → List ℕ
written_bytes d xs = pick (leb (length xs) (length d)) (put d 0 xs) d

-- what every writer promises of the old bytes d, the new bytes e, its text and its outcome
abbrev pub Written : List ℕ → List ℕ → List ℕ → Outcome ℕ → Type 0
Written d e xs r = (r ≡ written_length d xs) × (e ≡ written_bytes d xs)

-- what is returned of it; the zero is no bytes
abbrev pub length_returned : Result ℕ Refusal → ℕ × ℕ
length_returned r = returned 0 (outcome_of r)

-- a text that may be refused: the bytes d once it is written at their start, all the old ones where
-- it was refused
abbrev pub shown_bytes : List ℕ → Outcome (List ℕ) → List ℕ
shown_bytes d (given xs) = written_bytes d xs
shown_bytes d (refused n) = d

-- what its writer promises of the old bytes d, the new bytes e and its answer r: its refusal, then
-- 16, then the text's length
abbrev pub Writes : Outcome (List ℕ) → List ℕ → List ℕ → Result ℕ Refusal → Type 0
Writes o d e r = (outcome_of r ≡ and_then o (written_length d)) × (e ≡ shown_bytes d o)

-- and how many bytes it takes
abbrev pub Takes : Outcome (List ℕ) → Result ℕ Refusal → Type 0
Takes o r = outcome_of r ≡ passed_as length o
