-- The text of a period: its length, and that it reads back.
use Prim.Native.Nat.{ℕ, ◌+◌, ◌-◌, ◌≤◌}
use mathlib.Core.Path.{◌≡◌, refl, sym, ◌∙◌, ap}
use mathlib.Core.List.{List, [], ◌∷◌, ◌++◌}
use native.Mathlib.Omega.{arith}
use lib.ListN.{length, take, length-append}
use lib.Seq.{take_at, get_or_at}
use lib.IntN.{nat_abs}
use mir.Syntax.{w32}
use mir.Val.{SFits}
use borrow.Author.Tests.{le-leb}
use Rattle.outcome.specs.Outcome.{given}
use Rattle.number_text.specs.write.Writing.{signed_text, Written}
use Rattle.number_text.proofs.length.Digits.{places-some, length_decimal}
use Rattle.number_text.proofs.length.Signs.{length-signed}
use Rattle.number_text.proofs.write.Writers.{written_text}
use Rattle.number_text.proofs.length.RoundTrips.{signed_back}
use Rattle.term_text.specs.period.PeriodTexts.{unit_of_letter, number_part, period_read, letter_of, period_text}
use Rattle.time_period.specs.declared.steps.TimePeriodUnit.{TimePeriodUnit}
use Rattle.time_period.specs.declared.steps.TimePeriodUnit.TheVariants.{Daily, BusinessDaily, Weekly, Monthly, Annual}
use Rattle.time_period.specs.declared.steps.TimePeriod.{TimePeriod}

pub text_length : (p : TimePeriod) → length (period_text p) ≡ length (signed_text p.num) + 1
unfolding period_text
text_length p = length-append (signed_text p.num) (letter_of p.unit ∷ [])

-- each letter is its unit's
letter_back : (u : TimePeriodUnit) → unit_of_letter (letter_of u) ≡ given u
unfolding unit_of_letter
letter_back Daily = refl
letter_back BusinessDaily = refl
letter_back Weekly = refl
letter_back Monthly = refl
letter_back Annual = refl

-- what is written is read back as the same period
pub round_trip : (p : TimePeriod) → SFits w32 p.num → period_read (period_text p) ≡ given p
unfolding period_read number_part period_text
round_trip p f =
    let s = signed_text p.num in
    let b = letter_of p.unit in
    let some : 1 ≤ length s = omega (arith, length-signed p.num, length_decimal (nat_abs p.num), places-some (nat_abs p.num)) in
    let long = length-append s (b ∷ []) in
    let k : length (s ++ (b ∷ [])) - 1 ≡ length s = omega arith in
    rw (le-leb 2 (length (s ++ (b ∷ []))) (omega arith), get_or_at s b [] 0 _ (sym k), letter_back p.unit, take_at s (b ∷ []) _ (sym k), signed_back 4 p.num f)

-- from the lent bytes too
pub written_back : (p : TimePeriod) (d e : List ℕ) (k : ℕ) → SFits w32 p.num → Written d e (period_text p) (given k) → period_read (take k e) ≡ given p
written_back p d e k f w = ap period_read (written_text d e (period_text p) k w) ∙ round_trip p f
