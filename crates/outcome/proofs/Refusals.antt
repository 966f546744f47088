-- The laws of refusals: a number stands for one, and the outcome of a result fixes the result.
use Prim.Native.Nat.{ℕ, ◌-◌, ◌<◌}
use mathlib.Core.Path.{◌≡◌, refl, sym, ◌∙◌, ap}
use native.Mathlib.Omega.{arith}
use Rattle.std.specs.Result.{IsErrAnd}
use Rattle.std.proofs.lemmas.Result.{err_from_is_err_and}
use Rattle.std.specs.Prelude.{[], ◌∷◌, get_or, Result, Ok, Err}
use Rattle.outcome.specs.Outcome.{Outcome, given, refused, and_then, Numbered}
use Rattle.outcome.specs.Refusals.{number_of, outcome_of}
use Rattle.outcome.specs.declared.Refusal.{Refusal}
use Rattle.outcome.specs.declared.Refusal.TheVariants.{InvalidDate, PeriodTooShort, InvalidUnit, InvalidPeriod, NoFrequency, CouponParseError, DayOutOfRange, DayTooBig, Impossible360, IcmaMissingRollDate, IcmaMissingTimePeriod, MissingCalendar, BadHolidayTable, PeriodBelowOne, NumberOutOfLimits, TooFewPlaces, BadCurrency, MalformedRecord, StartAfterEnd}

-- the refusal of a number
abbrev refusal_of : ℕ → Refusal
refusal_of n = get_or (InvalidDate ∷ PeriodTooShort ∷ InvalidUnit ∷ InvalidPeriod ∷ NoFrequency ∷ CouponParseError ∷ DayOutOfRange ∷ DayTooBig ∷ Impossible360 ∷ IcmaMissingRollDate ∷ IcmaMissingTimePeriod ∷ MissingCalendar ∷ BadHolidayTable ∷ PeriodBelowOne ∷ NumberOutOfLimits ∷ TooFewPlaces ∷ BadCurrency ∷ MalformedRecord ∷ StartAfterEnd ∷ []) (n - 1) InvalidDate

refusal_of_number : (e : Refusal) → refusal_of (number_of e) ≡ e
refusal_of_number InvalidDate = refl
refusal_of_number PeriodTooShort = refl
refusal_of_number InvalidUnit = refl
refusal_of_number InvalidPeriod = refl
refusal_of_number NoFrequency = refl
refusal_of_number CouponParseError = refl
refusal_of_number DayOutOfRange = refl
refusal_of_number DayTooBig = refl
refusal_of_number Impossible360 = refl
refusal_of_number IcmaMissingRollDate = refl
refusal_of_number IcmaMissingTimePeriod = refl
refusal_of_number MissingCalendar = refl
refusal_of_number BadHolidayTable = refl
refusal_of_number PeriodBelowOne = refl
refusal_of_number NumberOutOfLimits = refl
refusal_of_number TooFewPlaces = refl
refusal_of_number BadCurrency = refl
refusal_of_number MalformedRecord = refl
refusal_of_number StartAfterEnd = refl

-- a refusal's number is never 0
pub number_above_zero : (e : Refusal) → 0 < number_of e
number_above_zero e = elim e as (λ d. 0 < number_of d) [ InvalidDate ↦ omega arith | PeriodTooShort ↦ omega arith | InvalidUnit ↦ omega arith | InvalidPeriod ↦ omega arith | NoFrequency ↦ omega arith | CouponParseError ↦ omega arith | DayOutOfRange ↦ omega arith | DayTooBig ↦ omega arith | Impossible360 ↦ omega arith | IcmaMissingRollDate ↦ omega arith | IcmaMissingTimePeriod ↦ omega arith | MissingCalendar ↦ omega arith | BadHolidayTable ↦ omega arith | PeriodBelowOne ↦ omega arith | NumberOutOfLimits ↦ omega arith | TooFewPlaces ↦ omega arith | BadCurrency ↦ omega arith | MalformedRecord ↦ omega arith | StartAfterEnd ↦ omega arith ]

pub same_refusal : (d e : Refusal) → number_of d ≡ number_of e → d ≡ e
same_refusal d e h = sym (refusal_of_number d) ∙ ap refusal_of h ∙ refusal_of_number e

-- the result of an outcome
abbrev result_of : {A : Type 0} → Outcome A → Result A Refusal
result_of (given a) = Ok a
result_of (refused n) = Err (refusal_of n)

result_of_outcome : {A : Type 0} (r : Result A Refusal) → result_of (outcome_of r) ≡ r
result_of_outcome (Ok a) = refl
result_of_outcome (Err e) = ap Err (refusal_of_number e)

-- two results with one outcome are one
pub same_result : {A : Type 0} (r s : Result A Refusal) → outcome_of r ≡ outcome_of s → r ≡ s
same_result r s h = sym (result_of_outcome r) ∙ ap result_of h ∙ result_of_outcome s

pub outcome_numbered : {A : Type 0} (r : Result A Refusal) → Numbered (outcome_of r)
outcome_numbered (Ok a) = omega arith
outcome_numbered (Err e) = number_above_zero e

-- what a `?` hands on: the refusal that it met
pub refused_on : {A : Type 0} (r : Result A Refusal) (e : Refusal) → IsErrAnd r (λ d. d ≡ e) → outcome_of r ≡ refused (number_of e)
refused_on r e h = let p = err_from_is_err_and r h in rw (p.1, p.2)

pub handed_on : {A B : Type 0} {o : Outcome A} (r : Result B Refusal) (e : Refusal) (next : A → Outcome B) → IsErrAnd r (λ d. d ≡ e) → refused (number_of e) ≡ o → outcome_of r ≡ and_then o next
handed_on r e next h k = refused_on r e h ∙ ap (λ o. and_then o next) k
