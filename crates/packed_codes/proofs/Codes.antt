-- Codes as places in a list: one law for the three tables, and what each table gives.
use Prim.Native.Nat.{ℕ, zero, suc, ◌≤◌, ◌<◌}
use mathlib.Core.Path.{◌≡◌, refl, sym, ap, ◌∙◌}
use mathlib.Core.List.{List, [], ◌∷◌, map}
use native.Mathlib.Nat.{zero-add}
use native.Mathlib.Omega.{arith}
use lib.ListN.{length, get_or, get_or-map}
use Rattle.outcome.specs.Lists.{values_from}
use Rattle.outcome.specs.Outcome.{given, refused, Numbered}
use Rattle.outcome.proofs.Lists.{value-at}
use Rattle.outcome.proofs.Outcomes.{given_injective, given_not_refused}
use Rattle.time_period.specs.declared.steps.TimePeriodUnit.{TimePeriodUnit}
use Rattle.time_period.specs.declared.steps.TimePeriodUnit.TheVariants as unit
use Rattle.day_count_conv.specs.declared.conventions.DayCountConv.{DayCountConv}
use Rattle.day_count_conv.specs.declared.conventions.DayCountConv.TheVariants as conv
use Rattle.day_adjust.specs.declared.DayAdjust.{DayAdjust}
use Rattle.day_adjust.specs.declared.DayAdjust.TheVariants as rule
use Rattle.packed_codes.specs.Codes.{at_place, units, unit_of_code, code_of_unit, conventions, convention_of_code, code_of_convention, adjustments, adjustment_of_code, code_of_adjustment}

-- ---- a list of any kind

module _ {A : Type 0} where
  -- past the last place there is nothing
  pub no_place : (l : List A) (n : ℕ) → length l ≤ n → refused 18 ≡ at_place l n
  unfolding at_place
  no_place [] n h = refl
  no_place (a ∷ l) zero h = absurd (omega arith)
  no_place (a ∷ l) (suc n) h = no_place l n (omega arith)

  -- what is given stands in the list
  pub place-below : (l : List A) (n : ℕ) (a : A) → at_place l n ≡ given a → n < length l
  unfolding at_place
  place-below [] n a e = absurd (given_not_refused (sym e))
  place-below (b ∷ l) zero a e = omega arith
  place-below (b ∷ l) (suc n) a e = omega (arith, place-below l n a e)

  place_at : (l : List A) (n : ℕ) (a d : A) → at_place l n ≡ given a → get_or l n d ≡ a
  unfolding at_place
  place_at [] n a d e = absurd (given_not_refused (sym e))
  place_at (b ∷ l) zero a d e = given_injective e
  place_at (b ∷ l) (suc n) a d e = place_at l n a d e

  pub place_numbered : (l : List A) (n : ℕ) → Numbered (at_place l n)
  unfolding at_place
  place_numbered [] n = omega arith
  place_numbered (a ∷ l) zero = omega arith
  place_numbered (a ∷ l) (suc n) = place_numbered l n

  -- where the codes are the places, what a code stands for has that code
  code_at : (code : A → ℕ) (l : List A) → map code l ≡ values_from (λ k. k) 0 (length l) → (n : ℕ) (a : A) → at_place l n ≡ given a → code a ≡ n
  code_at code l places n a e =
      ap code (sym (place_at l n a a e))
      ∙ sym (get_or-map code l n a)
      ∙ ap (λ (s : List ℕ). get_or s n (code a)) places
      ∙ value-at (λ k. k) 0 (length l) n (code a) (place-below l n a e)
      ∙ zero-add n

-- ---- the three tables: from a code and back

pub unit_code : (n : ℕ) (u : TimePeriodUnit) → unit_of_code n ≡ given u → code_of_unit u ≡ n
unfolding values_from
unit_code = code_at code_of_unit units refl

pub convention_code : (n : ℕ) (c : DayCountConv) → convention_of_code n ≡ given c → code_of_convention c ≡ n
unfolding values_from
convention_code = code_at code_of_convention conventions refl

pub adjustment_code : (n : ℕ) (a : DayAdjust) → adjustment_of_code n ≡ given a → code_of_adjustment a ≡ n
unfolding values_from
adjustment_code = code_at code_of_adjustment adjustments refl

-- ---- to a code and back

pub unit_back : (u : TimePeriodUnit) → unit_of_code (code_of_unit u) ≡ given u
unfolding at_place
unit_back unit.Daily = refl
unit_back unit.BusinessDaily = refl
unit_back unit.Weekly = refl
unit_back unit.Monthly = refl
unit_back unit.Annual = refl

pub convention_back : (c : DayCountConv) → convention_of_code (code_of_convention c) ≡ given c
unfolding at_place
convention_back conv.Act365 = refl
convention_back conv.Act360 = refl
convention_back conv.Act365l = refl
convention_back conv.D30_360 = refl
convention_back conv.D30E360 = refl
convention_back conv.ActActICMA = refl

pub adjustment_back : (a : DayAdjust) → adjustment_of_code (code_of_adjustment a) ≡ given a
unfolding at_place
adjustment_back rule.None = refl
adjustment_back rule.Following = refl
adjustment_back rule.Preceding = refl
adjustment_back rule.Modified = refl

-- ---- the first code of each table that is none

pub record None : Type 0 where
  pub sixth_unit : unit_of_code 5 ≡ refused 18
  pub seventh_convention : convention_of_code 6 ≡ refused 18
  pub fifth_adjustment : adjustment_of_code 4 ≡ refused 18

pub none : None
unfolding at_place
none = record { sixth_unit = refl; seventh_convention = refl; fifth_adjustment = refl }
