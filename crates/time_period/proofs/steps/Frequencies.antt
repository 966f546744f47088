-- Which periods have a frequency, and how many of them make a year.
use Prim.Native.Nat.{ℕ, ◌*◌, ◌≤◌}
use mathlib.Core.Path.{◌≡◌, refl, sym, ◌∙◌}
use mathlib.Core.Bool.{Bool, true, false}
use native.Mathlib.Omega.{arith}
use lib.Dec.{eqb}
use lib.IntN.{pos, nat_abs}
use lib.Signed.{lt_z}
use borrow.Author.Tests.{eqb-true}
use Rattle.outcome.specs.Outcome.{given, refused, pick}
use Rattle.outcome.proofs.Outcomes.{given_injective, given_not_refused, Only, only-given, only-refused, only-pick}
use Rattle.time_period.specs.steps.Periods.{months_frequency, years_frequency, unit_frequency, frequency_of}
use Rattle.time_period.specs.declared.steps.TimePeriodUnit.{TimePeriodUnit}
use Rattle.time_period.specs.declared.steps.TimePeriodUnit.TheVariants.{Daily, BusinessDaily, Weekly, Monthly, Annual}
use Rattle.time_period.specs.declared.steps.TimePeriod.{TimePeriod}
use Rattle.time_period.proofs.steps.Signs.{positive, above}

-- n of the unit u make up one of f equal parts of a year
pub data Regular (u : TimePeriodUnit) (n f : ℕ) : Type 0 where
  one_month : u ≡ Monthly → n ≡ 1 → f ≡ 12 → Regular u n f
  three_months : u ≡ Monthly → n ≡ 3 → f ≡ 4 → Regular u n f
  six_months : u ≡ Monthly → n ≡ 6 → f ≡ 2 → Regular u n f
  twelve_months : u ≡ Monthly → n ≡ 12 → f ≡ 1 → Regular u n f
  one_year : u ≡ Annual → n ≡ 1 → f ≡ 1 → Regular u n f

regular_months : (n f : ℕ) → months_frequency n ≡ given f → Regular Monthly n f
unfolding months_frequency
regular_months n f e = by (eqb n 1) (eqb n 3) (eqb n 6) (eqb n 12) refl refl refl refl e
  where
    by : (a b c d : Bool) → eqb n 1 ≡ a → eqb n 3 ≡ b → eqb n 6 ≡ c → eqb n 12 ≡ d → pick a (given 12) (pick b (given 4) (pick c (given 2) (pick d (given 1) (refused 5)))) ≡ given f → Regular Monthly n f
    by true b c d p q r s g = one_month refl (eqb-true n 1 p) (sym (given_injective g))
    by false true c d p q r s g = three_months refl (eqb-true n 3 q) (sym (given_injective g))
    by false false true d p q r s g = six_months refl (eqb-true n 6 r) (sym (given_injective g))
    by false false false true p q r s g = twelve_months refl (eqb-true n 12 s) (sym (given_injective g))
    by false false false false p q r s g = absurd (given_not_refused (sym g))

regular_years : (n f : ℕ) → years_frequency n ≡ given f → Regular Annual n f
unfolding years_frequency
regular_years n f e = by (eqb n 1) refl e
  where
    by : (a : Bool) → eqb n 1 ≡ a → pick a (given 1) (refused 5) ≡ given f → Regular Annual n f
    by true p g = one_year refl (eqb-true n 1 p) (sym (given_injective g))
    by false p g = absurd (given_not_refused (sym g))

unit_regular : (u : TimePeriodUnit) (n f : ℕ) → unit_frequency u n ≡ given f → Regular u n f
unit_regular Daily n f e = absurd (given_not_refused (sym e))
unit_regular BusinessDaily n f e = absurd (given_not_refused (sym e))
unit_regular Weekly n f e = absurd (given_not_refused (sym e))
unit_regular Monthly n f e = regular_months n f e
unit_regular Annual n f e = regular_years n f e

unit_found : (u : TimePeriodUnit) (n f : ℕ) → Regular u n f → unit_frequency u n ≡ given f
unfolding months_frequency years_frequency
unit_found u n f (one_month a b c) = rw (a, b, c)
unit_found u n f (three_months a b c) = rw (a, b, c)
unit_found u n f (six_months a b c) = rw (a, b, c)
unit_found u n f (twelve_months a b c) = rw (a, b, c)
unit_found u n f (one_year a b c) = rw (a, b, c)

-- the only refusal is 5
unit_refuses : (u : TimePeriodUnit) (n : ℕ) → Only 5 (unit_frequency u n)
unfolding months_frequency years_frequency
unit_refuses Daily n = only-refused 5
unit_refuses BusinessDaily n = only-refused 5
unit_refuses Weekly n = only-refused 5
unit_refuses Monthly n =
    only-pick 5 (eqb n 1) (given 12) _ (only-given 5 12)
    (only-pick 5 (eqb n 3) (given 4) _ (only-given 5 4)
    (only-pick 5 (eqb n 6) (given 2) _ (only-given 5 2)
    (only-pick 5 (eqb n 12) (given 1) (refused 5) (only-given 5 1) (only-refused 5))))
unit_refuses Annual n = only-pick 5 (eqb n 1) (given 1) (refused 5) (only-given 5 1) (only-refused 5)

-- a frequency's exact condition, signs ignored
pub record Frequent (p : TimePeriod) : Type 0 where
  pub regular : (f : ℕ) → frequency_of p ≡ given f → Regular p.unit (nat_abs p.num) f
  pub found : (f : ℕ) → Regular p.unit (nat_abs p.num) f → frequency_of p ≡ given f
  pub otherwise : (k : ℕ) → frequency_of p ≡ refused k → (k ≡ 5) × ((f : ℕ) → Regular p.unit (nat_abs p.num) f → ⊥)

pub frequent : (p : TimePeriod) → Frequent p
unfolding frequency_of
frequent p =
    let n = nat_abs p.num in
    record {
      regular = unit_regular p.unit n;
      found = unit_found p.unit n;
      otherwise = λ k e. (unit_refuses p.unit n k e, λ f r. given_not_refused (sym (unit_found p.unit n f r) ∙ e));
    }

-- a period of at least 1 that has a frequency: 1, 3, 6 or 12 months, or one year
pub regular_period : (p : TimePeriod) (f : ℕ) → lt_z p.num (pos 1) ≡ false → frequency_of p ≡ given f → (n : ℕ) × (p.num ≡ pos n) × Regular p.unit n f
regular_period p f h e =
    let a = above p.num (positive p.num h) in
    (nat_abs p.num, a.0, rw a.0 at ((frequent p).regular f e))

-- the months of a regular period, f of which make the year
abbrev pub months_in : TimePeriodUnit → ℕ → ℕ
months_in Daily n = 0
months_in BusinessDaily n = 0
months_in Weekly n = 0
months_in Monthly n = n
months_in Annual n = 12 * n

pub record WholeYear (u : TimePeriodUnit) (n f : ℕ) : Type 0 where
  pub from : 1 ≤ f
  pub to : f ≤ 12
  pub months : f * months_in u n ≡ 12

pub whole_year : (u : TimePeriodUnit) (n f : ℕ) → Regular u n f → WholeYear u n f
whole_year u n f (one_month a b c) = record { from = omega arith; to = omega arith; months = rw (a, b, c) }
whole_year u n f (three_months a b c) = record { from = omega arith; to = omega arith; months = rw (a, b, c) }
whole_year u n f (six_months a b c) = record { from = omega arith; to = omega arith; months = rw (a, b, c) }
whole_year u n f (twelve_months a b c) = record { from = omega arith; to = omega arith; months = rw (a, b, c) }
whole_year u n f (one_year a b c) = record { from = omega arith; to = omega arith; months = rw (a, b, c) }
