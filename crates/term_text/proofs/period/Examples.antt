-- Texts of periods of the lists of slips, as theorems about the definitions.
use mathlib.Core.Path.{◌≡◌, refl}
use mathlib.Core.List.{[], ◌∷◌}
use lib.IntN.{pos, negsuc}
use Rattle.outcome.specs.Lists.{all_of}
use Rattle.outcome.specs.Outcome.{given, refused}
use Rattle.number_text.specs.read.Reading.{is_digit, is_decimal, continued, decimal_number, begins, after_plus, below_zero, from_zero, signed_number}
use Rattle.number_text.specs.write.Writing.{digits, places_within, places, decimal_text, signed_text}
use Rattle.time_period.specs.declared.steps.TimePeriodUnit.TheVariants.{Daily, BusinessDaily, Weekly, Monthly, Annual}
use Rattle.term_text.specs.period.PeriodTexts.{unit_of_letter, number_part, period_read, period_text}
use Rattle.time_period.proofs.steps.Examples.{of}

pub record Texts : Type 0 where
  -- `6M`
  pub six_months : period_read (54 ∷ 77 ∷ []) ≡ given (of (pos 6) Monthly)
  -- `6m`
  pub small_letter : period_read (54 ∷ 109 ∷ []) ≡ refused 3
  -- `+M`
  pub no_number : period_read (43 ∷ 77 ∷ []) ≡ refused 4
  -- ` 1M`
  pub blank : period_read (32 ∷ 49 ∷ 77 ∷ []) ≡ refused 4
  -- `M`
  pub short : period_read (77 ∷ []) ≡ refused 2
  -- `6`
  pub short_digit : period_read (54 ∷ []) ≡ refused 2
  -- `00000000000000000000002147483647D`
  pub many_zeros : period_read (48 ∷ 48 ∷ 48 ∷ 48 ∷ 48 ∷ 48 ∷ 48 ∷ 48 ∷ 48 ∷ 48 ∷ 48 ∷ 48 ∷ 48 ∷ 48 ∷ 48 ∷ 48 ∷ 48 ∷ 48 ∷ 48 ∷ 48 ∷ 48 ∷ 48 ∷ 50 ∷ 49 ∷ 52 ∷ 55 ∷ 52 ∷ 56 ∷ 51 ∷ 54 ∷ 52 ∷ 55 ∷ 68 ∷ []) ≡ given (of (pos 2147483647) Daily)
  -- `2147483648D`
  pub too_many : period_read (50 ∷ 49 ∷ 52 ∷ 55 ∷ 52 ∷ 56 ∷ 51 ∷ 54 ∷ 52 ∷ 56 ∷ 68 ∷ []) ≡ refused 4
  -- `-2147483648B`
  pub least : period_read (45 ∷ 50 ∷ 49 ∷ 52 ∷ 55 ∷ 52 ∷ 56 ∷ 51 ∷ 54 ∷ 52 ∷ 56 ∷ 66 ∷ []) ≡ given (of (negsuc 2147483647) BusinessDaily)
  -- `-0M`
  pub minus_zero_lem : period_read (45 ∷ 48 ∷ 77 ∷ []) ≡ given (of (pos 0) Monthly)
  -- `+12W`
  pub plus : period_read (43 ∷ 49 ∷ 50 ∷ 87 ∷ []) ≡ given (of (pos 12) Weekly)
  pub empty : period_read [] ≡ refused 2
  -- `-7Y` and `0D`
  pub written : period_text (of (negsuc 6) Annual) ≡ 45 ∷ 55 ∷ 89 ∷ []
  pub zero_written : period_text (of (pos 0) Daily) ≡ 48 ∷ 68 ∷ []

pub texts : Texts
unfolding is_digit all_of is_decimal continued decimal_number begins after_plus below_zero from_zero signed_number digits places_within places decimal_text signed_text unit_of_letter number_part period_read period_text
texts =
    record {
      six_months = refl;
      small_letter = refl;
      no_number = refl;
      blank = refl;
      short = refl;
      short_digit = refl;
      many_zeros = refl;
      too_many = refl;
      least = refl;
      minus_zero_lem = refl;
      plus = refl;
      empty = refl;
      written = refl;
      zero_written = refl;
    }
