-- Periods of the desk card and of the lists of slips, as theorems about the definitions.
use mathlib.Core.Path.{◌≡◌, refl}
use lib.IntN.{ℤ, pos, negsuc}
use Rattle.outcome.specs.Outcome.{given, refused}
use Rattle.time_period.specs.steps.Periods.{months_frequency, years_frequency, frequency_of}
use Rattle.time_period.specs.declared.steps.TimePeriodUnit.{TimePeriodUnit}
use Rattle.time_period.specs.declared.steps.TimePeriodUnit.TheVariants.{Daily, Monthly, Annual}
use Rattle.time_period.specs.declared.steps.TimePeriod.{TimePeriod}

abbrev pub of : ℤ → TimePeriodUnit → TimePeriod
of n u = record { num = n; unit = u }

pub record Yearly : Type 0 where
  pub monthly : frequency_of (of (pos 1) Monthly) ≡ given 12
  pub quarterly : frequency_of (of (negsuc 2) Monthly) ≡ given 4
  pub half_yearly : frequency_of (of (pos 6) Monthly) ≡ given 2
  pub twelve_months : frequency_of (of (negsuc 11) Monthly) ≡ given 1
  pub a_year : frequency_of (of (negsuc 0) Annual) ≡ given 1
  pub four_months : frequency_of (of (pos 4) Monthly) ≡ refused 5
  pub two_years : frequency_of (of (pos 2) Annual) ≡ refused 5
  pub no_months : frequency_of (of (pos 0) Monthly) ≡ refused 5
  pub least_months : frequency_of (of (negsuc 2147483647) Monthly) ≡ refused 5
  pub days : frequency_of (of (pos 1) Daily) ≡ refused 5

pub yearly : Yearly
unfolding months_frequency years_frequency frequency_of
yearly =
    record {
      monthly = refl;
      quarterly = refl;
      half_yearly = refl;
      twelve_months = refl;
      a_year = refl;
      four_months = refl;
      two_years = refl;
      no_months = refl;
      least_months = refl;
      days = refl;
    }
