-- `calendar::first_of_years` meets its contract: the table is the list of its rule's values, which
-- antt computes.
use Prim.Native.Nat.{ℕ, suc, ◌+◌}
use Rattle.outcome.specs.Lists.{values_from}
use Rattle.calendar.specs.gregorian.Gregorian.{leap, year_length, days_before, before_year}
use Rattle.calendar.proofs.gregorian.Table.{table_at}
use Rattle.calendar.proofs.gregorian.first_of_years.Goals as goal

pub returns : goal.returns
unfolding days_before leap values_from year_length
returns _ = table_at (λ (k : ℕ). before_year (suc k) + 1) 400
