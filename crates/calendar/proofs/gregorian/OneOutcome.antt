-- No second answer satisfies an entry point's promise.
use Prim.Native.Nat.{ℕ}
use mathlib.Core.Path.{◌≡◌}
use mathlib.Core.Bool.{Bool}
use Rattle.outcome.proofs.Outcomes.{one_value}
use Rattle.calendar.specs.gregorian.Gregorian.{LeapPromise, MonthLengthPromise, YearLengthPromise}

pub one_is_leap : (y : ℕ) (r s : Bool) → LeapPromise y r → LeapPromise y s → r ≡ s
one_is_leap y r s p q = one_value r s p q

pub one_length_of_month : (y m r s : ℕ) → MonthLengthPromise y m r → MonthLengthPromise y m s → r ≡ s
one_length_of_month y m r s p q = one_value r s p q

pub one_length_of_year : (y r s : ℕ) → YearLengthPromise y r → YearLengthPromise y s → r ≡ s
one_length_of_year y r s p q = one_value r s p q
