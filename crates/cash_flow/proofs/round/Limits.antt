-- The limits of digits, as the code tests them, and the power of ten that a number of digits is.
use Prim.Native.Nat.{ℕ, ◌^◌, ◌≤◌}
use mathlib.Core.Path.{◌≡◌, sym}
use mathlib.Core.Bool.{true, true≢false}
use lib.IntN.{ℤ, pos, negsuc}
use lib.Ieee.{Float, binary64, of_int}
use borrow.Author.Tests.{leb-true}
use mir.Syntax.{w32}
use mir.Val.{of_z}
use Rattle.outcome.proofs.Outcomes.{both_true}
use Rattle.cash_flow.specs.currency.Amounts.{up_to}
use Rattle.cash_flow.specs.round.RoundedAmounts.{is_width, is_roundable, power_of_ten}

-- ---- the digits

pub roundable_width : (x : Float) (d : ℤ) → is_roundable x d ≡ true → is_width d ≡ true
unfolding is_roundable
roundable_width x d h = (both_true (is_width d) (up_to 1000000000 x) h).0

-- ---- the power of ten: the bits of the digits are their number

pub power_is : (d : ℤ) (k : ℕ) → is_width d ≡ true → of_z w32 d ≡ k → of_int binary64 (pos (10 ^ k)) ≡ power_of_ten d
unfolding power_of_ten
power_is (pos n) k h e = rw (e)
power_is (negsuc n) k h e = absurd (true≢false (sym h))

pub width-most : (d : ℤ) → is_width d ≡ true → of_z w32 d ≤ 4
width-most (pos n) h = leb-true n 4 h
width-most (negsuc n) h = absurd (true≢false (sym h))
