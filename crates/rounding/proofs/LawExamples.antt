-- The laws at numbers: none of them is empty.
use mathlib.Core.Path.{◌≡◌, refl, sym}
use Prim.Native.Nat.{◌*◌, ◌^◌, zero-le}
use mathlib.Core.Bool.{true, false, true≢false}
use lib.IntN.{pos, negsuc, ◌-ℤ◌}
use lib.Dec.{lit<, lit≤}
use lib.Ieee.{binary64, neg, add, mul, div, of_int, of_bits, eq, le}
use lib.Ieee.Fits.{div-fits}
use mir.Syntax.{w32}
use mir.Val.{to_z, of_z}
use Rattle.rounding.proofs.Examples.{whole, over}
use Rattle.rounding.specs.Close.{Close}
use Rattle.rounding.proofs.Integers.{of_int_lem}
use Rattle.rounding.proofs.Near.{Near, near_int, near_add, near_neg, near_same}
use Rattle.rounding.proofs.Product.{near_mul, whole-mul}
use Rattle.rounding.proofs.Quotient.{near_div, near_quot}
use Rattle.rounding.proofs.CloseLaws.{near_close, close_near}
use Rattle.rounding.proofs.Range.{In}
use Rattle.rounding.proofs.Zero.{near_zero, near_not_zero, close_not_zero}
use Rattle.rounding.proofs.Difference.{gap_is}

-- a quotient by a whole number
third_near : Near (over (pos 1) 3) 1 0 (1 * 3) 1 (2 ^ 46)
third_near = near_div (near_int (pos 1) 1 (lit≤ tt) (lit< tt)) 3 1 0 0 (lit< tt) (lit< tt) (lit≤ tt) zero-le (lit≤ tt) (lit< tt) (lit< tt)

third_by_law : Close (2 ^ 38) (over (pos 1) 3) (pos 1) 3
third_by_law = near_close third_near (of_int_lem (pos 1)) (2 ^ 38) 3 refl (lit≤ tt)

-- a product of both signs: -1/3 * 1/3 is near -1/9
minus_ninth_by_law : Close (2 ^ 38) (mul binary64 (neg (over (pos 1) 3)) (over (pos 1) 3)) (negsuc 0) 9
minus_ninth_by_law = near_close (near_mul (near_neg third_near) third_near 2 (lit≤ tt) (lit≤ tt) (lit< tt) (lit< tt)) (of_int_lem (negsuc 0)) (2 ^ 38) 9 refl (lit≤ tt)

-- a quotient by a value near a fraction of at least 1: 1 / (1 + 1/3) is near 3/4
discount_by_law : Close (2 ^ 38) (div binary64 (whole (pos 1)) (add binary64 (whole (pos 1)) (over (pos 1) 3))) (pos 3) 4
discount_by_law =
    let one = near_int (pos 1) 1 (lit≤ tt) (lit< tt) in
    let y = near_same (near_add one third_near 2 (lit≤ tt) (lit< tt) (lit< tt)) 4 0 3 (lit< tt) refl in
    near_close (near_quot one y 1 1 (2 ^ 49) 1 (lit≤ tt) (lit≤ tt) (lit≤ tt) (lit≤ tt) (lit< tt)) (of_int_lem (pos 3)) (2 ^ 38) 4 refl (lit≤ tt)

-- and back from what a promise says
third_from_close : Near (over (pos 1) 3) 1 0 3 1 (2 ^ 62)
third_from_close = close_near (over (pos 1) 3) (div-fits binary64 (whole (pos 1)) (whole (pos 3))) (of_int_lem (pos 1)) (2 ^ 38) 3 1 (2 ^ 62) (lit< tt) (lit< tt) (lit≤ tt) (lit≤ tt) (lit≤ tt) third_by_law

-- a product of whole numbers is whole
year_of-months : mul binary64 (whole (pos 365)) (whole (pos 12)) ≡ whole (pos 4380)
year_of-months = whole-mul 365 12 (lit< tt) (lit< tt)

-- a value near a fraction other than 0 is not 0, and 0 is, with either sign
third_not_zero : eq (over (pos 1) 3) (of_bits binary64 0) ≡ false
third_not_zero = near_not_zero third_near (of_int_lem (pos 1)) (lit< tt)

third_not_zero_by_close : eq (over (pos 1) 3) (of_bits binary64 0) ≡ false
third_not_zero_by_close = close_not_zero (over (pos 1) 3) (2 ^ 38) (pos 1) 3 third_by_law (lit< tt)

minus_zero_is_zero : eq (neg (whole (pos 0))) (of_bits binary64 0) ≡ true
minus_zero_is_zero = near_zero (near_neg (near_int (pos 0) 0 (lit≤ tt) (lit< tt))) refl

-- 100 is from 0 to 100, and the next `f64` is not
hundred_in : In (whole (pos 100)) 100
unfolding of_int le
hundred_in = record { low = refl; high = refl }

next_not_in : In (of_bits binary64 0x4059_0000_0000_0001) 100 → ⊥
unfolding of_int of_bits le
next_not_in i = let e : false ≡ true = i.high in absurd (true≢false (sym e))

-- `3 as i32 - 5 as i32` is -2
gap_of_three_and_five : to_z w32 (of_z w32 (to_z w32 3 -ℤ to_z w32 5)) ≡ negsuc 1
gap_of_three_and_five = gap_is 3 5 (lit< tt) (lit< tt)
