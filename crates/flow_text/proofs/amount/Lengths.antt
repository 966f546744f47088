-- How long the texts are: no finite f64 takes more than 315 bytes.
use Prim.Native.Nat.{ℕ, zero, suc, ◌+◌, ◌*◌, ◌/◌, ◌%◌, ◌^◌, ◌≤◌, ◌<◌, zero-le}
use mathlib.Core.Path.{◌≡◌, sym, subst}
use mathlib.Core.Bool.{Bool, true, ◌&&◌}
use mathlib.Core.List.{◌∷◌}
use native.Mathlib.Nat.{zero-mul, lt_of_le_of_lt, le_of_lt, le_of_eq, le_trans, div-le_of_le-mul}
use native.Mathlib.Omega.{arith}
use lib.Dec.{T, leb, ltb, eqb, ltb→lt, lit<}
use lib.IntN.{ℤ, nat_abs}
use lib.ListN.{length, length-append}
use lib.Ieee.{Float, nan, inf, fin, up, down, binary64, fits}
use lib.Ieee.Fits.{down_pos, and_r}
use lib.Ieee.Nearest.{closest_mono}
use lib.Ieee.Scale.{finite}
use Rattle.rounding.specs.Close.{signed, sign_bit}
use Rattle.rounding.proofs.Integers.{signed_parts}
use Rattle.number_text.specs.write.Writing.{decimal_text}
use Rattle.number_text.proofs.length.Digits.{decimal_within}
use Rattle.cash_flow.specs.currency.Amounts.{currency_text}
use Rattle.cash_flow.specs.declared.currency.Currency.{Currency}
use Rattle.number_text.proofs.length.Signs.{sign_within}
use Rattle.decimal.proofs.four_decimals.Texts.{signed_long, four_long}
use Rattle.decimal.specs.float.Decimal.{ten_thousandths, decimal_text16}
use Rattle.decimal.proofs.float.Halves.{closest-whole}
use Rattle.flow_text.specs.amount.AmountTexts.{amount_text}

-- ---- a finite f64 is at most 2 ^ 1024, whose decimal has 309 digits

size-most : (s : Bool) (m : ℕ) (e : ℤ) → T (fits binary64 (fin s m e)) → m * up e ≤ 2 ^ 1024 * down e
unfolding fits
size-most s zero e h = rw (zero-mul) zero-le
size-most s (suc m) e h =
    le_of_lt (ltb→lt (suc m * up e) (2 ^ 1024 * down e) (and_r (eqb (suc m % 2) 1 && ltb (suc m) (2 ^ 53) && leb (down e) (2 ^ 1074)) _ h))

in_tens : (a p d : ℕ) → a ≤ p * d → a * 10000 * 1 ≤ 10000 * p * d
in_tens a p d h = omega arith

tens_most : (x : Float) → T (fits binary64 x) → finite x ≡ true → ten_thousandths x ≤ 10000 * 2 ^ 1024
unfolding ten_thousandths
tens_most nan h f = absurd (subst T (sym f) tt)
tens_most (inf s) h f = absurd (subst T (sym f) tt)
tens_most (fin s m e) h f =
    le_trans
    (closest_mono (nat_abs (signed s (m * up e)) * 10000) (down e) (10000 * 2 ^ 1024) 1 (down_pos e) (omega arith) (rw (signed_parts s (m * up e)).2 (in_tens (m * up e) (2 ^ 1024) (down e) (size-most s m e h))))
    (le_of_eq (closest-whole (10000 * 2 ^ 1024)))

pub decimal_long : (x : Float) → T (fits binary64 x) → finite x ≡ true → length (decimal_text16 x) ≤ 315
unfolding decimal_text16
decimal_long x h f =
    let t : ℕ = ten_thousandths x in
    let whole : t / 10000 ≤ 2 ^ 1024 = div-le_of_le-mul 10000 (tens_most x h f) in
    let few : t / 10000 < 10 ^ 309 = lt_of_le_of_lt whole (lit< tt) in
    let w : length (decimal_text (t / 10000)) ≤ 309 = decimal_within 309 (t / 10000) (omega arith) few in
    omega (arith, signed_long (sign_bit x) t, four_long t, sign_within (sign_bit x))

-- ---- an amount

pub amount_long : (x : Float) (c : Currency) → length (amount_text x c) ≡ length (decimal_text16 x) + 4
unfolding amount_text
amount_long x c = length-append (decimal_text16 x) (32 ∷ currency_text c)
