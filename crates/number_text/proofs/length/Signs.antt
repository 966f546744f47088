-- Laws of the text of a signed number: the sign, and then the decimal.
use Prim.Native.Nat.{ℕ, ◌+◌, ◌≤◌}
use mathlib.Core.Path.{◌≡◌, refl, sym}
use mathlib.Core.Bool.{Bool, true, false}
use native.Mathlib.Omega.{arith}
use lib.ListN.{length, length-append}
use lib.IntN.{ℤ, nat_abs}
use lib.Signed.{nat_abs-le}
use mir.Syntax.{w32}
use mir.Val.{SFits, bool_byte}
use Rattle.outcome.specs.Signs.{is_negative}
use Rattle.number_text.specs.length.NumberTexts.{decimal_text, sign_text, signed_text}
use Rattle.number_text.proofs.length.Digits.{decimal_within}

pub length-signed : (z : ℤ) → length (signed_text z) ≡ length (sign_text (is_negative z)) + length (decimal_text (nat_abs z))
unfolding signed_text
length-signed z = length-append (sign_text (is_negative z)) (decimal_text (nat_abs z))

pub sign_within : (g : Bool) → length (sign_text g) ≤ 1
sign_within true = omega arith
sign_within false = omega arith

-- no text of a signed 32-bit number is longer than 11 bytes
pub signed-within : (z : ℤ) → SFits w32 z → length (signed_text z) ≤ 11
signed-within z f = omega (arith, length-signed z, sign_within (is_negative z), decimal_within 10 (nat_abs z) (omega arith) (omega (arith, nat_abs-le z f.sfits)))

pub signed_length_is : (z : ℤ) (g : Bool) (m k : ℕ) → g ≡ is_negative z → m ≡ nat_abs z → k ≡ length (decimal_text m) → length (sign_text g) + k ≡ length (signed_text z)
signed_length_is z g m k p q e = rw (e, p, q) (sym (length-signed z))

-- the sign as a number of bytes
pub sign-bytes : (g : Bool) → bool_byte g ≡ length (sign_text g)
sign-bytes true = refl
sign-bytes false = refl
