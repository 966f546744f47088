-- No second answer meets a promise.
use Prim.Native.Nat.{ℕ}
use mathlib.Core.Path.{◌≡◌, sym, ◌∙◌}
use lib.IntN.{ℤ}
use Rattle.number_text.specs.length.NumberTexts.{TakesDecimal, TakesPadded, TakesSigned}

pub one_decimal_length : (n r t : ℕ) → TakesDecimal n r → TakesDecimal n t → r ≡ t
one_decimal_length n r t p q = p ∙ sym q

pub one_padded_length : (width n r t : ℕ) → TakesPadded width n r → TakesPadded width n t → r ≡ t
one_padded_length width n r t p q = p ∙ sym q

pub one_signed_length : (z : ℤ) (r t : ℕ) → TakesSigned z r → TakesSigned z t → r ≡ t
one_signed_length z r t p q = p ∙ sym q
