-- How long a refusal's text is, and its parts.
use Prim.Native.Nat.{ℕ, ◌+◌, ◌≤◌, ◌<◌}
use mathlib.Core.Path.{◌≡◌}
use mathlib.Core.List.{[], ◌∷◌}
use native.Mathlib.Omega.{arith}
use lib.ListN.{length, length-append}
use Rattle.number_text.specs.write.Writing.{decimal_text, HasRoom, Puts}
use Rattle.number_text.specs.declared.write.Writer.{Writer}
use Rattle.number_text.proofs.write.Putting.{puts_then, room_then}
use Rattle.number_text.proofs.length.Digits.{decimal_within}
use Rattle.flow_text.specs.refusal.RefusalTexts.{number_text, refused_text}

pub number_long : (n : ℕ) → length (number_text n) ≡ length (decimal_text n) + 1
unfolding number_text
number_long n = length-append (decimal_text n) (10 ∷ [])

pub refusal_long : (n : ℕ) → length (refused_text n) ≡ 9 + length (decimal_text n)
unfolding refused_text
refusal_long n = omega (arith, number_long n)

pub refusal_short : (n : ℕ) → n < 4294967296 → length (refused_text n) ≤ 19
refusal_short n h = omega (arith, refusal_long n, decimal_within 10 n (omega arith) (omega arith))

-- its parts written one after the other
pub refused_puts : (u a b v : Writer) (n : ℕ) → HasRoom u (refused_text n) → Puts u a (114 ∷ 101 ∷ 102 ∷ 117 ∷ 115 ∷ 101 ∷ 100 ∷ 32 ∷ []) → Puts a b (decimal_text n) → Puts b v (10 ∷ []) → Puts u v (refused_text n)
unfolding refused_text number_text
refused_puts u a b v n room p q r = puts_then _ _ _ _ _ p (puts_then _ _ _ _ _ q r (room_then _ _ _ _ p room)) room
