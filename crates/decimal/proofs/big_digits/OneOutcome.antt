-- No second outcome meets a promise.
use Prim.Native.Nat.{ℕ}
use mathlib.Core.Path.{◌≡◌, sym, ◌∙◌}
use mathlib.Core.List.{List}
use Rattle.decimal.specs.big_digits.BigDigits.{Scaled, CountsZeros}

pub one_scaled : (n twos : ℕ) (d e f : List ℕ) → Scaled n twos d e → Scaled n twos d f → e ≡ f
one_scaled n twos d e f p q = p ∙ sym q

pub one_count : (s : List ℕ) (r t : ℕ) → CountsZeros s r → CountsZeros s t → r ≡ t
one_count s r t p q = p ∙ sym q
