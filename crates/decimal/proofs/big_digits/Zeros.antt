-- Laws of the zeros that a text begins with, and of those before a number's digits.
use Prim.Native.Nat.{ℕ, zero, suc, ◌+◌, ◌/◌, ◌%◌, ◌^◌, ◌≤◌, ◌<◌}
use mathlib.Core.Path.{◌≡◌, refl, ap, ◌∙◌}
use mathlib.Core.Bool.{Bool, true, false}
use mathlib.Core.List.{List, [], ◌∷◌}
use mathlib.Core.Logic.{⊎_elim}
use native.Mathlib.Nat.{one-le-pow, pow-suc, div-eq_of_lt, div-lt_iff_lt-mul, le-div_iff_mul-le, pow-le-pow_right}
use native.Mathlib.Omega.{arith}
use native.Mathlib.Numerals.{add-one}
use lib.Dec.{eqb}
use lib.ListN.{length}
use borrow.Author.Tests.{eq-eqb, ne_eqb}
use Rattle.outcome.specs.Outcome.{pick}
use Rattle.number_text.specs.write.Writing.{digits, places}
use Rattle.number_text.proofs.length.Digits.{digits-first, places_few, places_least, places_enough}
use Rattle.outcome.proofs.Numbers.{lt_or_le}
use Rattle.decimal.specs.big_digits.BigDigits.{zeros_leading}

-- ---- counted up to the first byte that is none

pub zero-first : (b : ℕ) (s : List ℕ) → b ≡ 48 → zeros_leading (b ∷ s) ≡ zeros_leading s + 1
unfolding zeros_leading
zero-first b s e = rw (eq-eqb b 48 e) (omega arith)

pub other_first : (b : ℕ) (s : List ℕ) → (b ≡ 48 → ⊥) → zeros_leading (b ∷ s) ≡ 0
unfolding zeros_leading
other_first b s e = rw (ne_eqb b 48 e)

pub zeros_none : zeros_leading [] ≡ 0
unfolding zeros_leading
zeros_none = refl

pub zeros_most : (s : List ℕ) → zeros_leading s ≤ length s
unfolding zeros_leading
zeros_most [] = omega arith
zeros_most (b ∷ s) = go (eqb b 48) (zeros_most s)
  where
    go : (t : Bool) → zeros_leading s ≤ length s → pick t (suc (zeros_leading s)) 0 ≤ suc (length s)
    go true h = omega arith
    go false h = omega arith

-- ---- before the digits of a number

no_digits : (v : ℕ) → zeros_leading (digits 0 v) ≡ 0
unfolding zeros_leading digits
no_digits v = refl

-- a number of exactly k + 1 digits
pub places-exact : (k w : ℕ) → 10 ^ k ≤ w → w < 10 ^ suc k → places w ≡ suc k
places-exact k w l h = ⊎_elim (λ p. absurd (omega (arith, places_enough w, pow-le-pow_right {n = 10} (omega arith) {i = places w} {j = k} (omega arith)))) (λ p. omega (arith, places_least (suc k) w (omega arith) h)) (lt_or_le (places w) (suc k))

-- of a number of at most k + 1 digits, written with k + 1, the zeros before its own digits stand
-- among the first k
zero_more : (k w : ℕ) → w < 10 ^ suc k → zeros_leading (digits (suc k) (w / 10)) ≡ suc (zeros_leading (digits k (w / 10)))
zero_more k w h =
    let none : w / 10 / 10 ^ k ≡ 0 = div-eq_of_lt (omega (arith, pow-suc 10 k)) in
    ap zeros_leading (digits-first k (w / 10)) ∙ zero-first (48 + w / 10 / 10 ^ k % 10) (digits k (w / 10)) (rw none (omega arith)) ∙ rw add-one

zero-none : (k w : ℕ) → 10 ^ suc k ≤ w → w < 10 ^ suc (suc k) → zeros_leading (digits (suc k) (w / 10)) ≡ 0
zero-none k w l h =
    let low : 1 ≤ w / 10 / 10 ^ k = (le-div_iff_mul-le {k = 10 ^ k} (one-le-pow k 10 (omega arith))).1 (omega (arith, pow-suc 10 k)) in
    let high : w / 10 / 10 ^ k < 10 = (div-lt_iff_lt-mul {k = 10 ^ k} (one-le-pow k 10 (omega arith))).1 (omega (arith, pow-suc 10 k, pow-suc 10 (suc k))) in
    ap zeros_leading (digits-first k (w / 10)) ∙ other_first (48 + w / 10 / 10 ^ k % 10) (digits k (w / 10)) (λ e. omega arith)

pub zeros_before : (k w : ℕ) → w < 10 ^ suc k → zeros_leading (digits k (w / 10)) + places w ≡ suc k
zeros_before zero w h = omega (arith, no_digits (w / 10), places_few w h)
zeros_before (suc k) w h =
    ⊎_elim (λ l. omega (arith, zero_more k w l, zeros_before k w l)) (λ l. omega (arith, zero-none k w l h, places-exact (suc k) w l h)) (lt_or_le w (10 ^ suc k))
