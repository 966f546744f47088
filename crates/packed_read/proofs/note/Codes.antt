-- A number's digits in their places of four bits.
use Prim.Native.Nat.{ℕ, zero, suc, ◌+◌, ◌-◌, ◌*◌, ◌/◌, ◌%◌, ◌^◌, ◌≤◌, ◌<◌}
use mathlib.Core.Path.{◌≡◌, refl, sym, ap, ◌∙◌}
use mathlib.Core.Bool.{Bool, true, false, ◌&&◌}
use native.Mathlib.Nat.{pow-suc, pow-le-pow_right, div-one}
use native.Mathlib.Numerals.{add-one}
use native.Mathlib.Omega.{arith}
use lib.Dec.{ltb}
use lib.Pow.{pow-add}
use Rattle.outcome.specs.Outcome.{pick}
use Rattle.outcome.proofs.Numbers.{digits_apart}
use Rattle.packed_read.specs.note.Codes.{place_good, digits_good, digits_number}

-- ---- ten places of four bits

sixteens : (j : ℕ) → 2 ^ (4 * j) ≡ 16 ^ j
sixteens zero = refl
sixteens (suc j) =
    let e : 4 * suc j ≡ 4 * j + 4 = omega arith in
    rw (e, pow-add 2 (4 * j) 4, sixteens j) (sym (pow-suc 16 j))

pub four_bits : (k : ℕ) → k ≤ 10 → 2 ^ (40 - 4 * k) ≡ 16 ^ (10 - k)
four_bits k h = let e : 40 - 4 * k ≡ 4 * (10 - k) = omega arith in rw (e) (sixteens (10 - k))

pub places_all : (n : ℕ) → n / 16 ^ (10 - 10) ≡ n
places_all n = div-one n

pub good_more : (c n k p : ℕ) (a b : Bool) → k < 10 → a ≡ digits_good c k (n / 16 ^ (10 - k)) → p ≡ n / 16 ^ (10 - (k + 1)) → b ≡ place_good c k (p % 16) → (a && b) ≡ digits_good c (k + 1) (n / 16 ^ (10 - (k + 1)))
unfolding digits_good
good_more c n k p a b h e f g = rw (e, g, f, ← digits_apart 16 n 10 k h) (ap (λ (j : ℕ). digits_good c j (n / 16 ^ (10 - (k + 1)))) (sym (add-one k)))

pub number_more : (c n k p m r : ℕ) → k < 10 → m ≡ digits_number c k (n / 16 ^ (10 - k)) → p ≡ n / 16 ^ (10 - (k + 1)) → r ≡ pick (ltb k c) (m * 10 + p % 16) m → r ≡ digits_number c (k + 1) (n / 16 ^ (10 - (k + 1)))
unfolding digits_number
number_more c n k p m r h e f g = g ∙ rw (e, f, ← digits_apart 16 n 10 k h) (ap (λ (j : ℕ). digits_number c j (n / 16 ^ (10 - (k + 1)))) (sym (add-one k)))

-- ten places, whatever is in them, make no large number
pub number-most : (c k n : ℕ) → digits_number c k n + 2 ≤ 2 * 10 ^ k
unfolding digits_number
number-most c zero n = omega arith
number-most c (suc k) n = by (ltb k c) (number-most c k (n / 16))
  where
    by : (u : Bool) → digits_number c k (n / 16) + 2 ≤ 2 * 10 ^ k → pick u (digits_number c k (n / 16) * 10 + n % 16) (digits_number c k (n / 16)) + 2 ≤ 2 * 10 ^ suc k
    by true h = omega (arith, pow-suc 10 k)
    by false h = omega (arith, pow-suc 10 k)

-- so the next place is no overflow
pub number_small : (c k n m : ℕ) → k ≤ 10 → m ≡ digits_number c k n → m ≤ 20000000000
number_small c k n m h e = let l : 10 ^ k ≤ 10 ^ 10 = pow-le-pow_right (omega arith) h in omega (arith, number-most c k n)
