-- Digits to any base b, with any byte z for zero: how many there are, what they are worth, and each
-- from the other.
use Prim.Native.Nat.{ℕ, zero, suc, ◌+◌, ◌-◌, ◌*◌, ◌/◌, ◌%◌, ◌^◌, ◌≤◌, ◌<◌}
use mathlib.Core.Path.{◌≡◌, refl, sym, ap, ◌∙◌}
use mathlib.Core.List.{List, [], ◌∷◌, ◌++◌, append_assoc, append-nil}
use native.Mathlib.Nat.{pow-zero, pow-suc, pow-succ', add-zero, add-suc, one-le-pow, add-mul, add_assoc, mul_assoc, div-one, div-div-eq-div-mul, mod-one, mod-lt, add-sub_of_le, add-sub_cancel_left}
use native.Mathlib.Numerals.{one-add}
use native.Mathlib.Omega.{arith}
use lib.Arith.{digits_lt, digits_div, digits_mod, mod-mul}
use lib.ListN.{length, length-append}
use Rattle.outcome.specs.Lists.{Every}
use Rattle.outcome.proofs.Lists.{every_append}

-- the last k digits of n
unfoldable pub numeral : ℕ → ℕ → ℕ → ℕ → List ℕ
numeral b z zero n = []
numeral b z (suc k) n = numeral b z k (n / b) ++ ((z + n % b) ∷ [])

-- digits behind the number v: each makes it b times as much, and adds itself
unfoldable pub worth : ℕ → ℕ → ℕ → List ℕ → ℕ
worth b z v [] = v
worth b z v (d ∷ s) = worth b z (v * b + (d - z)) s

-- a digit
abbrev pub Digit : ℕ → ℕ → ℕ → Type 0
Digit b z d = (z ≤ d) × (d < z + b)

-- every one is a digit
abbrev pub AreDigits : ℕ → ℕ → List ℕ → Type 0
AreDigits b z s = Every (Digit b z) s

module _ (b z : ℕ) where
  -- ---- the digits of a number

  pub length_numeral : (k n : ℕ) → length (numeral b z k n) ≡ k
  unfolding numeral
  length_numeral zero n = refl
  length_numeral (suc k) n = omega (arith, length-append (numeral b z k (n / b)) ((z + n % b) ∷ []), length_numeral k (n / b))

  pub numeral_are : 0 < b → (k n : ℕ) → AreDigits b z (numeral b z k n)
  unfolding numeral
  numeral_are h zero n = omega arith
  numeral_are h (suc k) n =
      every_append (Digit b z) (numeral b z k (n / b)) ((z + n % b) ∷ []) (numeral_are h k (n / b)) ((omega arith, omega (arith, mod-lt n h)), omega arith)

  -- in two parts
  pub numeral_split : (j k n : ℕ) → numeral b z (j + k) n ≡ numeral b z j (n / b ^ k) ++ numeral b z k n
  unfolding numeral
  numeral_split j zero n = rw (add-zero j, pow-zero b, div-one n) (sym (append-nil (numeral b z j n)))
  numeral_split j (suc k) n =
      rw (add-suc j k, numeral_split j k (n / b), pow-succ' b k, ← div-div-eq-div-mul n b (b ^ k)) (append_assoc (numeral b z j (n / b / b ^ k)) (numeral b z k (n / b)) ((z + n % b) ∷ []))

  -- the first one apart
  pub numeral_first : (k n : ℕ) → numeral b z (suc k) n ≡ (z + n / b ^ k % b) ∷ numeral b z k n
  unfolding numeral
  numeral_first k n = ap (λ (j : ℕ). numeral b z j n) (sym (one-add k)) ∙ numeral_split 1 k n

  -- ---- what digits are worth

  pub worth_append : (v : ℕ) (s t : List ℕ) → worth b z v (s ++ t) ≡ worth b z (worth b z v s) t
  unfolding worth
  worth_append v [] t = refl
  worth_append v (d ∷ s) t = worth_append (v * b + (d - z)) s t

  -- of a sum, so that the induction may split it anew
  worth_more : (u v : ℕ) (s : List ℕ) → worth b z (u + v) s ≡ u * b ^ length s + worth b z v s
  unfolding worth
  worth_more u v [] = rw (pow-zero b) (omega arith)
  worth_more u v (d ∷ s) =
      rw (add-mul u v b, add_assoc (u * b) (v * b) (d - z), worth_more (u * b) (v * b + (d - z)) s, mul_assoc u b (b ^ length s), ← pow-succ' b (length s))

  -- a number and the digits behind it
  pub worth_value : (v : ℕ) (s : List ℕ) → worth b z v s ≡ v * b ^ length s + worth b z 0 s
  worth_value v s = rw (add-zero v) at (worth_more v 0 s)

  pub worth_below : (s : List ℕ) → AreDigits b z s → worth b z 0 s < b ^ length s
  unfolding worth
  worth_below [] h = omega (arith, pow-zero b)
  worth_below (d ∷ s) h = rw (worth_value (0 * b + (d - z)) s, pow-succ' b (length s)) (digits_lt (omega arith) (worth_below s h.1))

  -- the last k digits of n are worth n, cut to k digits
  pub worth_numeral : 0 < b → (k n : ℕ) → worth b z 0 (numeral b z k n) ≡ n % b ^ k
  unfolding numeral worth
  worth_numeral h zero n = rw (pow-zero b) (sym (mod-one n))
  worth_numeral h (suc k) n =
      worth_append 0 (numeral b z k (n / b)) ((z + n % b) ∷ [])
      ∙ rw (worth_numeral h k (n / b), pow-suc b k, add-sub_cancel_left z (n % b)) (sym (mod-mul n (one-le-pow k b h) h))

  -- and digits are the last ones of what they are worth, whatever number is before them
  pub numeral_worth : (v : ℕ) (s : List ℕ) → AreDigits b z s → numeral b z (length s) (worth b z v s) ≡ s
  unfolding numeral worth
  numeral_worth v [] h = refl
  numeral_worth v (d ∷ s) h =
      let w : ℕ = v * b + (d - z) in
      let high : worth b z w s / b ^ length s ≡ w = rw (worth_value w s) (digits_div w (worth_below s h.1)) in
      numeral_first (length s) (worth b z w s) ∙ rw (high, digits_mod v {m = b} {r = d - z} (omega arith), add-sub_of_le h.0.0, numeral_worth w s h.1)
