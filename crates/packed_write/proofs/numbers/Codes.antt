-- A number's digits in their places, as the code puts them.
use Prim.Native.Nat.{ℕ, zero, suc, ◌+◌, ◌-◌, ◌*◌, ◌/◌, ◌%◌, ◌^◌, ◌≤◌, ◌<◌}
use mathlib.Core.Path.{◌≡◌, refl, sym, ap, ◌∙◌}
use mathlib.Core.Bool.{Bool, true, false}
use native.Mathlib.Nat.{pow-suc, pow-le-pow_right, div-one}
use native.Mathlib.Numerals.{add-one}
use native.Mathlib.Omega.{arith}
use borrow.Author.Tests.{lt-ltb, le-ltb, ltb-true, ltb-false}
use lib.Dec.{ltb}
use Rattle.outcome.specs.Outcome.{pick}
use Rattle.outcome.proofs.Numbers.{digits_apart}
use Rattle.packed_write.specs.numbers.Codes.{digits_places}

-- ---- places one after the other

places-suc : (c k d : ℕ) → digits_places c (suc k) d ≡ pick (ltb k c) (digits_places c k (d / 10) * 16 + d % 10) (digits_places c k d * 16 + 15)
unfolding digits_places
places-suc c k d = refl

-- one with a digit, and one with none
pub places_used : (c k d : ℕ) → k < c → digits_places c (suc k) d ≡ digits_places c k (d / 10) * 16 + d % 10
places_used c k d h = places-suc c k d ∙ rw (lt-ltb k c h)

pub places_unused : (c k d : ℕ) → c ≤ k → digits_places c (suc k) d ≡ digits_places c k d * 16 + 15
places_unused c k d h = places-suc c k d ∙ rw (le-ltb k c h)

pub places-none : (c d : ℕ) → digits_places c 0 d ≡ 0
unfolding digits_places
places-none c d = refl

pub places_all : (c d : ℕ) → c ≤ 10 → digits_places c 10 (d / 10 ^ (c - 10)) ≡ digits_places c 10 d
places_all c d h = let e : c - 10 ≡ 0 = omega arith in rw (e) (ap (digits_places c 10) (div-one d))

-- one place more
pub places-more : (c d k n p : ℕ) → n ≡ digits_places c k (d / 10 ^ (c - k)) → p ≡ pick (ltb k c) (d / 10 ^ (c - (k + 1)) % 10) 15 → n * 16 + p ≡ digits_places c (k + 1) (d / 10 ^ (c - (k + 1)))
places-more c d k n p e f = by (ltb k c) refl
  where
    by : (b : Bool) → ltb k c ≡ b → n * 16 + p ≡ digits_places c (k + 1) (d / 10 ^ (c - (k + 1)))
    by true t =
        let h : k < c = ltb-true k c t in
        let q : p ≡ d / 10 ^ (c - (k + 1)) % 10 = f ∙ rw (t) in
        rw (e, q, ← digits_apart 10 d c k h) (sym (places_used c k (d / 10 ^ (c - (k + 1))) h) ∙ ap (λ (j : ℕ). digits_places c j (d / 10 ^ (c - (k + 1)))) (sym (add-one k)))
    by false t =
        let h : c ≤ k = ltb-false k c t in
        let q : p ≡ 15 = f ∙ rw (t) in
        let m : c - (k + 1) ≡ c - k = omega arith in
        rw (e, q, m) (sym (places_unused c k (d / 10 ^ (c - k)) h) ∙ ap (λ (j : ℕ). digits_places c j (d / 10 ^ (c - k))) (sym (add-one k)))

-- and they are that many bits
pub places-below : (c k d : ℕ) → digits_places c k d < 16 ^ k
places-below c zero d = rw (places-none c d) (omega arith)
places-below c (suc k) d = by (ltb k c) refl (places-below c k (d / 10)) (places-below c k d)
  where
    by : (b : Bool) → ltb k c ≡ b → digits_places c k (d / 10) < 16 ^ k → digits_places c k d < 16 ^ k → digits_places c (suc k) d < 16 ^ suc k
    by true t h l = omega (arith, places_used c k d (ltb-true k c t), pow-suc 16 k)
    by false t h l = omega (arith, places_unused c k d (ltb-false k c t), pow-suc 16 k)

-- so the next is no overflow
pub places_small : (c k d n : ℕ) → k < 10 → n ≡ digits_places c k d → n < 68719476736
places_small c k d n h e = let g : k ≤ 9 = omega arith in let l : 16 ^ k ≤ 16 ^ 9 = pow-le-pow_right (omega arith) g in omega (arith, places-below c k d)
