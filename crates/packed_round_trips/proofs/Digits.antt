-- A number's digits, from their places and back.
use Prim.Native.Nat.{ℕ, zero, suc, ◌+◌, ◌*◌, ◌/◌, ◌%◌, ◌^◌, ◌≤◌, ◌<◌, min}
use mathlib.Core.Path.{◌≡◌, refl, sym, subst, ◌∙◌}
use mathlib.Core.Bool.{Bool, true, false}
use native.Mathlib.Nat.{pow-suc}
use native.Mathlib.Omega.{arith}
use borrow.Author.Tests.{lt-ltb, le-ltb, ltb-true, ltb-false, eq-eqb}
use lib.Dec.{ltb}
use Rattle.outcome.specs.Outcome.{both}
use Rattle.outcome.proofs.Outcomes.{both_true}
use Rattle.packed_read.specs.note.Codes.{place_good, digits_good, digits_number}
use Rattle.packed_read.proofs.note.Numbers.{used_place, unused_place, number-none, number-suc}
use Rattle.packed_write.specs.numbers.Codes.{digits_places}
use Rattle.packed_write.proofs.numbers.Codes.{places-none, places_used, places_unused}

-- ---- one place more

good_used : (c k n : ℕ) → k < c → n < 10 → place_good c k n ≡ true
unfolding place_good
good_used c k n h l = rw (lt-ltb k c h, lt-ltb n 10 l)

good_unused : (c k n : ℕ) → c ≤ k → n ≡ 15 → place_good c k n ≡ true
unfolding place_good
good_unused c k n h e = rw (le-ltb k c h, eq-eqb n 15 e)

good_suc : (c k n : ℕ) → digits_good c (suc k) n ≡ both (digits_good c k (n / 16)) (place_good c k (n % 16))
unfolding digits_good
good_suc c k n = refl

good_none : (c n : ℕ) → digits_good c 0 n ≡ true
unfolding digits_good
good_none c n = refl

number_used : (c k n : ℕ) → k < c → digits_number c (suc k) n ≡ digits_number c k (n / 16) * 10 + n % 16
number_used c k n h = number-suc c k n ∙ rw (lt-ltb k c h)

number_unused : (c k n : ℕ) → c ≤ k → digits_number c (suc k) n ≡ digits_number c k (n / 16)
number_unused c k n h = number-suc c k n ∙ rw (le-ltb k c h)

-- a place and those before it, apart again
module _ (m a x : ℕ) (e : m ≡ a * 16 + x) (l : x < 16) where
  before_it : m / 16 ≡ a
  before_it = omega arith

  in_it : m % 16 ≡ x
  in_it = omega arith

-- ---- the places of a number are good, and they are that number

pub good_places : (c k d : ℕ) → digits_good c k (digits_places c k d) ≡ true
good_places c zero d = good_none c (digits_places c 0 d)
good_places c (suc k) d = by (ltb k c) refl (good_places c k (d / 10)) (good_places c k d)
  where
    by : (b : Bool) → ltb k c ≡ b → digits_good c k (digits_places c k (d / 10)) ≡ true → digits_good c k (digits_places c k d) ≡ true → digits_good c (suc k) (digits_places c (suc k) d) ≡ true
    by true t g i =
        let h : k < c = ltb-true k c t in
        let e = places_used c k d h in
        rw (good_suc c k (digits_places c (suc k) d), before_it (digits_places c (suc k) d) (digits_places c k (d / 10)) (d % 10) e (omega arith), in_it (digits_places c (suc k) d) (digits_places c k (d / 10)) (d % 10) e (omega arith), g) (good_used c k (d % 10) h (omega arith))
    by false t g i =
        let h : c ≤ k = ltb-false k c t in
        let e = places_unused c k d h in
        rw (good_suc c k (digits_places c (suc k) d), before_it (digits_places c (suc k) d) (digits_places c k d) 15 e (omega arith), in_it (digits_places c (suc k) d) (digits_places c k d) 15 e (omega arith), i) (good_unused c k 15 h refl)

pub places-number : (c k d : ℕ) → d < 10 ^ min k c → digits_number c k (digits_places c k d) ≡ d
places-number c zero d l = let m : min 0 c ≡ 0 = omega arith in number-none c (digits_places c 0 d) ∙ omega (arith, subst (λ (j : ℕ). d < 10 ^ j) m l)
places-number c (suc k) d l = by (ltb k c) refl (places-number c k (d / 10)) (places-number c k d)
  where
    by : (b : Bool) → ltb k c ≡ b → (d / 10 < 10 ^ min k c → digits_number c k (digits_places c k (d / 10)) ≡ d / 10) → (d < 10 ^ min k c → digits_number c k (digits_places c k d) ≡ d) → digits_number c (suc k) (digits_places c (suc k) d) ≡ d
    by true t g i =
        let h : k < c = ltb-true k c t in
        let e = places_used c k d h in
        let m : min (suc k) c ≡ suc k = omega arith in
        let m' : min k c ≡ k = omega arith in
        let l' : d < 10 ^ suc k = subst (λ (j : ℕ). d < 10 ^ j) m l in
        let less : d / 10 < 10 ^ min k c = rw (m') (omega (arith, pow-suc 10 k)) in
        number_used c k (digits_places c (suc k) d) h
        ∙ rw (before_it (digits_places c (suc k) d) (digits_places c k (d / 10)) (d % 10) e (omega arith), in_it (digits_places c (suc k) d) (digits_places c k (d / 10)) (d % 10) e (omega arith), g less) (omega arith)
    by false t g i =
        let h : c ≤ k = ltb-false k c t in
        let e = places_unused c k d h in
        let m : min (suc k) c ≡ min k c = omega arith in
        number_unused c k (digits_places c (suc k) d) h
        ∙ rw (before_it (digits_places c (suc k) d) (digits_places c k d) 15 e (omega arith)) (i (subst (λ (j : ℕ). d < 10 ^ j) m l))

-- ---- and the number of good places has those places

pub number-places : (c k n : ℕ) → digits_good c k n ≡ true → n < 16 ^ k → digits_places c k (digits_number c k n) ≡ n
number-places c zero n g l = places-none c (digits_number c 0 n) ∙ omega arith
number-places c (suc k) n g l =
    let p = both_true (digits_good c k (n / 16)) (place_good c k (n % 16)) (sym (good_suc c k n) ∙ g) in
    by (ltb k c) refl p.1 (number-places c k (n / 16) p.0 (omega (arith, pow-suc 16 k)))
  where
    by : (b : Bool) → ltb k c ≡ b → place_good c k (n % 16) ≡ true → digits_places c k (digits_number c k (n / 16)) ≡ n / 16 → digits_places c (suc k) (digits_number c (suc k) n) ≡ n
    by true t q i =
        let h : k < c = ltb-true k c t in
        let small : n % 16 < 10 = used_place c k (n % 16) h q in
        let v : ℕ = digits_number c k (n / 16) in
        let e : digits_number c (suc k) n ≡ v * 10 + n % 16 = number_used c k n h in
        let above : digits_number c (suc k) n / 10 ≡ v = omega arith in
        let below : digits_number c (suc k) n % 10 ≡ n % 16 = omega arith in
        places_used c k (digits_number c (suc k) n) h ∙ rw (above, below, i) (omega arith)
    by false t q i =
        let h : c ≤ k = ltb-false k c t in
        let e = unused_place c k (n % 16) h q in
        places_unused c k (digits_number c (suc k) n) h ∙ rw (number_unused c k n h, i) (omega arith)
