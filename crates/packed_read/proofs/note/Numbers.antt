-- A note's number and its rate, as its bits have them.
use Prim.Native.Nat.{ℕ, zero, suc, ◌+◌, ◌*◌, ◌/◌, ◌%◌, ◌^◌, ◌≤◌, ◌<◌, min}
use mathlib.Core.Path.{◌≡◌, refl, subst}
use mathlib.Core.Bool.{Bool, true, false, not}
use native.Mathlib.Nat.{pow-suc}
use native.Mathlib.Omega.{arith}
use borrow.Author.Tests.{lt-ltb, le-ltb, ltb-true, ltb-false, eqb-true}
use lib.Dec.{T, ltb, leb}
use mathlib.Core.List.{List}
use lib.Ieee.{binary64, nan_bits, is_nan}
use lib.Ieee.Bits.{nan_bits_is}
use Rattle.outcome.specs.Outcome.{pick, both}
use Rattle.outcome.proofs.Numbers.{between}
use Rattle.outcome.proofs.Outcomes.{both_true}
use Rattle.bond.specs.limits.Limits.{is_note_number}
use Rattle.bond.proofs.limits.Limits.{low_bits}
use Rattle.packed_layout.specs.NoteLayout.{Name, number_in}
use Rattle.packed_read.specs.note.Codes.{place_good, digits_good, digits_number, number_good}
use Rattle.packed_read.specs.note.Records.{note_number_in}

pub no_nan : (b : ℕ) → b < 9218868437227405312 → T (not (nan_bits binary64 b))
unfolding is_nan
no_nan b h = rw (nan_bits_is, (low_bits b h).2) tt

-- ---- c good digits are a number of c digits

good_parts : (c k n : ℕ) → digits_good c (suc k) n ≡ true → (digits_good c k (n / 16) ≡ true) × (place_good c k (n % 16) ≡ true)
unfolding digits_good
good_parts c k n e = both_true (digits_good c k (n / 16)) (place_good c k (n % 16)) e

pub used_place : (c k n : ℕ) → k < c → place_good c k n ≡ true → n < 10
unfolding place_good
used_place c k n h e = ltb-true n 10 (rw (lt-ltb k c h) at e)

pub unused_place : (c k n : ℕ) → c ≤ k → place_good c k n ≡ true → n ≡ 15
unfolding place_good
unused_place c k n h e = eqb-true n 15 (rw (le-ltb k c h) at e)

pub number-suc : (c k n : ℕ) → digits_number c (suc k) n ≡ pick (ltb k c) (digits_number c k (n / 16) * 10 + n % 16) (digits_number c k (n / 16))
unfolding digits_number
number-suc c k n = refl

pub number-none : (c n : ℕ) → digits_number c 0 n ≡ 0
unfolding digits_number
number-none c n = refl

pub number-below : (c k n : ℕ) → digits_good c k n ≡ true → digits_number c k n < 10 ^ min k c
number-below c zero n e = let m : min 0 c ≡ 0 = omega arith in rw (number-none c n, m) (omega arith)
number-below c (suc k) n e = by (ltb k c) refl (good_parts c k n e) (number-below c k (n / 16) (good_parts c k n e).0)
  where
    by : (b : Bool) → ltb k c ≡ b → (digits_good c k (n / 16) ≡ true) × (place_good c k (n % 16) ≡ true) → digits_number c k (n / 16) < 10 ^ min k c → digits_number c (suc k) n < 10 ^ min (suc k) c
    by true t g h =
        let l : k < c = ltb-true k c t in
        let m : min k c ≡ k = omega arith in
        let m' : min (suc k) c ≡ suc k = omega arith in
        let v : digits_number c k (n / 16) < 10 ^ k = subst (λ (j : ℕ). digits_number c k (n / 16) < 10 ^ j) m h in
        rw (number-suc c k n, t, m') (omega (arith, pow-suc 10 k, used_place c k (n % 16) l g.1))
    by false t g h =
        let l : c ≤ k = ltb-false k c t in
        let m : min (suc k) c ≡ min k c = omega arith in
        rw (number-suc c k n, t, m) h

pub number-accepted : (ns : List ℕ) → number_good (number_in ns Name.digit_count) (number_in ns Name.digits) ≡ true → is_note_number (note_number_in ns) ≡ true
unfolding number_good is_note_number
number-accepted ns e =
    let c : ℕ = number_in ns Name.digit_count in
    let d : ℕ = number_in ns Name.digits in
    let parts = both_true (both (leb 1 c) (leb c 10)) (digits_good c 10 d) e in
    let most = (between 1 c 10 parts.0).1 in
    let m : min 10 c ≡ c = omega arith in
    rw parts.0 (lt-ltb (digits_number c 10 d) (10 ^ c) (subst (λ (j : ℕ). digits_number c 10 d < 10 ^ j) m (number-below c 10 d parts.1)))
