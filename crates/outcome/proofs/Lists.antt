-- Parts of a list, as a slice gives them, what holds of every element, those that a test takes, and
-- a list by its rule; over any kind of element.
use Prim.Native.Nat.{ℕ, zero, suc, ◌+◌, ◌-◌, ◌≤◌, ◌<◌}
use mathlib.Core.Path.{◌≡◌, refl, sym, ap, ◌∙◌}
use mathlib.Core.Bool.{Bool, true, false}
use mathlib.Core.List.{List, [], ◌∷◌, ◌++◌}
use native.Mathlib.Nat.{add-zero}
use native.Mathlib.Numerals.{add-one}
use native.Mathlib.Omega.{arith}
use lib.ListN.{length, take, drop, get_or, length-drop, drop_of_length-le}
use lib.Seq.{take_all, take-suc, drop-cons, drop-drop}
use Rattle.outcome.specs.Lists.{Every, those, values_from}

module _ {A : Type 0} where
  -- a part up to the end is all from its start on
  pub part_from : (l : List A) (i : ℕ) → take (length l - i) (drop i l) ≡ drop i l
  part_from l i = take_all (length l - i) (drop i l) (omega (arith, length-drop i l))

  -- the rest from a place on begins with what stands there
  pub head_at : (l : List A) (i : ℕ) (d : A) → i < length l → drop i l ≡ get_or l i d ∷ drop (i + 1) l
  head_at l i d h = rw (add-one i) (drop-cons l i d h)

  -- and the part before it, with what stands there, is the part that ends behind it
  pub take_more : (l : List A) (i : ℕ) (d : A) → i < length l → take (i + 1) l ≡ take i l ++ (get_or l i d ∷ [])
  take_more l i d h = rw (add-one i) (take-suc l i d h)

  pub take_last : (l : List A) (i : ℕ) (d : A) → 1 ≤ i → i ≤ length l → take i l ≡ take (i - 1) l ++ (get_or l (i - 1) d ∷ [])
  take_last l i d h k = let e : i - 1 + 1 ≡ i = omega arith in ap (λ (j : ℕ). take j l) (sym e) ∙ take_more l (i - 1) d (omega arith)

  -- lists that agree from a place on agree from each later one on
  pub tails_agree : (l m : List A) (i j : ℕ) → i ≤ j → drop i l ≡ drop i m → drop j l ≡ drop j m
  tails_agree l m i j h e =
      let there : i + (j - i) ≡ j = omega arith in
      ap (λ (k : ℕ). drop k l) (sym there) ∙ sym (drop-drop (j - i) i l) ∙ ap (drop (j - i)) e ∙ drop-drop (j - i) i m ∙ ap (λ (k : ℕ). drop k m) there

-- what holds of every element holds of every one of two lists joined, of a part, and at each place
module _ {A : Type 0} (P : A → Type 0) where
  pub every_append : (l m : List A) → Every P l → Every P m → Every P (l ++ m)
  every_append [] m h k = k
  every_append (x ∷ l) m h k = (h.0, every_append l m h.1 k)

  pub every_take : (n : ℕ) (l : List A) → Every P l → Every P (take n l)
  every_take zero l h = omega arith
  every_take (suc n) [] h = h
  every_take (suc n) (x ∷ l) h = (h.0, every_take n l h.1)

  pub every_drop : (n : ℕ) (l : List A) → Every P l → Every P (drop n l)
  every_drop zero l h = h
  every_drop (suc n) [] h = h
  every_drop (suc n) (x ∷ l) h = every_drop n l h.1

  pub every_at : (l : List A) (k : ℕ) (d : A) → Every P l → k < length l → P (get_or l k d)
  every_at [] k d a h = absurd (omega arith)
  every_at (x ∷ l) zero d a h = a.0
  every_at (x ∷ l) (suc k) d a h = every_at l k d a.1 (omega arith)

module _ {A : Type 0} (test : A → Bool) where
  pub those-yes : (x : A) (l : List A) → test x ≡ true → those test (x ∷ l) ≡ x ∷ those test l
  unfolding those
  those-yes x l h = rw h

  pub those_no : (x : A) (l : List A) → test x ≡ false → those test (x ∷ l) ≡ those test l
  unfolding those
  those_no x l h = rw h

  pub those-none : (l : List A) (i : ℕ) → length l ≤ i → those test (drop i l) ≡ []
  unfolding those
  those-none l i h = ap (those test) (drop_of_length-le l h)

-- i elements are passed, and the test took k of them
pub record Passed {A : Type 0} (test : A → Bool) (l : List A) (i k : ℕ) : Type 0 where
  pub inside : i ≤ length l
  pub small : k ≤ i
  pub told : k + length (those test (drop i l)) ≡ length (those test l)

module _ {A : Type 0} (test : A → Bool) (l : List A) where
  pub passed_none : Passed test l 0 0
  passed_none = record { inside = omega arith; small = omega arith; told = omega arith }

  module _ (i k : ℕ) (x : A) (inside : i < length l) (at : drop i l ≡ x ∷ drop (i + 1) l) (p : Passed test l i k) where
    pub passed_yes : test x ≡ true → Passed test l (i + 1) (k + 1)
    passed_yes h = record { inside = omega arith; small = omega (arith, p.small); told = omega (arith, p.told, ap length (ap (those test) at ∙ those-yes test x (drop (i + 1) l) h)) }

    pub passed_no : test x ≡ false → Passed test l (i + 1) k
    passed_no h = record { inside = omega arith; small = omega (arith, p.small); told = omega (arith, p.told, ap length (ap (those test) at ∙ those_no test x (drop (i + 1) l) h)) }

    -- one that the test takes has a place among those
    pub passed_fits : test x ≡ true → k < length (those test l)
    passed_fits h = omega (arith, p.told, ap length (ap (those test) at ∙ those-yes test x (drop (i + 1) l) h))

  pub passed_all : (i k : ℕ) → length l ≤ i → Passed test l i k → k ≡ length (those test l)
  passed_all i k h p = omega (arith, p.told, ap length (those-none test l i h))

-- a list by its rule, as a loop that stands at i of n leaves it, and at each place
module _ {A : Type 0} (f : ℕ → A) where
  pub length_values : (i n : ℕ) → length (values_from f i n) ≡ n
  unfolding values_from
  length_values i zero = refl
  length_values i (suc n) = ap suc (length_values (i + 1) n)

  pub values_none : (i n : ℕ) → n ≤ i → values_from f i (n - i) ≡ []
  unfolding values_from
  values_none i n h = let e : n - i ≡ 0 = omega arith in rw (e)

  pub values_next : (i n : ℕ) → i < n → values_from f i (n - i) ≡ f i ∷ values_from f (i + 1) (n - (i + 1))
  unfolding values_from
  values_next i n h = let e : n - i ≡ suc (n - (i + 1)) = omega arith in rw (e)

  pub value-at : (i n k : ℕ) (d : A) → k < n → get_or (values_from f i n) k d ≡ f (i + k)
  unfolding values_from
  value-at i zero k d h = absurd (omega arith)
  value-at i (suc n) zero d h = rw add-zero
  value-at i (suc n) (suc k) d h = value-at (i + 1) n k d (omega arith) ∙ ap f (omega arith)
