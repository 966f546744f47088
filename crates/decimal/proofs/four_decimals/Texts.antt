-- Laws of the text: its length, its parts one after another, and the same text from an array of
-- digits.
use Prim.Native.Nat.{ℕ, zero, suc, ◌+◌, ◌-◌, ◌*◌, ◌/◌, ◌%◌, ◌^◌, ◌≤◌, ◌<◌, max}
use mathlib.Core.Path.{◌≡◌, sym, ap, ◌∙◌}
use mathlib.Core.Bool.{Bool}
use mathlib.Core.List.{List, [], ◌∷◌, ◌++◌, append_assoc}
use native.Mathlib.Nat.{pow-suc, lt_of_lt_of_le, le_trans, div-lt_iff_lt-mul}
use native.Mathlib.Omega.{arith}
use lib.Pow.{pow-add, pow_mono, shl_lt}
use lib.ListN.{length, take, drop, replicate, length-append, length-replicate, length-drop}
use lib.Seq.{take_at, drop_at, length-take-le}
use Rattle.number_text.specs.write.Writing.{digits, places, decimal_text, sign_text, right_aligned, HasRoom, Puts}
use Rattle.number_text.specs.declared.write.Writer.{Writer}
use Rattle.number_text.proofs.write.Putting.{puts_then, room_then}
use Rattle.number_text.proofs.length.Digits.{length_digits, length_decimal, decimal_within, digits-split, digits_last}
use Rattle.number_text.proofs.length.Signs.{sign_within}
use Rattle.number_text.proofs.write.Writers.{length_aligned, decimal_digits}
use Rattle.decimal.specs.four_decimals.FourDecimals.{four_decimals}
use Rattle.decimal.specs.four_decimals.Pieces.{signed_decimals, front_text, whole_start, pointed, array_text}
use Rattle.decimal.proofs.big_digits.Zeros.{zeros_before, zeros_most}

-- ---- how long it is

pub four_long : (t : ℕ) → length (four_decimals t) ≡ length (decimal_text (t / 10000)) + 5
unfolding four_decimals
four_long t = omega (arith, length-append (decimal_text (t / 10000)) (46 ∷ digits 4 t), length_digits 4 t)

pub signed_long : (s : Bool) (t : ℕ) → length (signed_decimals s t) ≡ max 16 (length (sign_text s) + length (four_decimals t))
signed_long s t = length_aligned 16 (sign_text s ++ four_decimals t) ∙ ap (max 16) (length-append (sign_text s) (four_decimals t))

-- ten digits of a whole part, a point, four decimals and a sign are 16
pub columns_filled : (s : Bool) (t : ℕ) → t < 100000000000000 → 16 ≡ length (signed_decimals s t)
columns_filled s t h = omega (arith, signed_long s t, four_long t, sign_within s, decimal_within 10 (t / 10000) (omega arith) (omega arith))

-- the whole part of 64 bits has at most 20 digits
pub whole_short : (n : ℕ) → n < 18446744073709551616 → length (decimal_text (n / 10000)) ≤ 20
whole_short n h = decimal_within 20 (n / 10000) (omega arith) (omega arith)

pub front_long : (s : Bool) (size : ℕ) → length (front_text s size) ≡ 16 - (length (sign_text s) + size) + length (sign_text s)
front_long s size = length-append (replicate (16 - (length (sign_text s) + size)) 32) (sign_text s) ∙ ap (λ (n : ℕ). n + length (sign_text s)) (length-replicate {A = ℕ} (16 - (length (sign_text s) + size)) 32)

-- the front and the number are the whole text
pub front_room : (s : Bool) (t : ℕ) → length (front_text s (length (four_decimals t))) + length (four_decimals t) ≡ length (signed_decimals s t)
front_room s t = omega (arith, front_long s (length (four_decimals t)), signed_long s t)

pub front_four : (s : Bool) (t : ℕ) → front_text s (length (four_decimals t)) ++ four_decimals t ≡ signed_decimals s t
unfolding right_aligned
front_four s t =
    append_assoc (replicate (16 - (length (sign_text s) + length (four_decimals t))) 32) (sign_text s) (four_decimals t)
    ∙ ap (λ (n : ℕ). replicate (16 - n) 32 ++ (sign_text s ++ four_decimals t)) (sym (length-append (sign_text s) (four_decimals t)))

-- ---- the same text from an array of digits

-- digits are enough: three factors two are less than one of ten
eights : (c : ℕ) → 2 ^ (3 * c) ≤ 10 ^ c
eights zero = omega arith
eights (suc c) = let e : 3 * suc c ≡ 3 * c + 3 = omega arith in rw (e, pow-add 2 (3 * c) 3, pow-suc 10 c) (omega (arith, eights c))

digits_are_enough : (n twos : ℕ) → n < 2 ^ 63 → n * 2 ^ twos < 10 ^ (twos / 3 + 22)
digits_are_enough n twos h =
    let c : ℕ = twos / 3 + 22 in
    let most : 63 + twos ≤ 3 * c = omega arith in
    lt_of_lt_of_le (shl_lt 63 twos h) (le_trans (pow_mono most) (eights c))

-- so a part of that many bytes is long enough
pub part_enough : (d : List ℕ) (k n twos : ℕ) → length d ≡ 347 → k ≡ twos / 3 + 22 → twos ≤ 975 → n < 2 ^ 63 → ((5 ≤ length (take k d)) × (length (take k d) ≤ 347)) × (n * 2 ^ twos < 10 ^ length (take k d))
part_enough d k n twos l e t h =
    rw (length-take-le k d (omega arith)) ((omega arith, omega arith), rw (e) (digits_are_enough n twos h))

-- k digits, the last of the whole part w, and the four decimals; the zeros are among the first k
module _ (k t : ℕ) (enough : t < 10 ^ (suc k + 4)) where
  whole-fits : t / 10000 < 10 ^ suc k
  whole-fits = (div-lt_iff_lt-mul {k = 10000} (omega arith)).1 (rw (pow-add 10 (suc k) 4) at enough)

  parted : digits (suc k + 4) t ≡ digits (suc k) (t / 10000) ++ digits 4 t
  parted = digits-split (suc k) 4 t

  first : take k (digits (suc k + 4) t) ≡ digits k (t / 10000 / 10)
  first =
      let w : ℕ = t / 10000 in
      ap (take k) (parted ∙ ap (λ (x : List ℕ). x ++ digits 4 t) (digits_last k w) ∙ append_assoc (digits k (w / 10)) ((48 + w % 10) ∷ []) (digits 4 t))
      ∙ take_at (digits k (w / 10)) (((48 + w % 10) ∷ []) ++ digits 4 t) k (length_digits k (w / 10))

  start_is : whole_start (digits (suc k + 4) t) + places (t / 10000) ≡ suc k
  start_is =
      let e : length (digits (suc k + 4) t) - 5 ≡ k = omega (arith, length_digits (suc k + 4) t) in
      rw (e, first) (zeros_before k (t / 10000) whole-fits)

  split_is : (z : ℕ) → z + places (t / 10000) ≡ suc k → digits (suc k + 4) t ≡ digits z (t / 10000 / 10 ^ places (t / 10000)) ++ (decimal_text (t / 10000) ++ digits 4 t)
  unfolding decimal_text
  split_is z e =
      let w : ℕ = t / 10000 in
      parted ∙ ap (λ (x : List ℕ). x ++ digits 4 t) (ap (λ (n : ℕ). digits n w) (sym e) ∙ digits-split z (places w) w) ∙ append_assoc (digits z (w / 10 ^ places w)) (digits (places w) w) (digits 4 t)

  pointed_is : (z : ℕ) → z + places (t / 10000) ≡ suc k → pointed (digits (suc k + 4) t) z ≡ four_decimals t
  unfolding four_decimals
  pointed_is z e =
      let w : ℕ = t / 10000 in
      let long : length (digits (suc k + 4) t) ≡ suc k + 4 = length_digits (suc k + 4) t in
      let a : length (digits (suc k + 4) t) - 4 - z ≡ places w = omega arith in
      let b : length (digits (suc k + 4) t) - 4 ≡ suc k = omega arith in
      let whole : drop z (digits (suc k + 4) t) ≡ decimal_text w ++ digits 4 t = ap (drop z) (split_is z e) ∙ drop_at (digits z (w / 10 ^ places w)) (decimal_text w ++ digits 4 t) z (length_digits z (w / 10 ^ places w)) in
      let last : drop (suc k) (digits (suc k + 4) t) ≡ digits 4 t = ap (drop (suc k)) parted ∙ drop_at (digits (suc k) w) (digits 4 t) (suc k) (length_digits (suc k) w) in
      rw (a, b, whole, last, take_at (decimal_text w) (digits 4 t) (places w) (length_decimal w))

-- the digits d of t ten-thousandths: where they begin, and what they say
start_of : (n t : ℕ) → 5 ≤ n → t < 10 ^ n → whole_start (digits n t) + length (four_decimals t) ≡ n + 1
start_of n t h l =
    let e : n ≡ suc (n - 5) + 4 = omega arith in
    let s = rw (← e) at (start_is (n - 5) t (rw (← e) l)) in
    omega (arith, s, four_long t, length_decimal (t / 10000))

pub array_start : (d : List ℕ) (t : ℕ) → 5 ≤ length d → d ≡ digits (length d) t → t < 10 ^ length d → whole_start d + length (four_decimals t) ≡ length d + 1
array_start d t h e l = ap (λ (x : List ℕ). whole_start x + length (four_decimals t)) e ∙ start_of (length d) t h l

text_of : (s : Bool) (n t : ℕ) → 5 ≤ n → t < 10 ^ n → array_text s (digits n t) ≡ signed_decimals s t
text_of s n t h l =
    let e : n ≡ suc (n - 5) + 4 = omega arith in
    let z : ℕ = whole_start (digits n t) in
    let p = rw (← e) at (pointed_is (n - 5) t (rw (← e) l) z (rw (← e) at (start_is (n - 5) t (rw (← e) l)))) in
    let size : length (digits n t) + 1 - z ≡ length (four_decimals t) = omega (arith, length_digits n t, start_of n t h l) in
    rw (size, p) (front_four s t)

pub array_text_lem : (s : Bool) (d : List ℕ) (t : ℕ) → 5 ≤ length d → d ≡ digits (length d) t → t < 10 ^ length d → array_text s d ≡ signed_decimals s t
array_text_lem s d t h e l = ap (array_text s) e ∙ text_of s (length d) t h l

-- ---- how long the parts are

pub pointed_long : (d : List ℕ) (z : ℕ) → z + 5 ≤ length d → length (pointed d z) ≡ length d - z + 1
pointed_long d z h =
    omega (
      arith,
      length-append (take (length d - 4 - z) (drop z d)) (46 ∷ drop (length d - 4) d),
      length-take-le (length d - 4 - z) (drop z d) (omega (arith, length-drop z d)),
      length-drop (length d - 4) d,
    )

pub start_most : (d : List ℕ) → 5 ≤ length d → whole_start d + 5 ≤ length d
start_most d h = omega (arith, zeros_most (take (length d - 5) d), length-take-le (length d - 5) d (omega arith))

pub array_long : (s : Bool) (d : List ℕ) → 5 ≤ length d → length (array_text s d) ≡ length (front_text s (length d + 1 - whole_start d)) + (length d - whole_start d + 1)
array_long s d h = length-append (front_text s (length d + 1 - whole_start d)) (pointed d (whole_start d)) ∙ ap (λ (n : ℕ). length (front_text s (length d + 1 - whole_start d)) + n) (pointed_long d (whole_start d) (start_most d h))

-- ---- written one after the other

pub small_puts : (u v a b w : Writer) (s : Bool) (t k : ℕ) → k ≡ length (decimal_text (t / 10000)) → HasRoom u (signed_decimals s t) → Puts u v (front_text s (k + 5)) → Puts v a (digits k (t / 10000)) → Puts a b (46 ∷ []) → Puts b w (digits 4 t) → Puts u w (signed_decimals s t)
unfolding four_decimals
small_puts u v a b w s t k e h p q r o =
    let size : k + 5 ≡ length (four_decimals t) = omega (arith, four_long t) in
    let front : Puts u v (front_text s (length (four_decimals t))) = rw (size) at p in
    let whole : Puts v a (decimal_text (t / 10000)) = rw (decimal_digits (t / 10000) k e) at q in
    let all : HasRoom u (front_text s (length (four_decimals t)) ++ four_decimals t) = rw (front_four s t) h in
    let rest : HasRoom v (four_decimals t) = room_then u v (front_text s (length (four_decimals t))) (four_decimals t) front all in
    let last : HasRoom a (46 ∷ digits 4 t) = room_then v a (decimal_text (t / 10000)) (46 ∷ digits 4 t) whole rest in
    rw (← front_four s t) (puts_then u v w (front_text s (length (four_decimals t))) (four_decimals t) front (puts_then v a w (decimal_text (t / 10000)) (46 ∷ digits 4 t) whole (puts_then a b w (46 ∷ []) (digits 4 t) r o last) rest) all)

pub array_puts : (u v a b w : Writer) (s : Bool) (d : List ℕ) (z : ℕ) → z ≡ whole_start d → HasRoom u (array_text s d) → Puts u v (front_text s (length d + 1 - z)) → Puts v a (take (length d - 4 - z) (drop z d)) → Puts a b (46 ∷ []) → Puts b w (drop (length d - 4) d) → Puts u w (array_text s d)
array_puts u v a b w s d z e h p q r o =
    let size : ℕ = length d + 1 - whole_start d in
    let whole : List ℕ = take (length d - 4 - whole_start d) (drop (whole_start d) d) in
    let last : List ℕ = drop (length d - 4) d in
    let front : Puts u v (front_text s size) = rw (e) at p in
    let middle : Puts v a whole = rw (e) at q in
    let rest : HasRoom v (pointed d (whole_start d)) = room_then u v (front_text s size) (pointed d (whole_start d)) front h in
    puts_then u v w (front_text s size) (pointed d (whole_start d)) front (puts_then v a w whole (46 ∷ last) middle (puts_then a b w (46 ∷ []) last r o (room_then v a whole (46 ∷ last) middle rest)) rest) h

-- ---- the array e of as many digits as d, once the number is in it

module _ (d e : List ℕ) (t : ℕ) (some : 5 ≤ length d) (same : length e ≡ length d) (are : e ≡ digits (length d) t) (enough : t < 10 ^ length d) where
  pub filled_text : (s : Bool) → array_text s e ≡ signed_decimals s t
  filled_text s = array_text_lem s e t (omega arith) (rw (same) are) (rw (same) enough)

  pub filled_start : whole_start e + length (four_decimals t) ≡ length d + 1
  filled_start = let p = array_start e t (omega arith) (rw (same) are) (rw (same) enough) in omega arith
