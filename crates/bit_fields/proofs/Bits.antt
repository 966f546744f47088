-- Fields and their numbers, each from the other; and bytes as bits.
use Prim.Native.Nat.{ℕ, zero, suc, ◌+◌, ◌-◌, ◌*◌, ◌/◌, ◌%◌, ◌^◌, ◌≤◌, ◌<◌}
use mathlib.Core.Path.{◌≡◌, refl, sym, ap, subst, ◌∙◌}
use mathlib.Core.List.{List, [], ◌∷◌, ◌++◌, append_assoc, append-nil, map, map-append}
use native.Mathlib.Nat.{zero-add, sub-zero, add_assoc, add-mul, mul-zero, mul-suc, mul_assoc, mod-eq_of_lt, lt_of_lt_of_le}
use native.Mathlib.Omega.{arith}
use lib.Arith.{digits_div, digits_mod}
use lib.Pow.{pow-add, pow_mono}
use lib.ListN.{length, take, drop, get_or, length-append, length-drop, take-append-drop}
use lib.Seq.{take-add, take_at, drop_at, drop-nil, drop-drop, drop-append-add, length-take-le}
use Rattle.outcome.specs.Lists.{Every}
use Rattle.outcome.proofs.Lists.{take_more, every_append, every_take, every_drop}
use Rattle.number_text.proofs.length.Numerals.{numeral, worth, Digit, length_numeral, numeral_are, numeral_split, worth_append, worth_value, worth_below, worth_numeral, numeral_worth}
use Rattle.bit_fields.specs.Bits.{Field, in_bits, field_bits, fields_bits, continued_bits, bits_number, bits_of, field, bytes_of, AreBytes}

-- ---- bits are numerals to the base two

abbrev pub Bit : ℕ → Type 0
Bit = Digit 2 0

-- every one is a bit
abbrev pub AreBits : List ℕ → Type 0
AreBits s = Every Bit s

field_numeral : (w n : ℕ) → field_bits w n ≡ numeral 2 0 w n
unfolding field_bits numeral
field_numeral zero n = refl
field_numeral (suc w) n = rw (field_numeral w (n / 2), zero-add (n % 2))

bits_worth : (v : ℕ) (s : List ℕ) → continued_bits v s ≡ worth 2 0 v s
unfolding continued_bits worth
bits_worth v [] = refl
bits_worth v (b ∷ s) = rw (sub-zero b) (bits_worth (v * 2 + b) s)

-- ---- a field of a number

pub length-field : (w n : ℕ) → length (field_bits w n) ≡ w
length-field w n = rw (field_numeral w n) (length_numeral 2 0 w n)

pub one_field : (f : Field) → fields_bits (f ∷ []) ≡ field_bits f.width f.number
unfolding fields_bits
one_field f = append-nil (field_bits f.width f.number)

pub field-bits : (w n : ℕ) → AreBits (field_bits w n)
field-bits w n = rw (field_numeral w n) (numeral_are 2 0 (omega arith) w n)

-- a field in two
pub field-split : (a b n : ℕ) → field_bits (a + b) n ≡ field_bits a (n / 2 ^ b) ++ field_bits b n
field-split a b n = simp field_numeral (numeral_split 2 0 a b n)

-- ---- the number that bits are

pub number_append : (s t : List ℕ) → bits_number (s ++ t) ≡ bits_number s * 2 ^ length t + bits_number t
number_append s t = simp bits_worth (worth_append 2 0 0 s t ∙ worth_value 2 0 (worth 2 0 0 s) t)

pub number-below : (s : List ℕ) → AreBits s → bits_number s < 2 ^ length s
number-below s h = rw (bits_worth 0 s) (worth_below 2 0 s h)

-- bits are the field of their number
pub field-number : (s : List ℕ) → AreBits s → field_bits (length s) (bits_number s) ≡ s
field-number s h = rw (bits_worth 0 s, field_numeral (length s) (worth 2 0 0 s)) (numeral_worth 2 0 0 s h)

-- and the number of a field is the number, cut to its width
pub number_cut : (w n : ℕ) → bits_number (field_bits w n) ≡ n % 2 ^ w
number_cut w n = rw (field_numeral w n, bits_worth 0 (numeral 2 0 w n)) (worth_numeral 2 0 (omega arith) w n)

pub number-field : (w n : ℕ) → n < 2 ^ w → bits_number (field_bits w n) ≡ n
number-field w n h = number_cut w n ∙ mod-eq_of_lt h

-- what is above a field does not show in it
pub field_cut : (w n : ℕ) → field_bits w (n % 2 ^ w) ≡ field_bits w n
field_cut w n =
    let l : length (field_bits w n) ≡ w = length-field w n in
    ap (field_bits w) (sym (number_cut w n)) ∙ ap (λ (k : ℕ). field_bits k (bits_number (field_bits w n))) (sym l) ∙ field-number (field_bits w n) (field-bits w n)

-- ---- fields one after the other

pub fields_append : (fs gs : List Field) → fields_bits (fs ++ gs) ≡ fields_bits fs ++ fields_bits gs
unfolding fields_bits
fields_append [] gs = refl
fields_append (f ∷ fs) gs = rw (fields_append fs gs) (sym (append_assoc (field_bits f.width f.number) (fields_bits fs) (fields_bits gs)))

pub fields_are : (fs : List Field) → AreBits (fields_bits fs)
unfolding fields_bits
fields_are [] = omega arith
fields_are (f ∷ fs) = every_append Bit (field_bits f.width f.number) (fields_bits fs) (field-bits f.width f.number) (fields_are fs)

-- how many bits they take
abbrev pub widths : List Field → ℕ
widths [] = 0
widths (f ∷ fs) = f.width + widths fs

pub length_fields : (fs : List Field) → length (fields_bits fs) ≡ widths fs
unfolding fields_bits
length_fields [] = refl
length_fields (f ∷ fs) = omega (arith, length-append (field_bits f.width f.number) (fields_bits fs), length-field f.width f.number, length_fields fs)

-- where each is w wide
pub same_widths : (w : ℕ) (s : List ℕ) → widths (map (in_bits w) s) ≡ w * length s
same_widths w [] = sym (mul-zero w)
same_widths w (n ∷ s) = rw (mul-suc w (length s)) (omega (arith, same_widths w s))

-- ---- bytes as bits

pub length-bits : (s : List ℕ) → length (bits_of s) ≡ 8 * length s
unfolding bits_of
length-bits s = length_fields (map (in_bits 8) s) ∙ same_widths 8 s

pub bits_are : (s : List ℕ) → AreBits (bits_of s)
unfolding bits_of
bits_are s = fields_are (map (in_bits 8) s)

pub bits_of_append : (s t : List ℕ) → bits_of (s ++ t) ≡ bits_of s ++ bits_of t
unfolding bits_of
bits_of_append s t = ap fields_bits (map-append (in_bits 8) s t) ∙ fields_append (map (in_bits 8) s) (map (in_bits 8) t)

-- whole bytes are whole eights of bits
pub bits_of-drop : (i : ℕ) (s : List ℕ) → drop (8 * i) (bits_of s) ≡ bits_of (drop i s)
unfolding bits_of fields_bits
bits_of-drop zero s = refl
bits_of-drop (suc i) [] = drop-nil (8 * suc i)
bits_of-drop (suc i) (b ∷ s) =
    let e : 8 * suc i ≡ length (field_bits 8 b) + 8 * i = omega (arith, length-field 8 b) in
    rw (e) (drop-append-add (field_bits 8 b) (bits_of s) (8 * i)) ∙ bits_of-drop i s

pub bits_of-take : (k : ℕ) (s : List ℕ) → k ≤ length s → take (8 * k) (bits_of s) ≡ bits_of (take k s)
bits_of-take k s h =
    let e : 8 * k ≡ length (bits_of (take k s)) = omega (arith, length-bits (take k s), length-take-le k s h) in
    ap (λ (t : List ℕ). take (8 * k) (bits_of t)) (sym (take-append-drop k s))
    ∙ ap (take (8 * k)) (bits_of_append (take k s) (drop k s))
    ∙ take_at (bits_of (take k s)) (bits_of (drop k s)) (8 * k) (sym e)

-- bytes are the bytes of their bits
pub bytes_back : (s : List ℕ) → AreBytes s → bytes_of (length s) (bits_of s) ≡ s
unfolding bytes_of bits_of fields_bits
bytes_back [] h = refl
bytes_back (b ∷ s) h =
    let first : take 8 (field_bits 8 b ++ bits_of s) ≡ field_bits 8 b = take_at (field_bits 8 b) (bits_of s) 8 (length-field 8 b) in
    let rest : drop 8 (field_bits 8 b ++ bits_of s) ≡ bits_of s = drop_at (field_bits 8 b) (bits_of s) 8 (length-field 8 b) in
    rw (first, rest, number-field 8 b h.0, bytes_back s h.1)

pub length-bytes : (k : ℕ) (s : List ℕ) → length (bytes_of k s) ≡ k
unfolding bytes_of
length-bytes zero s = refl
length-bytes (suc k) s = ap suc (length-bytes k (drop 8 s))

-- and bits, eight by eight, are the bits of their bytes
pub bits_back : (k : ℕ) (s : List ℕ) → AreBits s → length s ≡ 8 * k → bits_of (bytes_of k s) ≡ s
unfolding bytes_of bits_of fields_bits
bits_back zero [] h e = refl
bits_back zero (b ∷ s) h e = absurd (omega arith)
bits_back (suc k) s h e =
    let long : length (take 8 s) ≡ 8 = length-take-le 8 s (omega arith) in
    let first : field_bits 8 (bits_number (take 8 s)) ≡ take 8 s = ap (λ (w : ℕ). field_bits w (bits_number (take 8 s))) (sym long) ∙ field-number (take 8 s) (every_take Bit 8 s h) in
    rw (first, bits_back k (drop 8 s) (every_drop Bit 8 s h) (omega (arith, length-drop 8 s))) (take-append-drop 8 s)

pub bytes-are : (k : ℕ) (s : List ℕ) → AreBits s → length s ≡ 8 * k → AreBytes (bytes_of k s)
unfolding bytes_of
bytes-are zero s h e = omega arith
bytes-are (suc k) s h e =
    let long : length (take 8 s) ≡ 8 = length-take-le 8 s (omega arith) in
    let n : bits_number (take 8 s) < 2 ^ length (take 8 s) = number-below (take 8 s) (every_take Bit 8 s h) in
    (subst (λ (w : ℕ). bits_number (take 8 s) < 2 ^ w) long n, bytes-are k (drop 8 s) (every_drop Bit 8 s h) (omega (arith, length-drop 8 s)))

-- ---- reading a field by whole bytes

pub one_byte : (b : ℕ) → bits_of (b ∷ []) ≡ field_bits 8 b
unfolding bits_of
one_byte b = one_field (in_bits 8 b)

-- seven bytes leave room for one more
pub bytes_small : (s : List ℕ) (k n : ℕ) → n ≡ bits_number (bits_of (take k s)) → k ≤ length s → k ≤ 7 → n < 72057594037927936
bytes_small s k n e h l =
    let size : length (bits_of (take k s)) ≡ 8 * k = omega (arith, length-bits (take k s), length-take-le k s h) in
    rw (e) (lt_of_lt_of_le (number-below (bits_of (take k s)) (bits_are (take k s))) (pow_mono {j = 56} (omega arith)))

-- and it is the next one
pub bytes_more : (s : List ℕ) (k n b : ℕ) → k < length s → n ≡ bits_number (bits_of (take k s)) → b ≡ get_or s k 0 → b < 256 → n * 256 + b ≡ bits_number (bits_of (take (k + 1) s))
bytes_more s k n b h e f l =
    let part : List ℕ = take k s in
    let eight : 2 ^ length (field_bits 8 b) ≡ 256 = ap (λ (w : ℕ). 2 ^ w) (length-field 8 b) in
    sym (
    ap (λ (t : List ℕ). bits_number (bits_of t)) (take_more s k 0 h ∙ ap (λ (x : ℕ). part ++ (x ∷ [])) (sym f))
    ∙ ap bits_number (bits_of_append part (b ∷ []) ∙ ap (λ (t : List ℕ). bits_of part ++ t) (one_byte b))
    ∙ number_append (bits_of part) (field_bits 8 b)
    ∙ rw (eight, number-field 8 b l, e)
    )

-- three parts, the middle one taken out
middle : (xs ys zs : List ℕ) → AreBits ys → AreBits zs → bits_number (xs ++ (ys ++ zs)) / 2 ^ length zs % 2 ^ length ys ≡ bits_number ys
middle xs ys zs h k =
    let A : ℕ = bits_number xs in
    let F : ℕ = bits_number ys in
    let Z : ℕ = bits_number zs in
    let w : ℕ = 2 ^ length ys in
    let t : ℕ = 2 ^ length zs in
    let both : bits_number (xs ++ (ys ++ zs)) ≡ (A * w + F) * t + Z =
    number_append xs (ys ++ zs)
    ∙ rw (number_append ys zs, length-append ys zs, pow-add 2 (length ys) (length zs), add-mul (A * w) F t, mul_assoc A w t) (sym (add_assoc (A * (w * t)) (F * t) Z)) in
    ap (λ (n : ℕ). n / t % w) both ∙ ap (λ (n : ℕ). n % w) (digits_div (A * w + F) (number-below zs k)) ∙ digits_mod A (number-below ys h)

pub field_read : (s : List ℕ) (at w i k t : ℕ) → 8 * i ≤ at → at + w + t ≡ 8 * (i + k) → i + k ≤ length s → bits_number (bits_of (take k (drop i s))) / 2 ^ t % 2 ^ w ≡ field s at w
unfolding field
field_read s at w i k t h e l =
    let p : ℕ = at - 8 * i in
    let B : List ℕ = bits_of (drop i s) in
    let C : List ℕ = drop p B in
    let size : length B ≡ 8 * (length s - i) = length-bits (drop i s) ∙ ap (λ (n : ℕ). 8 * n) (length-drop i s) in
    let rest : length C ≡ length B - p = length-drop p B in
    let place : 8 * i + p ≡ at = omega arith in
    let there : C ≡ drop at (bits_of s) =
    ap (drop p) (sym (bits_of-drop i s)) ∙ drop-drop p (8 * i) (bits_of s) ∙ ap (λ (n : ℕ). drop n (bits_of s)) place in
    let total : 8 * k ≡ p + (w + t) = omega arith in
    let cut : bits_of (take k (drop i s)) ≡ take p B ++ (take w C ++ take t (drop w C)) =
    sym (bits_of-take k (drop i s) (omega (arith, length-drop i s)))
    ∙ ap (λ (n : ℕ). take n B) total
    ∙ take-add p (w + t) B
    ∙ ap (λ (r : List ℕ). take p B ++ r) (take-add w t C) in
    let W : length (take w C) ≡ w = length-take-le w C (omega arith) in
    let Z : length (take t (drop w C)) ≡ t = length-take-le t (drop w C) (omega (arith, length-drop w C)) in
    let bits : AreBits C = every_drop Bit p B (bits_are (drop i s)) in
    let found : bits_number (take p B ++ (take w C ++ take t (drop w C))) / 2 ^ length (take t (drop w C)) % 2 ^ length (take w C) ≡ bits_number (take w C) =
    middle (take p B) (take w C) (take t (drop w C)) (every_take Bit w C bits) (every_take Bit t (drop w C) (every_drop Bit w C bits)) in
    ap (λ (r : List ℕ). bits_number r / 2 ^ t % 2 ^ w) cut
    ∙ (rw (W, Z) at found)
    ∙ ap (λ (r : List ℕ). bits_number (take w r)) there

-- the same as the code has it
pub field-whole : (s : List ℕ) (at w n p : ℕ) → n ≡ bits_number (bits_of (take ((at + w + 7) / 8 - at / 8) (drop (at / 8) s))) → p ≡ 2 ^ w → at + w ≤ 8 * length s → n / 2 ^ ((at + w + 7) / 8 * 8 - at - w) % p ≡ field s at w
field-whole s at w n p e f h =
    rw (e, f) (field_read s at w (at / 8) ((at + w + 7) / 8 - at / 8) ((at + w + 7) / 8 * 8 - at - w) (omega arith) (omega arith) (omega arith))

-- a field in two, where both are there
pub field-join : (s : List ℕ) (at a b : ℕ) → at + a + b ≤ 8 * length s → field s at (a + b) ≡ field s at a * 2 ^ b + field s (at + a) b
unfolding field
field-join s at a b h =
    let B : List ℕ = drop at (bits_of s) in
    let size : length B ≡ 8 * length s - at = length-drop at (bits_of s) ∙ ap (λ (n : ℕ). n - at) (length-bits s) in
    let tail : drop a B ≡ drop (at + a) (bits_of s) = drop-drop a at (bits_of s) in
    let long : length (take b (drop a B)) ≡ b = length-take-le b (drop a B) (omega (arith, length-drop a B)) in
    ap bits_number (take-add a b B)
    ∙ number_append (take a B) (take b (drop a B))
    ∙ ap (λ (n : ℕ). bits_number (take a B) * 2 ^ n + bits_number (take b (drop a B))) long
    ∙ ap (λ (t : List ℕ). bits_number (take a B) * 2 ^ b + bits_number (take b t)) tail

-- a field is below its power of two
pub field_below : (s : List ℕ) (at w : ℕ) → at + w ≤ 8 * length s → field s at w < 2 ^ w
unfolding field
field_below s at w h =
    let B : List ℕ = drop at (bits_of s) in
    let size : length (take w B) ≡ w = length-take-le w B (omega (arith, length-drop at (bits_of s), length-bits s)) in
    subst (λ (n : ℕ). bits_number (take w B) < 2 ^ n) size (number-below (take w B) (every_take Bit w B (every_drop Bit at (bits_of s) (bits_are s))))

-- and the bits from a place on begin with those of its number
pub field_at : (s : List ℕ) (at w : ℕ) → at + w ≤ 8 * length s → drop at (bits_of s) ≡ field_bits w (field s at w) ++ drop (at + w) (bits_of s)
unfolding field
field_at s at w h =
    let B : List ℕ = drop at (bits_of s) in
    let size : length (take w B) ≡ w = length-take-le w B (omega (arith, length-drop at (bits_of s), length-bits s)) in
    let first : field_bits w (bits_number (take w B)) ≡ take w B = ap (λ (n : ℕ). field_bits n (bits_number (take w B))) (sym size) ∙ field-number (take w B) (every_take Bit w B (every_drop Bit at (bits_of s) (bits_are s))) in
    sym (take-append-drop w B) ∙ rw (first) (ap (λ (t : List ℕ). take w B ++ t) (drop-drop w at (bits_of s)))

-- a number that was put at a place is read there
pub field_found : (s : List ℕ) (at w x : ℕ) (before behind : List ℕ) → bits_of s ≡ before ++ (field_bits w x ++ behind) → length before ≡ at → x < 2 ^ w → field s at w ≡ x
unfolding field
field_found s at w x before behind e l h =
    let there : drop at (bits_of s) ≡ field_bits w x ++ behind = ap (drop at) e ∙ drop_at before (field_bits w x ++ behind) at l in
    ap (λ (t : List ℕ). bits_number (take w t)) there
    ∙ ap bits_number (take_at (field_bits w x) behind w (length-field w x))
    ∙ number-field w x h

-- a wide field, read in two parts
module _ (s : List ℕ) (at w h l : ℕ) (e : h ≡ field s at (w - 32)) (f : l ≡ field s (at + (w - 32)) 32) (from : 32 ≤ w) (to : w ≤ 64) (there : at + w ≤ 8 * length s) where
  pub high_below : h < 4294967296
  high_below = rw (e) (lt_of_lt_of_le (field_below s at (w - 32) (omega arith)) (pow_mono {j = 32} (omega arith)))

  pub two_below : h * 4294967296 + l < 18446744073709551616
  two_below = let m : l < 4294967296 = rw (f) (field_below s (at + (w - 32)) 32 (omega arith)) in omega (arith, high_below)

  pub two_parts : h * 4294967296 + l ≡ field s at w
  two_parts =
      let k : w - 32 + 32 ≡ w = omega arith in
      rw (e, f) (sym (field-join s at (w - 32) 32 (omega arith)) ∙ ap (field s at) k)
