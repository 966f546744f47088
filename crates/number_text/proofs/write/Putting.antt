-- Laws of `put`: text written into a list, one text after another, and the loops that write from a
-- text's end to its start.
use Prim.Native.Nat.{ℕ, zero, suc, ◌+◌, ◌-◌, ◌/◌, ◌%◌, ◌≤◌, ◌<◌}
use mathlib.Core.Path.{◌≡◌, refl, sym, ap, ◌∙◌}
use mathlib.Core.List.{List, [], ◌∷◌, ◌++◌, append_assoc}
use native.Mathlib.Nat.{zero-add, add-zero}
use native.Mathlib.Numerals.{add-one}
use native.Mathlib.Omega.{arith}
use lib.ListN.{length, get_or, take, drop, set, length-append, length-take, length-drop, take-append-drop}
use lib.Seq.{set_split, drop-cons, take-set-le, drop-set-lt, get_or-set_same, take_at, drop_at, drop-drop, length-take-le, lt-length-set}
use borrow.Rule.Slice.PartMut.{put_mid}
use Rattle.number_text.specs.declared.write.Writer.{Writer}
use Rattle.number_text.specs.write.Writing.{digits, put, Wrote, HasRoom, Puts}
use Rattle.number_text.proofs.length.Digits.{length_digits}

-- ---- what `put` is

pub put-none : (d : List ℕ) (at : ℕ) → put d at [] ≡ d
unfolding put
put-none d at = rw (add-zero at) (take-append-drop at d)

pub put_one : (d : List ℕ) (at v : ℕ) → at < length d → set d at v ≡ put d at (v ∷ [])
unfolding put
put_one d at v h = set_split d at v h ∙ rw (add-one at)

-- in front of what stands past it
pub put_front : (d xs : List ℕ) (n : ℕ) → length xs ≡ n → put d 0 xs ≡ xs ++ drop n d
unfolding put
put_front d xs n e = rw (zero-add (length xs), e)

pub length-put : (d : List ℕ) (at : ℕ) (xs : List ℕ) → at + length xs ≤ length d → length (put d at xs) ≡ length d
unfolding put
length-put d at xs h = simp (length-append, length-take, length-drop) (omega arith)

-- the text, what stands before it and what stands past it
pub put-before : (d : List ℕ) (at : ℕ) (xs : List ℕ) → at ≤ length d → take at (put d at xs) ≡ take at d
unfolding put
put-before d at xs h = take_at (take at d) (xs ++ drop (at + length xs) d) at (length-take-le at d h)

put-from : (d : List ℕ) (at : ℕ) (xs : List ℕ) → at ≤ length d → drop at (put d at xs) ≡ xs ++ drop (at + length xs) d
unfolding put
put-from d at xs h = drop_at (take at d) (xs ++ drop (at + length xs) d) at (length-take-le at d h)

pub put_text : (d : List ℕ) (at : ℕ) (xs : List ℕ) → at ≤ length d → take (length xs) (drop at (put d at xs)) ≡ xs
put_text d at xs h = ap (take (length xs)) (put-from d at xs h) ∙ take_at xs (drop (at + length xs) d) (length xs) refl

pub put-past : (d : List ℕ) (at : ℕ) (xs : List ℕ) → at ≤ length d → drop (at + length xs) (put d at xs) ≡ drop (at + length xs) d
put-past d at xs h =
    sym (drop-drop (length xs) at (put d at xs))
    ∙ ap (drop (length xs)) (put-from d at xs h)
    ∙ drop_at xs (drop (at + length xs) d) (length xs) refl

-- ---- one text after another

pub put-put : (d : List ℕ) (at : ℕ) (xs ys : List ℕ) → at + length xs + length ys ≤ length d → put (put d at xs) (at + length xs) ys ≡ put d at (xs ++ ys)
unfolding put
put-put d at xs ys h =
    let j : ℕ = at + length xs in
    let p : List ℕ = take at d ++ xs in
    let len : length p ≡ j = length-append (take at d) xs ∙ ap (λ (x : ℕ). x + length xs) (length-take-le at d (omega arith)) in
    let q : put d at xs ≡ p ++ drop j d = sym (append_assoc (take at d) xs (drop j d)) in
    let front : take j (put d at xs) ≡ p = ap (take j) q ∙ take_at p (drop j d) j len in
    let back : drop (j + length ys) (put d at xs) ≡ drop (j + length ys) d =
    sym (drop-drop (length ys) j (put d at xs)) ∙ ap (drop (length ys)) (ap (drop j) q ∙ drop_at p (drop j d) j len) ∙ drop-drop (length ys) j d in
    let long : at + length (xs ++ ys) ≡ j + length ys = omega (arith, length-append xs ys) in
    rw (front, back, long) (append_assoc (take at d) xs (ys ++ drop (j + length ys) d) ∙ ap (λ (r : List ℕ). take at d ++ r) (sym (append_assoc xs ys (drop (j + length ys) d))))

-- the same of lists and places that equal them, which is how a caller has them
pub put_then : (d e f : List ℕ) (at b : ℕ) (xs ys : List ℕ) → e ≡ put d at xs → b ≡ at + length xs → f ≡ put e b ys → at + length xs + length ys ≤ length d → f ≡ put d at (xs ++ ys)
put_then d e f at b xs ys p q r h = r ∙ rw (p, q) (put-put d at xs ys h)

-- what stands where a part of the list is replaced
pub put_part : (d : List ℕ) (at k : ℕ) (xs ys : List ℕ) → ys ≡ xs → k ≡ length xs → put_mid at k d ys ≡ put d at xs
unfolding put
put_part d at k xs ys p q = rw (p, q, drop-drop (length xs) at d)

pub puts_part : (v : Writer) (k j : ℕ) (xs ys : List ℕ) → HasRoom v xs → ys ≡ xs → k ≡ length xs → j ≡ v.at + length xs → Puts v (record v { out = record v.out { now = put_mid v.at k v.out.now ys }; at = j }) xs
puts_part v k j xs ys h e p q =
    let b : put_mid v.at k v.out.now ys ≡ put v.out.now v.at xs = put_part v.out.now v.at k xs ys e p in
    record { lent = refl; size = rw (b) (length-put v.out.now v.at xs h); at = q; bytes = b }

-- ---- writers: one text after another, the same text by another name, and none

pub puts_then : (u v w : Writer) (xs ys : List ℕ) → Puts u v xs → Puts v w ys → HasRoom u (xs ++ ys) → Puts u w (xs ++ ys)
puts_then u v w xs ys p q h =
    let long = length-append xs ys in
    record { lent = q.lent ∙ p.lent; size = q.size ∙ p.size; at = omega (arith, p.at, q.at); bytes = put_then _ _ _ _ _ _ _ p.bytes p.at q.bytes (omega arith) }

-- there is room for the one, and then for the other
pub room_first : (u : Writer) (xs ys : List ℕ) → HasRoom u (xs ++ ys) → HasRoom u xs
room_first u xs ys h = omega (arith, length-append xs ys)

pub room_then : (u v : Writer) (xs ys : List ℕ) → Puts u v xs → HasRoom u (xs ++ ys) → HasRoom v ys
room_then u v xs ys p h = omega (arith, length-append xs ys, p.at, p.size)

pub puts_is : (v w : Writer) (xs ys : List ℕ) → Puts v w xs → xs ≡ ys → Puts v w ys
puts_is v w xs ys p e = rw (← e) p

pub puts_none : (v : Writer) → Puts v v []
puts_none v = record { lent = refl; size = refl; at = omega arith; bytes = sym (put-none v.out.now v.at) }

-- two writers, one after the other
pub wrote_then : (d e f : List ℕ) (at b r : ℕ) (xs ys : List ℕ) → Wrote d e at xs b → Wrote e f b ys r → at + length xs + length ys ≤ length d → Wrote d f at (xs ++ ys) r
wrote_then d e f at b r xs ys p q h = (put_then d e f at b xs ys p.0 p.1 q.0 h, omega (arith, p.1, q.1, length-append xs ys))

-- a byte stored, and nothing written
pub wrote_one : (d : List ℕ) (at v : ℕ) → at < length d → Wrote d (set d at v) at (v ∷ []) (at + 1)
wrote_one d at v h = (put_one d at v h, refl)

pub wrote_none : (d : List ℕ) (at : ℕ) → Wrote d d at [] at
wrote_none d at = (sym (put-none d at), sym (add-zero at))

-- ---- from the end to the start: to store the last byte first and then write the others is to
-- write them all

pub put_last : (d : List ℕ) (at : ℕ) (xs : List ℕ) (v : ℕ) → at + length xs < length d → put (set d (at + length xs) v) at xs ≡ put d at (xs ++ (v ∷ []))
unfolding put
put_last d at xs v h =
    let j : ℕ = at + length xs in
    let tail : drop j (set d j v) ≡ v ∷ drop (suc j) d = drop-cons (set d j v) j 0 (lt-length-set d j v h) ∙ rw (get_or-set_same d j v 0 h, drop-set-lt (suc j) d j v (omega arith)) in
    let long : at + length (xs ++ (v ∷ [])) ≡ suc j = omega (arith, length-append xs (v ∷ [])) in
    rw (take-set-le at d j v (omega arith), tail, long, append_assoc xs (v ∷ []) (drop (suc j) d))

-- with one byte fewer left to write: o is the list so far, z the list at the end
last_less : (o : List ℕ) (at i j v : ℕ) (xs z : List ℕ) → put o at (xs ++ (v ∷ [])) ≡ z → length xs ≡ i → j ≡ i → at + i < length o → put (set o (at + j) v) at xs ≡ z
last_less o at i j v xs z e l k h = rw (k, ← l) (put_last o at xs v (omega arith) ∙ e)

pub digits_less : (o : List ℕ) (at i n : ℕ) (z : List ℕ) → put o at (digits i n) ≡ z → 1 ≤ i → at + i ≤ length o → put (set o (at + (i - 1)) (48 + n % 10)) at (digits (i - 1) (n / 10)) ≡ z
unfolding digits
digits_less o at zero n z e l h = absurd (omega arith)
digits_less o at (suc i) n z e l h =
    let k : suc i - 1 ≡ i = omega arith in
    rw (k) (last_less o at i i (48 + n % 10) (digits i (n / 10)) z e (length_digits i (n / 10)) refl (omega arith))

-- a part from the end to the start: with the bytes from place i on those of s, one byte more is
pub copied_less : (d s : List ℕ) (i : ℕ) → length d ≡ length s → drop i d ≡ drop i s → 1 ≤ i → i ≤ length s → drop (i - 1) (set d (i - 1) (get_or s (i - 1) 0)) ≡ drop (i - 1) s
copied_less d s i l e h m =
    let k : ℕ = i - 1 in
    let v : ℕ = get_or s k 0 in
    let next : suc k ≡ i = omega arith in
    drop-cons (set d k v) k 0 (lt-length-set d k v (omega arith))
    ∙ rw (get_or-set_same d k v 0 (omega arith), drop-set-lt (suc k) d k v (omega arith), next, e)
    (sym (rw (next) at (drop-cons s k 0 (omega arith))))

-- where nothing is left to write, all is written
pub all_put : (o : List ℕ) (at : ℕ) (xs z : List ℕ) → put o at xs ≡ z → length xs ≤ 0 → o ≡ z
all_put o at [] z e h = sym (put-none o at) ∙ e
all_put o at (b ∷ xs) z e h = absurd (omega arith)
