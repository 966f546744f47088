-- Bits at hand go out as whole bytes; fields put one after the other stand one after the other.
use Prim.Native.Nat.{ℕ, ◌+◌, ◌-◌, ◌*◌, ◌/◌, ◌%◌, ◌^◌, ◌≤◌, ◌<◌}
use mathlib.Core.Path.{◌≡◌, refl, sym, ap, ◌∙◌}
use mathlib.Core.List.{List, [], ◌∷◌, ◌++◌, append_assoc, append-nil}
use native.Mathlib.Nat.{add-zero, mod-lt, lt_of_lt_of_le}
use native.Mathlib.Numerals.{add-one}
use native.Mathlib.Omega.{arith}
use lib.Pow.{pow-add, pow_pos, pow_mono, shr_lt}
use lib.Arith.{digits_lt, digits_div, digits_mod}
use lib.ListN.{length, take, drop, set, length-append, length-set, take-append-drop}
use lib.Seq.{take-suc-set, drop-set-lt, length-take-le}
use Rattle.outcome.proofs.Lists.{tails_agree, every_append}
use Rattle.bit_fields.specs.Bits.{Field, in_bits, field_bits, fields_bits, bits_of, bytes_of, AreBytes}
use Rattle.bit_fields.specs.BitWriters.{bits_so_far, put_so_far, FieldsPut}
use Rattle.bit_fields.specs.declared.BitWriter.{BitWriter}
use Rattle.bit_fields.specs.declared.LentBits.{LentBits}
use Rattle.bit_fields.proofs.Bits.{length-field, one_field, field-split, field_cut, fields_append, bits_of_append, one_byte, bytes_back, length-bytes}
use Rattle.number_text.specs.write.Writing.{put}
use Rattle.number_text.proofs.write.Putting.{put_front}

-- what has gone out since the place, the count and the bits of the start
pub record Flushed (out₀ : List ℕ) (place₀ count₀ bits₀ : ℕ) (out : List ℕ) (place count bits : ℕ) : Type 0 where
  pub small : count ≤ 63
  pub below : bits < 2 ^ count
  pub standing : bits_of (take place out) ++ field_bits count bits ≡ bits_of (take place₀ out₀) ++ field_bits count₀ bits₀
  pub bytes : AreBytes (take place₀ out₀) → AreBytes (take place out)
  pub past : drop place out ≡ drop place out₀
  pub same_length : length out ≡ length out₀
  pub moved : 8 * place + count ≡ 8 * place₀ + count₀
  pub room : 8 * place₀ + count₀ ≤ 8 * length out₀

pub flushed_none : (out : List ℕ) (place count bits : ℕ) → count ≤ 63 → bits < 2 ^ count → 8 * place + count ≤ 8 * length out → Flushed out place count bits out place count bits
flushed_none out place count bits h l r = record { small = h; below = l; standing = refl; bytes = λ a. a; past = refl; same_length = refl; moved = refl; room = r }

module _ {out₀ : List ℕ} {place₀ count₀ bits₀ : ℕ} {out : List ℕ} {place count bits : ℕ} (f : Flushed out₀ place₀ count₀ bits₀ out place count bits) (h : 8 ≤ count) where
  -- there is a place for the next byte, and it is a byte
  pub flushed_place : place < length out
  flushed_place = omega (arith, f.moved, f.room, f.same_length)

  pub flushed_byte : bits / 2 ^ (count - 8) < 256
  flushed_byte = let e : 8 + (count - 8) ≡ count = omega arith in shr_lt 8 (count - 8) (rw (e) f.below)

  next_taken : (v : ℕ) → take (place + 1) (set out place v) ≡ take place out ++ (v ∷ [])
  next_taken v = rw (add-one place) (take-suc-set out place v flushed_place)

  next-standing : bits_of (take (place + 1) (set out place (bits / 2 ^ (count - 8)))) ++ field_bits (count - 8) (bits % 2 ^ (count - 8)) ≡ bits_of (take place out) ++ field_bits count bits
  next-standing =
      let v : ℕ = bits / 2 ^ (count - 8) in
      let e : 8 + (count - 8) ≡ count = omega arith in
      let front : bits_of (take (place + 1) (set out place v)) ≡ bits_of (take place out) ++ field_bits 8 v =
      ap bits_of (next_taken v)
      ∙ bits_of_append (take place out) (v ∷ [])
      ∙ ap (λ (t : List ℕ). bits_of (take place out) ++ t) (one_byte v) in
      let both : field_bits 8 v ++ field_bits (count - 8) bits ≡ field_bits count bits = sym (field-split 8 (count - 8) bits) ∙ ap (λ (k : ℕ). field_bits k bits) e in
      rw (front, field_cut (count - 8) bits) (append_assoc (bits_of (take place out)) (field_bits 8 v) (field_bits (count - 8) bits) ∙ ap (λ (t : List ℕ). bits_of (take place out) ++ t) both)

  next_past : (v : ℕ) → drop (place + 1) (set out place v) ≡ drop (place + 1) out₀
  next_past v =
      drop-set-lt (place + 1) out place v (omega arith) ∙ tails_agree out out₀ place (place + 1) (omega arith) f.past

  next-bytes : (v : ℕ) → v ≡ bits / 2 ^ (count - 8) → AreBytes (take place out) → AreBytes (take (place + 1) (set out place v))
  next-bytes v e a =
      rw (next_taken v) (every_append (λ b. b < 256) (take place out) (v ∷ []) a (rw (e) flushed_byte, omega arith))

  pub flushed_more : (v b : ℕ) → v ≡ bits / 2 ^ (count - 8) → b ≡ bits % 2 ^ (count - 8) → Flushed out₀ place₀ count₀ bits₀ (set out place v) (place + 1) (count - 8) b
  flushed_more v b p q = record {
    small = omega (arith, f.small);
    below = rw (q) (mod-lt bits (pow_pos (count - 8)));
    standing = rw (p, q) (next-standing ∙ f.standing);
    bytes = λ a. next-bytes v p (f.bytes a);
    past = next_past v;
    same_length = length-set out place v ∙ f.same_length;
    moved = omega (arith, f.moved);
    room = f.room;
  }

-- ---- a field behind the bits at hand

module _ (p : BitWriter) (w x m : ℕ) (k : w ≤ 56) (l : x < 2 ^ w) (e : m ≡ 2 ^ w) where
  pub gathered_below : p.bits * m + x < 2 ^ (p.count + w)
  gathered_below = rw (e, pow-add 2 p.count w) (digits_lt p.held l)

  pub gathered_fits : p.bits * m + x < 18446744073709551616
  gathered_fits = let n : p.count + w ≤ 64 = omega (arith, p.part_of_a_byte) in lt_of_lt_of_le gathered_below (pow_mono {j = 64} n)

  gathered_bits : field_bits (p.count + w) (p.bits * m + x) ≡ field_bits p.count p.bits ++ field_bits w x
  gathered_bits =
      let N : ℕ = p.bits * 2 ^ w + x in
      let top : N / 2 ^ w ≡ p.bits = digits_div p.bits l in
      let low : field_bits w N ≡ field_bits w x = sym (field_cut w N) ∙ ap (field_bits w) (digits_mod p.bits l) in
      rw (e) (field-split p.count w N ∙ rw (top, low))

module _ (p : LentBits) (w x m : ℕ) (k : w ≤ 56) (l : x < 2 ^ w) (e : m ≡ 2 ^ w) where
  pub field_put : (r : LentBits) → r.out.ghost_name ≡ p.out.ghost_name → Flushed p.out.now p.writer.place (p.writer.count + w) (p.writer.bits * m + x) r.out.now r.writer.place r.writer.count r.writer.bits → FieldsPut p r w (in_bits w x ∷ [])
  field_put r g f = record {
    same_reference = g;
    standing = f.standing ∙ rw (gathered_bits p.writer w x m k l e, one_field (in_bits w x)) (sym (append_assoc (bits_of (take p.writer.place p.out.now)) (field_bits p.writer.count p.writer.bits) (field_bits w x)));
    bytes = f.bytes;
    past = f.past;
    same_length = f.same_length;
    moved = omega (arith, f.moved);
    counted = rw (one_field (in_bits w x)) (length-field w x);
  }

-- ---- all of them

-- since the bytes d, the bits s were put
pub record BitsPut (d : List ℕ) (p : LentBits) (s : List ℕ) : Type 0 where
  pub standing : put_so_far p ≡ s
  pub bytes : AreBytes (take p.writer.place p.out.now)
  pub past : drop p.writer.place p.out.now ≡ drop p.writer.place d
  pub same_length : length p.out.now ≡ length d
  pub placed : bits_so_far p ≡ length s

no_bits : (n : ℕ) → field_bits 0 n ≡ []
unfolding field_bits
no_bits n = refl

-- where the fields end at a byte's end, their bytes stand in front of the old ones
pub bits_put_all : (d : List ℕ) (p : LentBits) (s : List ℕ) (k : ℕ) → BitsPut d p s → length s ≡ 8 * k → k ≤ length d → (p.out.now ≡ put d 0 (bytes_of k s)) × (p.writer.place ≡ k)
bits_put_all d p s k i l h =
    let e : List ℕ = p.out.now in
    let whole : p.writer.place ≡ k = omega (arith, i.placed, p.writer.part_of_a_byte) in
    let none : p.writer.count ≡ 0 = omega (arith, i.placed, p.writer.part_of_a_byte) in
    let front : bits_of (take k e) ≡ s = sym (append-nil (bits_of (take k e))) ∙ (rw (whole, none, no_bits p.writer.bits) at i.standing) in
    let size : length (take k e) ≡ k = length-take-le k e (omega (arith, i.same_length)) in
    let bytes : bytes_of k s ≡ take k e = ap (bytes_of k) (sym front) ∙ ap (λ (n : ℕ). bytes_of n (bits_of (take k e))) (sym size) ∙ bytes_back (take k e) (rw (whole) at i.bytes) in
    (sym (take-append-drop k e) ∙ rw (rw (whole) at i.past, ← bytes) (sym (put_front d (bytes_of k s) k (length-bytes k s))), whole)

-- ---- fields one after the other

pub put-none : (p : LentBits) → FieldsPut p p 0 []
unfolding fields_bits
put-none p = record {
  same_reference = refl;
  standing = sym (append-nil (put_so_far p));
  bytes = λ a. a;
  past = refl;
  same_length = refl;
  moved = sym (add-zero (bits_so_far p));
  counted = refl;
}

pub put_then : {p q r : LentBits} {m n : ℕ} {fs gs : List Field} → FieldsPut p q m fs → FieldsPut q r n gs → FieldsPut p r (m + n) (fs ++ gs)
put_then {p} {q} {r} {m} {n} {fs} {gs} a b = record {
  same_reference = b.same_reference ∙ a.same_reference;
  standing = b.standing ∙ ap (λ (x : List ℕ). x ++ fields_bits gs) a.standing ∙ append_assoc (put_so_far p) (fields_bits fs) (fields_bits gs) ∙ ap (λ (x : List ℕ). put_so_far p ++ x) (sym (fields_append fs gs));
  bytes = λ x. b.bytes (a.bytes x);
  past = b.past ∙ tails_agree q.out.now p.out.now q.writer.place r.writer.place (omega (arith, b.moved, q.writer.part_of_a_byte, r.writer.part_of_a_byte)) a.past;
  same_length = b.same_length ∙ a.same_length;
  moved = omega (arith, a.moved, b.moved);
  counted = ap length (fields_append fs gs) ∙ omega (arith, length-append (fields_bits fs) (fields_bits gs), a.counted, b.counted);
}

-- the same bits as other fields
pub put_is : {p r : LentBits} {m n : ℕ} {fs gs : List Field} → FieldsPut p r m fs → m ≡ n → fields_bits fs ≡ fields_bits gs → FieldsPut p r n gs
put_is {p} {r} {m} {n} {fs} {gs} a i j = record {
  same_reference = a.same_reference;
  standing = a.standing ∙ ap (λ (x : List ℕ). put_so_far p ++ x) j;
  bytes = a.bytes;
  past = a.past;
  same_length = a.same_length;
  moved = rw (← i) a.moved;
  counted = rw (← j, ← i) a.counted;
}

-- a field in two
in_two : (a b x : ℕ) → fields_bits (in_bits a (x / 2 ^ b) ∷ in_bits b (x % 2 ^ b) ∷ []) ≡ fields_bits (in_bits (a + b) x ∷ [])
unfolding fields_bits
in_two a b x =
    ap (λ (s : List ℕ). field_bits a (x / 2 ^ b) ++ (s ++ [])) (field_cut b x)
    ∙ sym (append_assoc (field_bits a (x / 2 ^ b)) (field_bits b x) [])
    ∙ ap (λ (s : List ℕ). s ++ []) (sym (field-split a b x))

pub put_in_two : {p q r : LentBits} (w x : ℕ) → 32 ≤ w → FieldsPut p q (w - 32) (in_bits (w - 32) (x / 4294967296) ∷ []) → FieldsPut q r 32 (in_bits 32 (x % 4294967296) ∷ []) → FieldsPut p r w (in_bits w x ∷ [])
put_in_two w x h a b =
    let e : w - 32 + 32 ≡ w = omega arith in
    put_is (put_then a b) e (in_two (w - 32) 32 x ∙ ap (λ (k : ℕ). fields_bits (in_bits k x ∷ [])) e)

-- ---- from the first byte on

start_none : (p : LentBits) → p.writer.place ≡ 0 → p.writer.count ≡ 0 → put_so_far p ≡ []
unfolding bits_of fields_bits field_bits
start_none p e f = rw (e, f)

pub put_from_start : {p r : LentBits} {n : ℕ} {fs : List Field} → (p.writer.place ≡ 0) × (p.writer.count ≡ 0) → FieldsPut p r n fs → BitsPut p.out.now r (fields_bits fs)
put_from_start {p} {fs = fs} s a = record {
  standing = a.standing ∙ ap (λ (s : List ℕ). s ++ fields_bits fs) (start_none p s.0 s.1);
  bytes = a.bytes (rw (s.0) (omega arith));
  past = a.past;
  same_length = a.same_length;
  placed = omega (arith, a.moved, a.counted);
}
