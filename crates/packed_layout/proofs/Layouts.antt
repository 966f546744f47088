-- Any layout: where its fields stand, and that reading and putting give back what the other took.
use Prim.Native.Nat.{ℕ, zero, suc, ◌+◌, ◌*◌, ◌≤◌, ◌<◌}
use mathlib.Core.Path.{◌≡◌, refl, sym, ap, subst, ◌∙◌}
use mathlib.Core.List.{List, [], ◌∷◌, ◌++◌, append_assoc, append-nil, map}
use native.Mathlib.Nat.{add-zero, add_assoc, zero-add, mul-suc}
use native.Mathlib.Numerals.{add-one}
use native.Mathlib.Omega.{arith}
use lib.ListN.{length, take, drop, set, get_or, replicate, length-append, take-append-drop}
use lib.Seq.{drop-drop, drop-length, get_or-drop, take-length}
use Rattle.outcome.specs.Lists.{values_from}
use Rattle.outcome.proofs.Filling.{Filled, filled_more, filled_all}
use Rattle.outcome.proofs.Lists.{head_at, take_more, every_at}
use Rattle.bit_fields.specs.Bits.{Field, in_bits, field_bits, fields_bits, bits_of, field}
use Rattle.bit_fields.specs.BitWriters.{FieldsPut}
use Rattle.bit_fields.specs.declared.LentBits.{LentBits}
use Rattle.bit_fields.proofs.Bits.{length-field, widths, field_found, field_at, field_below}
use Rattle.bit_fields.proofs.BitWriters.{put_then, put_is}
use Rattle.packed_layout.specs.Layouts.{total, position, numbers_from, fields_from, FitsItsBits, AllFit}

-- ---- positions

total_append : (xs ys : List ℕ) → total (xs ++ ys) ≡ total xs + total ys
total_append [] ys = sym (zero-add (total ys))
total_append (x ∷ xs) ys = omega (arith, total_append xs ys)

module _ (ws : List ℕ) (k : ℕ) (h : k < length ws) where
  pub position-more : position ws (k + 1) ≡ position ws k + get_or ws k 0
  position-more = ap total (take_more ws k 0 h) ∙ total_append (take k ws) (get_or ws k 0 ∷ []) ∙ ap (λ (n : ℕ). position ws k + n) (add-zero (get_or ws k 0))

  pub position-within : position ws k + get_or ws k 0 ≤ total ws
  position-within = omega (arith, position-more, sym (ap total (take-append-drop (k + 1) ws)) ∙ total_append (take (k + 1) ws) (drop (k + 1) ws))

-- ---- fields

pub length-fields_from : (k : ℕ) (ws ns : List ℕ) → length (fields_from k ws ns) ≡ length ws
length-fields_from k [] ns = refl
length-fields_from k (w ∷ ws) ns = ap suc (length-fields_from (k + 1) ws ns)

pub widths_total : (k : ℕ) (ws ns : List ℕ) → widths (fields_from k ws ns) ≡ total ws
widths_total k [] ns = refl
widths_total k (w ∷ ws) ns = ap (λ (n : ℕ). w + n) (widths_total (k + 1) ws ns)

-- the k-th holds the k-th number
field_here : (j : ℕ) (ws ns : List ℕ) (k : ℕ) (d : Field) → k < length ws → get_or (fields_from j ws ns) k d ≡ in_bits (get_or ws k 0) (get_or ns (j + k) 0)
field_here j [] ns k d h = absurd (omega arith)
field_here j (w ∷ ws) ns zero d h = ap (λ (i : ℕ). in_bits w (get_or ns i 0)) (sym (add-zero j))
field_here j (w ∷ ws) ns (suc k) d h =
    let e : j + 1 + k ≡ j + suc k = omega arith in
    field_here (j + 1) ws ns k d (omega arith) ∙ ap (λ (i : ℕ). in_bits (get_or ws k 0) (get_or ns i 0)) e

pub number_fits : (ws ns : List ℕ) (k : ℕ) → k < length ws → AllFit (fields_from 0 ws ns) → FitsItsBits (in_bits (get_or ws k 0) (get_or ns k 0))
number_fits ws ns k h a =
    let e : 0 + k ≡ k = zero-add k in
    subst (λ (i : ℕ). FitsItsBits (in_bits (get_or ws k 0) (get_or ns i 0))) e
    (subst FitsItsBits (field_here 0 ws ns k (in_bits 0 0) h) (every_at FitsItsBits (fields_from 0 ws ns) k (in_bits 0 0) a (rw (length-fields_from 0 ws ns) h)))

-- ---- numbers, one more behind those before

pub length_numbers : (s : List ℕ) (at : ℕ) (ws : List ℕ) → length (numbers_from s at ws) ≡ length ws
unfolding numbers_from
length_numbers s at [] = refl
length_numbers s at (w ∷ ws) = ap suc (length_numbers s (at + w) ws)

pub numbers_more : (s : List ℕ) (at : ℕ) (ws : List ℕ) (k : ℕ) → k < length ws → numbers_from s at (drop k ws) ≡ field s at (get_or ws k 0) ∷ numbers_from s (at + get_or ws k 0) (drop (k + 1) ws)
unfolding numbers_from
numbers_more s at ws k h = ap (numbers_from s at) (head_at ws k 0 h)

pub numbers_none : (s : List ℕ) (at : ℕ) (ws : List ℕ) → numbers_from s at (drop (length ws) ws) ≡ []
unfolding numbers_from
numbers_none s at ws = ap (numbers_from s at) (drop-length ws)

pub fill_more : (s old : List ℕ) (ws : List ℕ) (at k x : ℕ) (new : List ℕ) → k < length ws → k < length new → x ≡ field s at (get_or ws k 0) → Filled (numbers_from s 0 ws) old k (numbers_from s at (drop k ws)) new → Filled (numbers_from s 0 ws) old (k + 1) (numbers_from s (at + get_or ws k 0) (drop (k + 1) ws)) (set new k x)
fill_more s old ws at k x new h l e f =
    filled_more (numbers_from s 0 ws) old k x (numbers_from s (at + get_or ws k 0) (drop (k + 1) ws)) new l
    (subst (λ (t : List ℕ). Filled (numbers_from s 0 ws) old k t new) (numbers_more s at ws k h ∙ ap (λ (y : ℕ). y ∷ numbers_from s (at + get_or ws k 0) (drop (k + 1) ws)) (sym e)) f)

pub fill_all : (s old : List ℕ) (ws : List ℕ) (at k : ℕ) (new : List ℕ) → k ≡ length ws → length old ≡ length ws → Filled (numbers_from s 0 ws) old k (numbers_from s at (drop k ws)) new → new ≡ numbers_from s 0 ws
fill_all s old ws at k new e l f =
    let none : numbers_from s at (drop k ws) ≡ [] = ap (λ (j : ℕ). numbers_from s at (drop j ws)) e ∙ numbers_none s at ws in
    let whole = filled_all (numbers_from s 0 ws) old k new (subst (λ (t : List ℕ). Filled (numbers_from s 0 ws) old k t new) none f) in
    whole ∙ ap (λ (t : List ℕ). numbers_from s 0 ws ++ t) (ap (λ (j : ℕ). drop j old) (e ∙ sym l) ∙ drop-length old) ∙ append-nil (numbers_from s 0 ws)

-- and put one more
pub put-more : {p q r : LentBits} (ws ns : List ℕ) (k : ℕ) → k < length ws → FieldsPut p q (position ws k) (take k (fields_from 0 ws ns)) → FieldsPut q r (get_or ws k 0) (in_bits (get_or ws k 0) (get_or ns k 0) ∷ []) → FieldsPut p r (position ws (k + 1)) (take (k + 1) (fields_from 0 ws ns))
put-more ws ns k h a b =
    let fs : List Field = fields_from 0 ws ns in
    let e : 0 + k ≡ k = zero-add k in
    let here : get_or fs k (in_bits 0 0) ≡ in_bits (get_or ws k 0) (get_or ns k 0) = field_here 0 ws ns k (in_bits 0 0) h ∙ ap (λ (i : ℕ). in_bits (get_or ws k 0) (get_or ns i 0)) e in
    let more : take (k + 1) fs ≡ take k fs ++ (in_bits (get_or ws k 0) (get_or ns k 0) ∷ []) = take_more fs k (in_bits 0 0) (rw (length-fields_from 0 ws ns) h) ∙ ap (λ (f : Field). take k fs ++ (f ∷ [])) here in
    put_is (put_then a b) (sym (position-more ws k h)) (ap fields_bits (sym more))

pub put_all : {p r : LentBits} (ws ns : List ℕ) (k : ℕ) → k ≡ length ws → FieldsPut p r (position ws k) (take k (fields_from 0 ws ns)) → FieldsPut p r (total ws) (fields_from 0 ws ns)
put_all ws ns k h a =
    let fs : List Field = fields_from 0 ws ns in
    put_is a (ap (position ws) h ∙ ap total (take-length ws)) (ap fields_bits (ap (λ (j : ℕ). take j fs) (h ∙ sym (length-fields_from 0 ws ns)) ∙ take-length fs))

-- ---- one from the other

-- of numbers that go on with x
module _ (k : ℕ) (ns : List ℕ) (x : ℕ) (rest : List ℕ) (e : drop k ns ≡ x ∷ rest) where
  here : get_or ns k 0 ≡ x
  here = ap (λ (i : ℕ). get_or ns i 0) (sym (add-zero k)) ∙ sym (get_or-drop k ns 0 0) ∙ ap (λ (l : List ℕ). get_or l 0 0) e

  behind : drop (k + 1) ns ≡ rest
  behind = sym (drop-drop 1 k ns) ∙ ap (drop 1) e

-- where each is w wide
pub same_width : (w k : ℕ) (t ns : List ℕ) → drop k ns ≡ t → fields_from k (replicate (length t) w) ns ≡ map (in_bits w) t
same_width w k [] ns e = refl
same_width w k (x ∷ t) ns e = rw (here k ns x t e, same_width w (k + 1) t ns (behind k ns x t e))

-- numbers that were put are read
pub read_put : (s before after : List ℕ) (at k : ℕ) (ws ns : List ℕ) → bits_of s ≡ before ++ (fields_bits (fields_from k ws ns) ++ after) → length before ≡ at → AllFit (fields_from k ws ns) → length ns ≡ k + length ws → numbers_from s at ws ≡ drop k ns
unfolding numbers_from fields_bits
read_put s before after at k [] ns e l h n = sym (ap (λ (i : ℕ). drop i ns) (sym (n ∙ add-zero k)) ∙ drop-length ns)
read_put s before after at k (w ∷ ws) ns e l h n =
    let first : List ℕ = field_bits w (get_or ns k 0) in
    let others : List ℕ = fields_bits (fields_from (k + 1) ws ns) in
    let there : bits_of s ≡ before ++ (first ++ (others ++ after)) = e ∙ ap (λ (t : List ℕ). before ++ t) (append_assoc first others after) in
    let next : bits_of s ≡ (before ++ first) ++ (others ++ after) = there ∙ sym (append_assoc before first (others ++ after)) in
    let one : field s at w ≡ get_or ns k 0 = field_found s at w (get_or ns k 0) before (others ++ after) there l h.0 in
    let all : numbers_from s (at + w) ws ≡ drop (k + 1) ns = read_put s (before ++ first) after (at + w) (k + 1) ws ns next (omega (arith, length-append before first, length-field w (get_or ns k 0))) h.1 (omega arith) in
    rw (one, all) (sym (head_at ns k 0 (omega arith)))

module _ (s : List ℕ) where
  -- numbers that were read fit
  pub read_fit : (at k : ℕ) (ws ns : List ℕ) → drop k ns ≡ numbers_from s at ws → at + total ws ≤ 8 * length s → AllFit (fields_from k ws ns)
  unfolding numbers_from
  read_fit at k [] ns e h = omega arith
  read_fit at k (w ∷ ws) ns e h =
      (rw (here k ns (field s at w) (numbers_from s (at + w) ws) e) (field_below s at w (omega arith)), read_fit (at + w) (k + 1) ws ns (behind k ns (field s at w) (numbers_from s (at + w) ws) e) (omega arith))

  -- and put back they are the same bits
  pub put_read : (at k : ℕ) (ws ns : List ℕ) → drop k ns ≡ numbers_from s at ws → at + total ws ≤ 8 * length s → drop at (bits_of s) ≡ fields_bits (fields_from k ws ns) ++ drop (at + total ws) (bits_of s)
  unfolding numbers_from fields_bits
  put_read at k [] ns e h = ap (λ (i : ℕ). drop i (bits_of s)) (sym (add-zero at))
  put_read at k (w ∷ ws) ns e h =
      let x : ℕ = field s at w in
      let first : List ℕ = field_bits w (get_or ns k 0) in
      let others : List ℕ = fields_bits (fields_from (k + 1) ws ns) in
      let ahead : at + w + total ws ≡ at + (w + total ws) = add_assoc at w (total ws) in
      field_at s at w (omega arith)
      ∙ ap (λ (y : ℕ). field_bits w y ++ drop (at + w) (bits_of s)) (sym (here k ns x (numbers_from s (at + w) ws) e))
      ∙ ap (λ (t : List ℕ). first ++ t) (put_read (at + w) (k + 1) ws ns (behind k ns x (numbers_from s (at + w) ws) e) (omega arith) ∙ ap (λ (i : ℕ). others ++ drop i (bits_of s)) ahead)
      ∙ sym (append_assoc first others (drop (at + (w + total ws)) (bits_of s)))

  -- the k-th stands behind the widths before it
  pub number_at : (at : ℕ) (ws : List ℕ) (k : ℕ) → k < length ws → get_or (numbers_from s at ws) k 0 ≡ field s (at + position ws k) (get_or ws k 0)
  unfolding numbers_from
  number_at at [] k h = absurd (omega arith)
  number_at at (w ∷ ws) zero h = ap (λ (i : ℕ). field s i w) (sym (add-zero at))
  number_at at (w ∷ ws) (suc k) h = number_at (at + w) ws k (omega arith) ∙ ap (λ (i : ℕ). field s i (get_or ws k 0)) (add_assoc at w (position ws k))

  -- where each is w wide
  pub same_numbers : (at w i n : ℕ) → numbers_from s (at + w * i) (replicate n w) ≡ values_from (λ j. field s (at + w * j) w) i n
  unfolding numbers_from values_from
  same_numbers at w i zero = refl
  same_numbers at w i (suc n) =
      let e : at + w * i + w ≡ at + w * (i + 1) = omega (arith, mul_next w i) in
      ap (λ (l : List ℕ). field s (at + w * i) w ∷ l) (ap (λ (p : ℕ). numbers_from s p (replicate n w)) e ∙ same_numbers at w (i + 1) n)
    where
      mul_next : (a b : ℕ) → a * (b + 1) ≡ a * b + a
      mul_next a b = rw (add-one b) (mul-suc a b)
