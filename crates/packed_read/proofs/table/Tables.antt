-- The table behind a note: how long it is, and its days one after the other.
use Prim.Native.Nat.{ℕ, ◌+◌, ◌-◌, ◌*◌, ◌≤◌, ◌<◌}
use mathlib.Core.Path.{◌≡◌, sym, ap, subst, ◌∙◌}
use mathlib.Core.Bool.{Bool, true, false}
use mathlib.Core.List.{List, [], ◌∷◌, ◌++◌, append-nil}
use native.Mathlib.Omega.{arith}
use borrow.Author.Tests.{le-leb, lt-leb, eq-eqb, ne_eqb, leb-true, eqb-true}
use lib.Dec.{leb, eqb}
use lib.ListN.{length, set, take}
use Rattle.outcome.proofs.Lists.{length_values, values_none, values_next}
use Rattle.outcome.proofs.Outcomes.{both_true}
use Rattle.bit_fields.specs.Bits.{field}
use Rattle.business_days.specs.table.Table.{ascends_from, is_table}
use Rattle.outcome.proofs.Filling.{Filled, filled_none, filled_more}
use Rattle.packed_layout.specs.NoteLayout.{bit_length, byte_length}
use Rattle.packed_read.specs.table.Tables.{table_count, day_at, days_from, table_days, is_exact, is_whole, is_table_in}

-- ---- its length

pub too_short : (s : List ℕ) → length s < byte_length 0 → false ≡ is_whole s
unfolding is_whole
too_short s h = rw (lt-leb (byte_length 0) (length s) h)

pub too_many : (s : List ℕ) (n : ℕ) → n ≡ table_count s → byte_length 0 ≤ length s → 4096 < n → true ≡ is_whole s
unfolding is_whole
too_many s n e h k = rw (le-leb (byte_length 0) (length s) h, lt-leb (table_count s) 4096 (rw (e) at k))

other_length : (s : List ℕ) (n : ℕ) → (length s ≡ byte_length n → ⊥) → false ≡ is_exact s n
unfolding is_exact
other_length s n h = rw (ne_eqb (length s) (byte_length n) h)

right_length : (s : List ℕ) (n : ℕ) → length s ≡ byte_length n → is_exact s n ≡ eqb (field s (bit_length n) (8 * length s - bit_length n)) 0
unfolding is_exact
right_length s n h = rw (eq-eqb (length s) (byte_length n) h)

within : (s : List ℕ) → byte_length 0 ≤ length s → table_count s ≤ 4096 → is_whole s ≡ is_exact s (table_count s)
unfolding is_whole
within s h k = rw (le-leb (byte_length 0) (length s) h, le-leb (table_count s) 4096 k)

pub not-exact : (s : List ℕ) (n : ℕ) → n ≡ table_count s → byte_length 0 ≤ length s → n ≤ 4096 → (length s ≡ byte_length n → ⊥) → false ≡ is_whole s
not-exact s n e h k l = other_length s n l ∙ ap (is_exact s) e ∙ sym (within s h (rw (e) at k))

pub exact : (s : List ℕ) (n f : ℕ) → n ≡ table_count s → byte_length 0 ≤ length s → n ≤ 4096 → length s ≡ byte_length n → f ≡ field s (bit_length n) (length s * 8 - bit_length n) → eqb f 0 ≡ is_whole s
exact s n f e h k l g =
    let m : 8 * length s - bit_length n ≡ length s * 8 - bit_length n = omega arith in
    sym (within s h (rw (e) at k) ∙ ap (is_exact s) (sym e) ∙ right_length s n l ∙ rw (g, m))

-- what a whole record has
pub whole_long : (s : List ℕ) → is_whole s ≡ true → byte_length 0 ≤ length s
unfolding is_whole
whole_long s e = leb-true (byte_length 0) (length s) (both_true (leb (byte_length 0) (length s)) _ e).0

exact-length : (s : List ℕ) (n : ℕ) → is_exact s n ≡ true → length s ≡ byte_length n
unfolding is_exact
exact-length s n e = eqb-true (length s) (byte_length n) (both_true (eqb (length s) (byte_length n)) _ e).0

pub whole_length : (s : List ℕ) → is_whole s ≡ true → table_count s ≤ 4096 → length s ≡ byte_length (table_count s)
whole_length s e k = exact-length s (table_count s) (sym (within s (whole_long s e) k) ∙ e)

-- its days are there
pub days-there : (s : List ℕ) (n : ℕ) → is_whole s ≡ true → n ≡ table_count s → n ≤ 4096 → bit_length n ≤ 8 * length s
days-there s n e f h =
    let l : length s ≡ byte_length (table_count s) = whole_length s e (rw (f) at h) in
    omega arith

-- ---- its days

pub length-days : (s : List ℕ) (i n : ℕ) → length (days_from s i n) ≡ n
length-days s i n = length_values (day_at s) i n

pub table-many : (s : List ℕ) (n : ℕ) → n ≡ table_count s → 4096 < n → false ≡ is_table_in s
unfolding is_table_in
table-many s n e h = rw (lt-leb (table_count s) 4096 (rw (e) at h))

pub table-days : (s : List ℕ) (n : ℕ) (r : Bool) → n ≡ table_count s → n ≤ 4096 → r ≡ ascends_from 1 (days_from s 0 n) → r ≡ is_table_in s
unfolding is_table_in is_table
table-days s n r e h f =
    let k : table_count s ≤ 4096 = rw (e) at h in
    f ∙ rw (e, le-leb (table_count s) 4096 k, le-leb (length (table_days s)) 4096 (omega (arith, length-days s 0 (table_count s))))

-- what is left of the days decides
pub left_all : (s : List ℕ) (n : ℕ) → ascends_from 1 (days_from s 0 (n - 0)) ≡ ascends_from 1 (days_from s 0 n)
left_all s n = let z : n - 0 ≡ n = omega arith in ap (λ (k : ℕ). ascends_from 1 (days_from s 0 k)) z

module _ (s : List ℕ) (low i n d : ℕ) (z : Bool) (e : ascends_from low (days_from s i (n - i)) ≡ z) (h : i < n) (f : d ≡ day_at s i) where
  next : ascends_from low (d ∷ days_from s (i + 1) (n - (i + 1))) ≡ z
  next = sym (ap (ascends_from low) (values_next (day_at s) i n h ∙ ap (λ (x : ℕ). x ∷ days_from s (i + 1) (n - (i + 1))) (sym f))) ∙ e

  pub left_early : d < low → false ≡ z
  unfolding ascends_from
  left_early l = rw (lt-leb low d l) at next

  pub left_late : low ≤ d → 3652059 < d → false ≡ z
  unfolding ascends_from
  left_late l k = rw (le-leb low d l, lt-leb d 3652059 k) at next

  pub left-more : low ≤ d → d ≤ 3652059 → ascends_from (d + 1) (days_from s (i + 1) (n - (i + 1))) ≡ z
  unfolding ascends_from
  left-more l k = rw (le-leb low d l, le-leb d 3652059 k) at next

pub left-none : (s : List ℕ) (low i n : ℕ) (z : Bool) → ascends_from low (days_from s i (n - i)) ≡ z → n ≤ i → true ≡ z
unfolding ascends_from
left-none s low i n z e h = sym (ap (ascends_from low) (values_none (day_at s) i n h)) ∙ e

-- ---- written one after the other

module _ (s old : List ℕ) (n : ℕ) where
  pub days_start : Filled (days_from s 0 n) old 0 (days_from s 0 (n - 0)) old
  days_start = let z : n - 0 ≡ n = omega arith in subst (λ (k : ℕ). Filled (days_from s 0 n) old 0 (days_from s 0 k) old) (sym z) (filled_none (days_from s 0 n) old)

  pub days-more : (i d : ℕ) (new : List ℕ) → i < n → i < length new → d ≡ day_at s i → Filled (days_from s 0 n) old i (days_from s i (n - i)) new → Filled (days_from s 0 n) old (i + 1) (days_from s (i + 1) (n - (i + 1))) (set new i d)
  days-more i d new h l e f =
      filled_more (days_from s 0 n) old i d (days_from s (i + 1) (n - (i + 1))) new l
      (subst (λ (t : List ℕ). Filled (days_from s 0 n) old i t new) (values_next (day_at s) i n h ∙ ap (λ (x : ℕ). x ∷ days_from s (i + 1) (n - (i + 1))) (sym e)) f)

  pub days_end : (i : ℕ) (new : List ℕ) → i ≡ n → Filled (days_from s 0 n) old i (days_from s i (n - i)) new → take n new ≡ days_from s 0 n
  days_end i new e f =
      let left : days_from s i (n - i) ≡ [] = values_none (day_at s) i n (omega arith) in
      ap (λ (k : ℕ). take k new) (sym e) ∙ sym (append-nil (take i new)) ∙ ap (λ (t : List ℕ). take i new ++ t) (sym left) ∙ f.front
