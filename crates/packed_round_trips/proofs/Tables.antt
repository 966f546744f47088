-- The table behind a note is a layout too: its count, and days of one width.
use Prim.Native.Nat.{ℕ, zero, suc, ◌+◌, ◌*◌, ◌≤◌}
use mathlib.Core.Path.{◌≡◌, refl, sym, ap, ap₂, subst, ◌∙◌}
use mathlib.Core.List.{List, ◌∷◌, ◌++◌}
use native.Mathlib.Omega.{arith}
use lib.ListN.{length, drop, get_or, replicate, length-replicate}
use Rattle.outcome.proofs.Lists.{length_values}
use Rattle.bit_fields.specs.Bits.{Field, in_bits, fields_bits, bits_of}
use Rattle.packed_layout.specs.Layouts.{total, numbers_from, fields_from, AllFit}
use Rattle.packed_layout.specs.NoteLayout.{count_place, day_place, table_fields, bit_length}
use Rattle.packed_layout.proofs.Layouts.{same_width, read_put, put_read, same_numbers}
use Rattle.packed_read.specs.table.Tables.{table_count, day_at, days_from}

abbrev table_widths : ℕ → List ℕ
table_widths n = 16 ∷ replicate n 22

as_layout : (t : List ℕ) → fields_from 0 (table_widths (length t)) (length t ∷ t) ≡ table_fields t
as_layout t = ap (λ (fs : List Field). in_bits 16 (length t) ∷ fs) (same_width 22 1 t (length t ∷ t) refl)

days-total : (n : ℕ) → total (replicate n 22) ≡ 22 * n
days-total zero = refl
days-total (suc n) = omega (arith, days-total n)

numbers_are : (s : List ℕ) (n : ℕ) → numbers_from s count_place (table_widths n) ≡ table_count s ∷ days_from s 0 n
unfolding numbers_from
numbers_are s n = ap (λ (l : List ℕ). table_count s ∷ l) (same_numbers s (day_place 0) 22 0 n)

-- a table that was put is read
pub table_read : (s before after t : List ℕ) → bits_of s ≡ before ++ (fields_bits (table_fields t) ++ after) → length before ≡ count_place → AllFit (table_fields t) → (table_count s ≡ length t) × (days_from s 0 (length t) ≡ t)
table_read s before after t e l h =
    let fs = sym (as_layout t) in
    let all = sym (numbers_are s (length t)) ∙ read_put s before after count_place 0 (table_widths (length t)) (length t ∷ t) (e ∙ ap (λ (g : List Field). before ++ (fields_bits g ++ after)) fs) l (subst AllFit fs h) (omega (arith, length-replicate {A = ℕ} (length t) 22)) in
    (ap (λ (x : List ℕ). get_or x 0 0) all, ap (drop 1) all)

-- and a table that was read is put as the same bits
pub table-put : (s : List ℕ) → bit_length (table_count s) ≤ 8 * length s → drop count_place (bits_of s) ≡ fields_bits (table_fields (days_from s 0 (table_count s))) ++ drop (bit_length (table_count s)) (bits_of s)
table-put s h =
    let n : ℕ = table_count s in
    let t : List ℕ = days_from s 0 n in
    let m : length t ≡ n = length_values (day_at s) 0 n in
    let ns : length t ∷ t ≡ numbers_from s count_place (table_widths (length t)) = ap (λ (k : ℕ). k ∷ t) m ∙ sym (numbers_are s n) ∙ ap (λ (k : ℕ). numbers_from s count_place (table_widths k)) (sym m) in
    let end : count_place + total (table_widths (length t)) ≡ bit_length n = omega (arith, days-total (length t), m) in
    put_read s count_place 0 (table_widths (length t)) (length t ∷ t) ns (omega (arith, end))
    ∙ ap₂ (λ (g : List Field) (k : ℕ). fields_bits g ++ drop k (bits_of s)) (as_layout t) end
