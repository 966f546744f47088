-- The widths of a packed note, computed once: none is wider than a field may be, and names are the
-- places in the list.
use Prim.Native.Nat.{ℕ, zero, suc, ◌+◌, ◌≤◌, ◌<◌}
use mathlib.Core.Path.{◌≡◌, refl, sym, ap, ◌∙◌}
use mathlib.Core.List.{List, map}
use native.Mathlib.Nat.{add-zero}
use native.Mathlib.Omega.{arith}
use borrow.Author.Rules.{rules}
use lib.ListN.{length, drop, get_or}
use lib.Seq.{drop-length}
use Rattle.outcome.specs.Lists.{Every, values_from}
use Rattle.outcome.proofs.Lists.{head_at, every_at}
use Rattle.packed_layout.specs.NoteLayout.{layout, note_names, note_widths, place, number_in, count_place, day_place}

all_most : Every (λ w. w ≤ 64) note_widths
all_most = search rules

pub width-most : (k : ℕ) → k < 20 → get_or note_widths k 0 ≤ 64
width-most k h = every_at (λ w. w ≤ 64) note_widths k 0 all_most h

pub names_in_order : map place note_names ≡ values_from (λ k. k) 0 (length layout)
unfolding values_from
names_in_order = refl

-- 30 bytes in all, and the table behind them
pub thirty_bytes : count_place ≡ 240
thirty_bytes = refl

pub first-day : day_place 0 ≡ 256
first-day = refl

-- twenty numbers, each by its name
all_from : (ns : List ℕ) (k n : ℕ) → length ns ≡ k + n → map (λ i. get_or ns i 0) (values_from (λ j. j) k n) ≡ drop k ns
unfolding values_from
all_from ns k zero e = sym (ap (λ (i : ℕ). drop i ns) (sym (e ∙ add-zero k)) ∙ drop-length ns)
all_from ns k (suc n) e = rw (all_from ns (k + 1) n (omega arith)) (sym (head_at ns k 0 (omega arith)))

pub by_names : (ns : List ℕ) → length ns ≡ 20 → map (number_in ns) note_names ≡ ns
unfolding values_from
by_names ns e = all_from ns 0 20 e
