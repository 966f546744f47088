-- `packed_read::read_note` meets its contract: a refusal, 16, or the note and its holidays.
use Prim.Native.Nat.{ℕ}
use mathlib.Core.Path.{sym, ap, ◌∙◌}
use mathlib.Core.List.{List, ◌++◌}
use lib.ListN.{drop}
use lib.Seq.{length-take-le}
use native.Mathlib.Omega.{arith}
use Rattle.packed_read.proofs.table.Tables.{whole_long}
use Rattle.packed_read.proofs.packed.Reading.{bytes-given, few_given, reads_refused, reads_short, reads_all}
use Rattle.packed_read.proofs.packed.read_note.Goals as goal

pub returns-in_err-note : goal.returns-in_err-note
returns-in_err-note c = reads_refused c.args.s.now c.args.table.now _ _ c.from_residual.ensures.1 (sym c.in_err-note.ensures.0)

pub table_count-n-requires : goal.table_count-n-requires
table_count-n-requires c =
    let bytes_of : List ℕ = c.args.s.now in
    whole_long bytes_of (bytes-given bytes_of _ (sym c.in_ok-note.ensures.0)).0

pub returns-then-table-n : goal.returns-then-table-n
returns-then-table-n c = reads_short c.args.s.now c.args.table.now _ _ (sym c.in_ok-note.ensures.0) c.table_count-n.ensures.0 c.if-table-n.true

pub slice_bounds-days-end : goal.slice_bounds-days-end
slice_bounds-days-end c =
    let most = few_given c.args.s.now _ (sym c.in_ok-note.ensures.0) in
    rw (c.note_in_bytes.auto.days, c.table_count-n.ensures.0) most

pub slice_bounds-copy_from_slice-end-3 : goal.slice_bounds-copy_from_slice-end-3
slice_bounds-copy_from_slice-end-3 c =
    let most = few_given c.args.s.now _ (sym c.in_ok-note.ensures.0) in
    sym (length-take-le _ _ (rw (c.note_in_bytes.auto.days, c.table_count-n.ensures.0) most))

pub copy_from_slice-requires : goal.copy_from_slice-requires
copy_from_slice-requires c =
    let most = few_given c.args.s.now _ (sym c.in_ok-note.ensures.0) in
    length-take-le _ _ (omega arith) ∙ sym (length-take-le _ _ (rw (c.note_in_bytes.auto.days, c.table_count-n.ensures.0) most))

pub returns : goal.returns
returns c =
    let bytes_of : List ℕ = c.args.s.now in
    let old : List ℕ = c.args.table.now in
    let n : ℕ = c.table_count-n.result in
    reads_all bytes_of old _ n (sym c.in_ok-note.ensures.0) c.table_count-n.ensures.0 _ _ (omega arith) (c.in_ok-note.ensures.1 (bytes-given bytes_of _ (sym c.in_ok-note.ensures.0))) (ap (λ (l : List ℕ). l ++ drop n old) c.copy_from_slice.ensures.after)
