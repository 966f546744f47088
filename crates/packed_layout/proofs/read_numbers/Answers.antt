-- `packed_layout::read_numbers` meets its contract: after each turn the numbers so far stand in
-- front, and the next field begins at `at`.
use mathlib.Core.Path.{◌≡◌, refl}
use native.Mathlib.Omega.{arith}
use Rattle.packed_layout.specs.NoteLayout.{note_widths, note_numbers}
use Rattle.packed_layout.proofs.Layouts.{position-more, position-within, fill_more, fill_all, read_fit}
use Rattle.packed_layout.proofs.read_numbers.Goals as goal
use Rattle.packed_layout.proofs.read_numbers.Goals.{After-loop-k}

read : (c : After-loop-k) → c.loop-k.fields ≡ note_numbers c.args.s.now
read c =
    let l = c.loop-k in
    fill_all c.args.s.now _ note_widths l.at l.k l.fields (omega arith) refl l.invariant.1

pub overflow_add-at : goal.overflow_add-at
overflow_add-at c = record { fits = omega (arith, c.loop-k.invariant.0, position-within note_widths c.loop-k.k (omega arith)) }

pub loop-k-preserved : goal.loop-k-preserved
loop-k-preserved c =
    let l = c.loop-k in
    let h = position-more note_widths l.k (omega arith) in
    (omega (arith, h, l.invariant.0), fill_more c.args.s.now _ note_widths l.at l.k _ l.fields (omega arith) (omega (arith, l.invariant.1.same_length)) c.read_field.ensures l.invariant.1)

pub invariant_of-result : goal.invariant_of-result
invariant_of-result c = record { fit = read_fit c.args.s.now 0 0 note_widths c.loop-k.fields (read c) c.requires }

pub returns : goal.returns
returns c =
    let l = c.loop-k in
    fill_all c.args.s.now _ note_widths l.at l.k l.fields (omega arith) refl l.invariant.1
