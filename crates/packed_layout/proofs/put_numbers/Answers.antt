-- `packed_layout::put_numbers` meets its contract: after each turn the numbers so far are put.
use native.Mathlib.Omega.{arith}
use Rattle.bit_fields.proofs.BitWriters.{put-none}
use Rattle.packed_layout.specs.NoteLayout.{note_widths}
use Rattle.packed_layout.proofs.Layouts.{position-within, number_fits, put-more, put_all}
use Rattle.packed_layout.proofs.NoteLayout.{width-most}
use Rattle.packed_layout.proofs.put_numbers.Goals as goal

pub loop-k-init : goal.loop-k-init
loop-k-init c = put-none _

pub put-requires : goal.put-requires
put-requires c =
    let l = c.loop-k in
    let h = position-within note_widths l.k (omega arith) in
    (width-most l.k (omega arith), number_fits note_widths c.args.numbers.fields l.k (omega arith) c.args.numbers.fit, omega (arith, h))

pub loop-k-preserved : goal.loop-k-preserved
loop-k-preserved c =
    let l = c.loop-k in
    put-more note_widths c.args.numbers.fields l.k (omega arith) l.invariant c.put.ensures

pub returns : goal.returns
returns c =
    let l = c.loop-k in
    put_all note_widths c.args.numbers.fields l.k (omega arith) l.invariant
