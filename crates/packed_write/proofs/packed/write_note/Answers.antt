-- `packed_write::write_note` meets its contract: 18 for the period, the note's refusals, or what is
-- written.
use lib.IntN.{pos}
use borrow.Author.Rules.{rules}
use mathlib.Core.Path.{sym}
use Rattle.outcome.proofs.Numbers.{at_most, not_at_most}
use Rattle.packed_write.proofs.packed.Answers.{period_refused, note_refused, note_packable, note_written}
use Rattle.packed_write.proofs.packed.write_note.Goals as goal

pub returns-then-note-gt-MOST_NUMBER : goal.returns-then-note-gt-MOST_NUMBER
returns-then-note-gt-MOST_NUMBER c =
    let a = c.args in
    period_refused a.note a.table.now a.out.now (not_at_most (pos 4095) a.note.period.num (search rules))

pub returns-in_err-check_note_with : goal.returns-in_err-check_note_with
returns-in_err-check_note_with c =
    let a = c.args in
    let within = at_most (pos 4095) a.note.period.num (search rules) in
    note_refused a.note a.table.now a.out.now within _ _ _ c.from_residual.ensures.1 c.is_table.ensures (sym c.in_err-check_note_with.ensures)

pub write_judged-requires : goal.write_judged-requires
write_judged-requires c =
    let a = c.args in
    let within = at_most (pos 4095) a.note.period.num (search rules) in
    note_packable a.note a.table.now within _ _ c.is_table.ensures (sym c.in_ok-check_note_with.ensures)

pub returns : goal.returns
returns c =
    let a = c.args in
    let within = at_most (pos 4095) a.note.period.num (search rules) in
    let p = note_packable a.note a.table.now within _ _ c.is_table.ensures (sym c.in_ok-check_note_with.ensures) in
    note_written a.note a.table.now a.out.now within _ c.write_judged.result p c.write_judged.ensures
