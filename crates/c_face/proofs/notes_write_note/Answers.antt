-- `c_face::notes_write_note` meets its contract: what the entry point answers is handed over.
use Rattle.packed_write.specs.packed.Writing.{packed_note}
use Rattle.c_face.proofs.Rooms.{shown_handed}
use mir.Facts.{to_z-of_z}
use Rattle.c_face.proofs.notes_write_note.Goals as goal

pub returns-in-Ok : goal.returns-in-Ok
returns-in-Ok c = rw (← (rw (to_z-of_z c.ranges.period_num) at c.note_of-note.ensures), c.in-Ok.is) (shown_handed c.args.out.now _ _ _ _ _ c.hand_over.ensures (packed_note c.in-Ok.n c.args.holidays.now) c.write_note.ensures.0 c.write_note.ensures.1)
