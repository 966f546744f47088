-- `c_face::notes_write_period` meets its contract: what the entry point answers is handed over.
use Rattle.c_face.proofs.Rooms.{text_handed}
use mir.Facts.{to_z-of_z}
use Rattle.c_face.proofs.notes_write_period.Goals as goal

pub returns-in-Ok : goal.returns-in-Ok
returns-in-Ok c = rw (← (rw (to_z-of_z c.ranges.num) at c.period_of.ensures), c.in-Ok.is) (text_handed _ _ _ _ _ _ c.hand_over.ensures _ c.write_period.ensures)
