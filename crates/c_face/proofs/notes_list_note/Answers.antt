-- `c_face::notes_list_note` meets its contract: what the entry point answers is handed over.
use Rattle.c_face.proofs.Rooms.{text_handed}
use Rattle.c_face.proofs.notes_list_note.Goals as goal

pub returns : goal.returns
returns c = text_handed _ _ _ _ _ _ c.hand_over.ensures _ c.list_note.ensures.0
