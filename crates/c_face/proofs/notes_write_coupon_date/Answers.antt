-- `c_face::notes_write_coupon_date` meets its contract: what the entry point answers is handed over.
use Rattle.c_face.proofs.Rooms.{text_handed}
use Rattle.c_face.proofs.notes_write_coupon_date.Goals as goal

pub returns : goal.returns
returns c = text_handed _ _ _ _ _ _ c.hand_over.ensures _ c.write_coupon_date.ensures
