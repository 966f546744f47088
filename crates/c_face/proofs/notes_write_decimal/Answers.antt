-- `c_face::notes_write_decimal` meets its contract: what the entry point answers, with the room
-- that it wrote, is handed over.
use Rattle.decimal.specs.float.Decimal.{decimal_shown}
use Rattle.c_face.proofs.Rooms.{shown_handed}
use Rattle.c_face.proofs.notes_write_decimal.Goals as goal

pub returns : goal.returns
returns c = shown_handed c.args.out.now _ _ _ _ _ c.hand_over.ensures (decimal_shown c.args.amount) c.write_decimal.ensures.0 c.write_decimal.ensures.1
