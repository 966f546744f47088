-- `packed_read::note_with` meets its contract: each part is what its bits are.
use Rattle.packed_read.proofs.note.Numbers.{no_nan}
use Rattle.packed_read.proofs.note.note_with.Goals as goal

pub float_from_bits-result : goal.float_from_bits-result
float_from_bits-result c = no_nan _ c.requires
