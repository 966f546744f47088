-- `packed_read::checked` meets its contract: 15 by the bits, or the note is checked.
use native.Mathlib.Omega.{arith}
use Rattle.packed_read.proofs.note.Reading.{no_rate}
use Rattle.packed_read.proofs.note.checked.Goals as goal

pub returns-then-numbers-ge-NO_RATE : goal.returns-then-numbers-ge-NO_RATE
returns-then-numbers-ge-NO_RATE c = no_rate c.args.table c.args.numbers.fields c.args.unit c.args.convention c.args.rule c.requires c.if-numbers-ge-NO_RATE.true (omega arith)
