-- `packed_write::put_table` meets its contract: the count, and the days.
use native.Mathlib.Omega.{arith}
use Rattle.bit_fields.proofs.BitWriters.{put_then}
use Rattle.business_days.proofs.table.Table.{table-most}
use Rattle.packed_write.proofs.packed.put_table.Goals as goal

pub put-requires : goal.put-requires
put-requires c = (omega arith, omega (arith, table-most c.args.table.now c.requires.1), omega arith)

pub returns : goal.returns
returns c = put_then c.put.ensures c.put_days.ensures
