-- `packed_write::put_days` meets its contract: after each turn the days so far are put.
use native.Mathlib.Omega.{arith}
use Rattle.bit_fields.proofs.BitWriters.{put-none}
use Rattle.packed_write.proofs.packed.Records.{put-day, put-days}
use Rattle.packed_write.proofs.packed.Tables.{day-fits}
use Rattle.packed_write.proofs.packed.put_days.Goals as goal

pub loop-day-init : goal.loop-day-init
loop-day-init _ = put-none _

pub put-requires : goal.put-requires
put-requires c = (omega arith, omega (arith, day-fits c.args.table.now c.loop-day.day-index c.requires.1 (omega arith)), omega arith)

pub loop-day-preserved : goal.loop-day-preserved
loop-day-preserved c =
    let l = c.loop-day in
    put-day c.args.table.now l.day-index _ (omega arith) c.from.ensures l.invariant c.put.ensures

pub returns : goal.returns
returns c =
    let l = c.loop-day in
    put-days c.args.table.now l.day-index (omega arith) l.invariant
