-- `decimal::put_array` meets its contract: the front, and the number behind it. Laws of Texts.
use Prim.Native.Nat.{◌+◌, ◌-◌, ◌≤◌}
use native.Mathlib.Omega.{arith}
use lib.Seq.{length-take-le}
use lib.ListN.{length, drop, length-drop}
use Rattle.outcome.proofs.Lists.{part_from}
use Rattle.decimal.proofs.four_decimals.Texts.{array_long, array_puts}
use Rattle.decimal.proofs.four_decimals.put_array.Goals as goal
use Rattle.decimal.proofs.four_decimals.put_array.Goals.{After-put_front}

-- past the front there is room for the digits and the point
room : (c : After-put_front) → c.put_front.new.w.at + (length c.args.d.now - c.whole_start-start.result + 1) ≤ length c.put_front.new.w.out.now
room c =
    let front = rw c.whole_start-start.ensures.value at c.put_front.ensures in
    rw c.whole_start-start.ensures.value (omega (arith, c.requires.room, front.at, front.size, array_long c.args.negative c.args.d.now c.requires.in_bounds.0))

pub put_front-requires : goal.put_front-requires
put_front-requires c = rw c.whole_start-start.ensures.value (omega (arith, c.requires.room, array_long c.args.negative c.args.d.now c.requires.in_bounds.0))

pub put_bytes-requires : goal.put_bytes-requires
put_bytes-requires c =
    let z = c.whole_start-start.result in
    let d = c.args.d.now in
    omega (arith, room (goal.at.put_bytes-requires c).After-put_front, length-take-le (length d - 4 - z) (drop z d) (omega (arith, length-drop z d)))

pub put-requires : goal.put-requires
put-requires c =
    let z = c.whole_start-start.result in
    let d = c.args.d.now in
    omega (arith, room (goal.at.put-requires c).After-put_front, c.put_bytes.ensures.at, c.put_bytes.ensures.size, length-take-le (length d - 4 - z) (drop z d) (omega (arith, length-drop z d)))

pub put_bytes-requires-2 : goal.put_bytes-requires-2
put_bytes-requires-2 c =
    let z = c.whole_start-start.result in
    let d = c.args.d.now in
    rw (part_from d (length d - 4)) (omega (arith, room (goal.at.put_bytes-requires-2 c).After-put_front, c.put_bytes.ensures.at, c.put_bytes.ensures.size, c.put.ensures.at, c.put.ensures.size, length-take-le (length d - 4 - z) (drop z d) (omega (arith, length-drop z d)), length-drop (length d - 4) d))

pub returns : goal.returns
returns c = array_puts _ _ _ _ _ c.args.negative c.args.d.now _ c.whole_start-start.ensures.value c.requires.room c.put_front.ensures c.put_bytes.ensures c.put.ensures (rw (part_from c.args.d.now (length c.args.d.now - 4)) at c.put_bytes-2.ensures)
