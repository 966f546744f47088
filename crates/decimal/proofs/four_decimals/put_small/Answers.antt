-- `decimal::put_small` meets its contract: the front, and the number behind it. Laws of Texts.
use Prim.Native.Nat.{◌+◌, ◌/◌, ◌≤◌}
use mathlib.Core.Path.{◌≡◌}
use native.Mathlib.Omega.{arith}
use lib.ListN.{length}
use Rattle.number_text.proofs.length.Digits.{length_digits}
use Rattle.decimal.specs.four_decimals.FourDecimals.{four_decimals}
use Rattle.decimal.proofs.four_decimals.Texts.{four_long, front_room, whole_short, small_puts}
use Rattle.decimal.proofs.four_decimals.put_small.Goals as goal
use Rattle.decimal.proofs.four_decimals.put_small.Goals.{After-put_front}

-- past the front there is room for the number
room : (c : After-put_front) → c.put_front.new.w.at + (c.decimal_length-count.result + 5) ≤ length c.put_front.new.w.out.now
room c =
    let size : c.decimal_length-count.result + 5 ≡ length (four_decimals c.args.tens) = omega (arith, c.decimal_length-count.ensures, four_long c.args.tens) in
    let front = rw (size) at c.put_front.ensures in
    omega (arith, c.requires, front.at, front.size, front_room c.args.negative c.args.tens)

pub overflow_add-count : goal.overflow_add-count
overflow_add-count c = record { fits = omega (arith, c.decimal_length-count.ensures, whole_short c.args.tens (omega arith)) }

pub put_front-requires : goal.put_front-requires
put_front-requires c =
    let size : c.decimal_length-count.result + 5 ≡ length (four_decimals c.args.tens) = omega (arith, c.decimal_length-count.ensures, four_long c.args.tens) in
    rw (size) (omega (arith, c.requires, front_room c.args.negative c.args.tens))

pub put_digits-requires : goal.put_digits-requires
put_digits-requires c = omega (arith, room (goal.at.put_digits-requires c).After-put_front, length_digits c.decimal_length-count.result (c.args.tens / 10000))

pub put-requires : goal.put-requires
put-requires c = omega (arith, room (goal.at.put-requires c).After-put_front, c.put_digits.ensures.at, c.put_digits.ensures.size, length_digits c.decimal_length-count.result (c.args.tens / 10000))

pub put_digits-requires-2 : goal.put_digits-requires-2
put_digits-requires-2 c = omega (arith, room (goal.at.put_digits-requires-2 c).After-put_front, c.put_digits.ensures.at, c.put_digits.ensures.size, c.put.ensures.at, c.put.ensures.size, length_digits c.decimal_length-count.result (c.args.tens / 10000), length_digits 4 c.args.tens)

pub returns : goal.returns
returns c = small_puts _ _ _ _ _ c.args.negative c.args.tens _ c.decimal_length-count.ensures c.requires c.put_front.ensures c.put_digits.ensures c.put.ensures c.put_digits-2.ensures
