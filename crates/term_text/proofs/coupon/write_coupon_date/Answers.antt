-- `term_text::write_coupon_date` meets its contract: room for the whole text, or none of it.
use mathlib.Core.Path.{ap}
use mathlib.Core.List.{◌∷◌, ◌++◌}
use native.Mathlib.Omega.{arith}
use lib.ListN.{length}
use Rattle.std.proofs.Common.{rules}
use Rattle.number_text.specs.write.Writing.{padded_text, HasRoom, Puts}
use Rattle.number_text.proofs.write.Putting.{puts_then, room_first, room_then}
use Rattle.number_text.proofs.write.Writers.{written_by, written_refused}
use Rattle.term_text.specs.coupon.CouponTexts.{coupon_date_text}
use Rattle.term_text.proofs.coupon.write_coupon_date.Goals as goal
use Rattle.term_text.proofs.coupon.write_coupon_date.Goals.{After-new-w, After-put_padded}

pub returns-then-out-text_length : goal.returns-then-out-text_length
returns-then-out-text_length c = written_refused c.args.out.now _ (omega (arith, c.text_length.ensures, c.if-out-text_length.true))

-- room for all of it
room : (c : After-new-w) → HasRoom c.new-w.result (padded_text 2 c.args.c.day ++ (46 ∷ padded_text 2 c.args.c.month))
unfolding coupon_date_text
room c = omega (arith, c.text_length.ensures, c.if-out-text_length.false, c.new-w.ensures.at, ap length c.new-w.ensures.bytes)

-- and for what stands behind the day
rest : (c : After-put_padded) → (all : HasRoom c.new-w.result (padded_text 2 c.args.c.day ++ (46 ∷ padded_text 2 c.args.c.month))) → HasRoom c.put_padded.new.self (46 ∷ padded_text 2 c.args.c.month)
rest c all = room_then _ _ _ _ (rw (c.from.ensures) at c.put_padded.ensures) all

pub put_padded-requires : goal.put_padded-requires
put_padded-requires c = rw (c.from.ensures) (room_first c.new-w.result _ _ (room (goal.at.put_padded-requires c).After-new-w))

pub put-requires : goal.put-requires
put-requires c = omega (arith, rest (goal.at.put-requires c).After-put_padded (room (goal.at.put-requires c).After-new-w))

pub put_padded-requires-2 : goal.put_padded-requires-2
put_padded-requires-2 c = rw (c.from-2.ensures) (room_then _ _ _ _ c.put.ensures (rest (goal.at.put_padded-requires-2 c).After-put_padded (room (goal.at.put_padded-requires-2 c).After-new-w)))

pub returns : goal.returns
unfolding coupon_date_text
returns c =
    let all = room (goal.at.returns c).After-new-w in
    let last = rest (goal.at.returns c).After-put_padded all in
    let month : Puts c.put.new.self c.put_padded-2.new.self (padded_text 2 c.args.c.month) = rw (c.from-2.ensures) at c.put_padded-2.ensures in
    written_by _ _ _ _ _ c.new-w.ensures.bytes c.new-w.ensures.at (puts_then _ _ _ _ _ (rw (c.from.ensures) at c.put_padded.ensures) (puts_then _ _ _ _ _ c.put.ensures month last) all) (omega (arith, c.text_length.ensures, c.if-out-text_length.false)) (search rules)
