-- `flow_text::put_cash_flow_at` meets its contract: the date, a blank, and the amount behind it.
use mathlib.Core.List.{◌∷◌}
use native.Mathlib.Omega.{arith}
use Rattle.number_text.specs.write.Writing.{HasRoom}
use Rattle.number_text.proofs.write.Putting.{puts_then, room_first, room_then}
use Rattle.flow_text.specs.amount.AmountTexts.{amount_text}
use Rattle.flow_text.specs.date.DateTexts.{date_text}
use Rattle.flow_text.specs.flow.Texts.{flow_text}
use Rattle.flow_text.proofs.flow.put_cash_flow_at.Goals as goal
use Rattle.flow_text.proofs.flow.put_cash_flow_at.Goals.{After-put_date}

-- room for what stands behind the date
rest : (c : After-put_date) → HasRoom c.put_date.new.w (32 ∷ amount_text c.args.flow.amount c.args.flow.currency)
unfolding flow_text
rest c = room_then _ _ _ _ c.put_date.ensures c.requires.room

pub put_date-requires-clause-room : goal.put_date-requires-clause-room
unfolding flow_text
put_date-requires-clause-room c = room_first c.args.w.now (date_text c.args.flow.date) (32 ∷ amount_text c.args.flow.amount c.args.flow.currency) c.requires.room

pub put-requires : goal.put-requires
put-requires c = omega (arith, rest (goal.at.put-requires c).After-put_date)

pub put_amount-requires-clause-room : goal.put_amount-requires-clause-room
put_amount-requires-clause-room c = room_then _ _ _ _ c.put.ensures (rest (goal.at.put_amount-requires-clause-room c).After-put_date)

pub returns : goal.returns
unfolding flow_text
returns c = puts_then _ _ _ _ _ c.put_date.ensures (puts_then _ _ _ _ _ c.put.ensures c.put_amount.ensures (rest (goal.at.returns c).After-put_date)) c.requires.room
