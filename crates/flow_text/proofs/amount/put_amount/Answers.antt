-- `flow_text::put_amount` meets its contract: the number, and the currency behind it.
use mathlib.Core.List.{◌∷◌}
use Rattle.cash_flow.specs.currency.Amounts.{currency_text}
use Rattle.decimal.specs.float.Decimal.{decimal_text16}
use Rattle.number_text.proofs.write.Putting.{puts_then, room_first, room_then}
use Rattle.flow_text.specs.amount.AmountTexts.{amount_text}
use Rattle.flow_text.proofs.amount.put_amount.Goals as goal

pub put_decimal_at-requires-clause-room : goal.put_decimal_at-requires-clause-room
unfolding amount_text
put_decimal_at-requires-clause-room c = room_first c.args.w.now (decimal_text16 c.args.x) (32 ∷ currency_text c.args.currency) c.requires.room

pub put_bytes-requires : goal.put_bytes-requires
unfolding amount_text
put_bytes-requires c = room_then _ _ _ _ c.put_decimal_at.ensures c.requires.room

pub returns : goal.returns
unfolding amount_text
returns c = puts_then _ _ _ _ _ c.put_decimal_at.ensures c.put_bytes.ensures c.requires.room
