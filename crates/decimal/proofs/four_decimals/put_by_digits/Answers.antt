-- `decimal::put_by_digits` meets its contract: the digits, and the text of them. Laws of Texts.
use Rattle.decimal.proofs.four_decimals.Texts.{filled_text}
use Rattle.decimal.proofs.four_decimals.put_by_digits.Goals as goal

pub put_array-requires-clause-room : goal.put_array-requires-clause-room
put_array-requires-clause-room c =
    rw (filled_text c.args.space.now _ _ c.requires.in_bounds.0 c.put_scaled.auto.out c.put_scaled.ensures c.requires.twos_bound c.args.negative) c.requires.room

pub returns : goal.returns
returns c =
    rw (← filled_text c.args.space.now _ _ c.requires.in_bounds.0 c.put_scaled.auto.out c.put_scaled.ensures c.requires.twos_bound c.args.negative) c.put_array.ensures
