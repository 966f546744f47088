-- `flow_text::put_date` meets its contract: its parts one after the other. A law of Dates.
use Rattle.number_text.specs.write.Writing.{digits, Puts}
use Rattle.flow_text.proofs.date.Dates.{date_puts}
use Rattle.flow_text.proofs.date.put_date.Goals as goal

pub returns : goal.returns
returns c =
    let t = c.args.t in
    let month : Puts c.put.new.self c.put_digits-2.new.self (digits 2 t.month) = rw (c.from-2.ensures) at c.put_digits-2.ensures in
    let day : Puts c.put-2.new.self c.put_digits-3.new.self (digits 2 t.day) = rw (c.from-3.ensures) at c.put_digits-3.ensures in
    date_puts _ _ _ _ _ _ t c.requires.t_exists c.requires.room (rw (c.from.ensures) at c.put_digits.ensures) c.put.ensures month c.put-2.ensures day
