-- `packed_write::put_record` meets its contract: the numbers, the table, and zero bits to the byte.
use mathlib.Core.Path.{◌∙◌}
use borrow.Author.Rules.{rules}
use Rattle.packed_write.proofs.packed.Records.{record_wrote}
use Rattle.packed_write.proofs.packed.put_record.Goals as goal

pub returns : goal.returns
returns c =
    let room = rw (← c.new-lent.ensures.same_bytes) at c.requires.1 in
    let w = record_wrote c.args.numbers.fields c.args.table.now c.new-lent.ensures.start c.put_numbers.ensures c.put_table.ensures c.fill_byte.ensures room in
    (search rules ∙ (rw (c.new-lent.ensures.same_bytes) at w.0), w.1)
