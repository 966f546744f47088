-- `bit_fields::read_part` meets its contract: whole bytes, without the bits behind and before.
use Rattle.bit_fields.proofs.Bits.{field-whole}
use Rattle.bit_fields.proofs.read_part.Goals as goal

pub returns : goal.returns
returns c =
    let a = c.args in
    field-whole a.s.now a.at a.width _ _ c.bytes_number-n.ensures c.power_of_two.ensures c.requires.2
