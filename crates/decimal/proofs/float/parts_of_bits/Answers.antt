-- `decimal::parts_of_bits` meets its contract: each `return` is a case of the exponent's field.
-- Laws of Bits.
use native.Mathlib.Omega.{arith}
use Rattle.decimal.proofs.float.Bits.{bits_none, bits_few, bits-some, bits_large}
use Rattle.decimal.proofs.float.parts_of_bits.Goals as goal

pub returns-then-field-eq2047 : goal.returns-then-field-eq2047
returns-then-field-eq2047 c = bits_none _ c.if-field-eq2047.true

pub returns-then-field-eq0 : goal.returns-then-field-eq0
returns-then-field-eq0 c = bits_few _ _ c.if-field-eq0.true c.ten_thousandths.ensures

pub returns-then-field-gt1071 : goal.returns-then-field-gt1071
returns-then-field-gt1071 c = bits_large _ c.if-field-gt1071.true (omega arith)

pub returns : goal.returns
returns c = bits-some _ _ (omega arith) (omega arith) c.ten_thousandths-2.ensures
