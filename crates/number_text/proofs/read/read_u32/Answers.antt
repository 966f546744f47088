-- Without its plus the text is a decimal: a law of Decimals.
use Rattle.number_text.proofs.read.Decimals.{unsigned_is}
use Rattle.number_text.proofs.read.read_u32.Goals as goal

pub returns : goal.returns
returns g c = λ f. unsigned_is _ _ _ _ (c.read_decimal.ensures f) c.after_plus.ensures
