-- Where the number is not negative, nothing is written: a law of Putting.
use Rattle.number_text.proofs.write.Putting.{puts_none}
use Rattle.number_text.proofs.write.Writer.put_sign.Goals as goal

pub returns-else-negative : goal.returns-else-negative
returns-else-negative c = rw c.if-negative.false (puts_none _)
