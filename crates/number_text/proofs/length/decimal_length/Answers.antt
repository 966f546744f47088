-- The loop keeps: k and the digits of what is left are one more than the digits of n. Laws of
-- Digits.
use native.Mathlib.Omega.{arith}
use Rattle.number_text.proofs.length.Digits.{places_few, places-more, places-some, places_least, length_decimal}
use Rattle.number_text.proofs.length.decimal_length.Goals as goal

pub overflow_add-k : goal.overflow_add-k
overflow_add-k c = omega (arith, places-some c.loop-rest.rest, places_least 20 c.args.n (omega arith) (omega arith))

pub loop-rest-preserved : goal.loop-rest-preserved
loop-rest-preserved c = (omega arith, omega (arith, places-more c.loop-rest.rest (omega arith)))

pub returns : goal.returns
returns c = omega (arith, places_few c.loop-rest.rest (omega arith), length_decimal c.args.n)
