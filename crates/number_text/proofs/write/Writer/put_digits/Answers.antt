-- The loop keeps: if the digits left were written now, all would be right. Laws of Putting.
use native.Mathlib.Omega.{arith}
use lib.ListN.{length-set}
use Rattle.number_text.specs.write.Writing.{digits}
use Rattle.number_text.proofs.length.Digits.{length_digits}
use Rattle.number_text.proofs.write.Putting.{digits_less, all_put}
use Rattle.number_text.proofs.write.Writer.put_digits.Goals as goal

pub overflow_add-self-in-loop-i : goal.overflow_add-self-in-loop-i
overflow_add-self-in-loop-i c = let long = length_digits c.args.count c.args.n in record { fits = omega arith }

pub loop-i-preserved : goal.loop-i-preserved
loop-i-preserved c = record { lent = c.loop-i.invariant.lent; size = simp length-set c.loop-i.invariant.size; at = c.loop-i.invariant.at; bytes = digits_less _ _ _ _ _ c.loop-i.invariant.bytes (omega arith) (omega (arith, length_digits c.args.count c.args.n)) }

pub returns : goal.returns
returns c = record { lent = c.loop-i.invariant.lent; size = c.loop-i.invariant.size; at = omega (arith, length_digits c.args.count c.args.n); bytes = all_put _ _ (digits c.loop-i.i c.loop-i.rest) _ c.loop-i.invariant.bytes (omega (arith, length_digits c.loop-i.i c.loop-i.rest)) }
