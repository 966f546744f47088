-- `flow_text::write_refusal` meets its contract: room for the whole text, or none of it. Laws of
-- Refusals.
use mathlib.Core.Path.{ap}
use native.Mathlib.Omega.{arith}
use lib.ListN.{length}
use Rattle.std.proofs.Common.{rules}
use Rattle.number_text.specs.write.Writing.{decimal_text, HasRoom}
use Rattle.number_text.proofs.length.Digits.{decimal_within}
use Rattle.number_text.proofs.write.Putting.{puts_is}
use Rattle.number_text.proofs.write.Writers.{written_by, written_refused}
use Rattle.flow_text.specs.refusal.RefusalTexts.{refused_text}
use Rattle.flow_text.proofs.refusal.Refusals.{refusal_long, refusal_short, refused_puts}
use Rattle.flow_text.proofs.refusal.write_refusal.Goals as goal

pub overflow_add-decimal_length : goal.overflow_add-decimal_length
overflow_add-decimal_length c = record { fits = omega (arith, c.decimal_length.ensures, decimal_within 20 c.from-n.result (omega arith) (omega arith)) }

pub returns-then-out-decimal_length : goal.returns-then-out-decimal_length
returns-then-out-decimal_length c =
    let n = c.args.n in
    let size = rw (c.from-n.ensures) at c.decimal_length.ensures in
    (written_refused _ (refused_text n) (omega (arith, size, refusal_long n)), refusal_short n (omega arith))

pub returns : goal.returns
returns c =
    let n = c.args.n in
    let size = rw (c.from-n.ensures) at c.decimal_length.ensures in
    let digits = puts_is _ _ _ (decimal_text n) c.put_decimal.ensures (ap decimal_text (omega (arith, c.from-n.ensures))) in
    let room : HasRoom c.new-w.result (refused_text n) = omega (arith, size, refusal_long n, c.if-out-decimal_length.false, c.new-w.ensures.at, ap length c.new-w.ensures.bytes) in (
      written_by _ _ _ _ _ c.new-w.ensures.bytes c.new-w.ensures.at (refused_puts _ _ _ _ n room c.put_bytes.ensures digits c.put.ensures) (omega (arith, size, refusal_long n, c.if-out-decimal_length.false)) (search rules),
      refusal_short n (omega arith),
    )
