-- `term_text::text_length` meets its contract: the two numbers, and the dot.
use native.Mathlib.Omega.{arith}
use Rattle.term_text.proofs.coupon.Texts.{text_length, padded_most}
use Rattle.term_text.proofs.coupon.text_length.Goals as goal

pub overflow_add-result : goal.overflow_add-result
overflow_add-result c =
    let day = rw (c.from.ensures) at c.padded_length.ensures in
    record { fits = omega (arith, day, padded_most c.args.c.day (omega arith)) }

pub overflow_add-result-2 : goal.overflow_add-result-2
overflow_add-result-2 c =
    let day = rw (c.from.ensures) at c.padded_length.ensures in
    let month = rw (c.from-2.ensures) at c.padded_length-2.ensures in
    record { fits = omega (arith, day, month, padded_most c.args.c.day (omega arith), padded_most c.args.c.month (omega arith)) }

pub returns : goal.returns
returns c =
    let day = rw (c.from.ensures) at c.padded_length.ensures in
    let month = rw (c.from-2.ensures) at c.padded_length-2.ensures in
    omega (arith, day, month, text_length c.args.c)
