-- `term_text::write_period` meets its contract: room for the whole text, or none of it.
use native.Mathlib.Omega.{arith}
use mathlib.Core.Path.{ap}
use mathlib.Core.List.{[], ◌∷◌}
use lib.ListN.{length, length-append}
use mir.Facts.{to_z-of_z}
use Rattle.std.proofs.Common.{rules}
use Rattle.number_text.specs.write.Writing.{signed_text, Puts, TakesSigned}
use Rattle.number_text.proofs.length.Signs.{signed-within}
use Rattle.number_text.proofs.write.Putting.{puts_then}
use Rattle.number_text.proofs.write.Writers.{written_by, written_refused}
use Rattle.term_text.specs.period.PeriodTexts.{letter_of, period_text}
use Rattle.time_period.proofs.steps.Signs.{told}
use Rattle.term_text.proofs.period.Texts.{text_length}
use Rattle.term_text.proofs.period.write_period.Goals as goal

pub overflow_add-signed_length : goal.overflow_add-signed_length
overflow_add-signed_length c =
    let f = told c.args.p.num (search rules) in
    let takes : TakesSigned c.args.p.num c.signed_length.result = rw (to_z-of_z f) at c.signed_length.ensures in
    record { fits = omega (arith, takes, signed-within c.args.p.num f) }

pub returns-then-out-signed_length : goal.returns-then-out-signed_length
returns-then-out-signed_length c =
    let takes : TakesSigned c.args.p.num c.signed_length.result = rw (to_z-of_z (told c.args.p.num (search rules))) at c.signed_length.ensures in
    written_refused c.args.out.now (period_text c.args.p) (omega (arith, takes, text_length c.args.p, c.if-out-signed_length.true))

pub returns : goal.returns
unfolding period_text
returns c =
    let f = told c.args.p.num (search rules) in
    let takes : TakesSigned c.args.p.num c.signed_length.result = rw (to_z-of_z f) at c.signed_length.ensures in
    let long = length-append (signed_text c.args.p.num) (letter_of c.args.p.unit ∷ []) in
    let number : Puts c.new-w.result c.put_signed.new.self (signed_text c.args.p.num) = rw (to_z-of_z f) at c.put_signed.ensures in
    let letter : Puts c.put_signed.new.self c.put.new.self (letter_of c.args.p.unit ∷ []) = rw (c.letter.ensures) at c.put.ensures in
    written_by _ _ _ _ _ c.new-w.ensures.bytes c.new-w.ensures.at (puts_then _ _ _ _ _ number letter (omega (arith, takes, c.new-w.ensures.at, ap length c.new-w.ensures.bytes))) (omega (arith, takes)) (search rules)
