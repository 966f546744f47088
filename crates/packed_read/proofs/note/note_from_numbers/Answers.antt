-- `packed_read::note_from_numbers` meets its contract: 18 for the number or the spare bits, the
-- codes in their order, then the note is checked.
use mathlib.Core.Path.{sym, ◌∙◌}
use native.Mathlib.Omega.{arith}
use Rattle.outcome.proofs.Refusals.{handed_on}
use Rattle.packed_read.proofs.note.Reading.{well_formed}
use Rattle.packed_read.proofs.note.note_from_numbers.Goals as goal

pub returns-in_err-unit : goal.returns-in_err-unit
returns-in_err-unit c =
    let a = c.args in
    let good = sym c.number_good.ensures ∙ c.if-not-number_good.false in
    rw (well_formed a.table a.numbers.fields good (omega arith)) (handed_on _ _ _ c.from_residual.ensures.1 c.in_err-unit.ensures)

pub returns-in_err-convention : goal.returns-in_err-convention
returns-in_err-convention c =
    let a = c.args in
    let good = sym c.number_good.ensures ∙ c.if-not-number_good.false in
    rw (well_formed a.table a.numbers.fields good (omega arith), ← c.in_ok-unit.ensures) (handed_on _ _ _ c.from_residual-in_err-convention.ensures.1 c.in_err-convention.ensures)

pub returns-in_err-rule : goal.returns-in_err-rule
returns-in_err-rule c =
    let a = c.args in
    let good = sym c.number_good.ensures ∙ c.if-not-number_good.false in
    rw (well_formed a.table a.numbers.fields good (omega arith), ← c.in_ok-unit.ensures, ← c.in_ok-convention.ensures) (handed_on _ _ _ c.from_residual-in_err-rule.ensures.1 c.in_err-rule.ensures)

pub returns : goal.returns
returns c =
    let a = c.args in
    let good = sym c.number_good.ensures ∙ c.if-not-number_good.false in
    rw (well_formed a.table a.numbers.fields good (omega arith), ← c.in_ok-unit.ensures, ← c.in_ok-convention.ensures, ← c.in_ok-rule.ensures) c.checked.ensures
