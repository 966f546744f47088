-- `flow_text::amount_length` meets its contract: 15, 17, or the length of the two parts. Laws of
-- Answers.
use Rattle.outcome.proofs.Refusals.{refused_on}
use mathlib.Core.Path.{sym, ◌∙◌}
use mathlib.Core.Path.{subst}
use native.Mathlib.Omega.{arith}
use lib.Dec.{T}
use Rattle.decimal.proofs.float.Answers.{given-finite}
use Rattle.flow_text.proofs.amount.Answers.{amount_length_given, amount_no_currency, amount_not_finite}
use Rattle.flow_text.proofs.amount.Lengths.{decimal_long}
use Rattle.flow_text.proofs.amount.amount_length.Goals as goal

pub returns-then-not-is_currency : goal.returns-then-not-is_currency
returns-then-not-is_currency c = amount_no_currency c.args.x c.args.currency _ c.in_ok-k.ensures (sym c.is_currency.ensures ∙ c.if-not-is_currency.true)

pub overflow_add-result : goal.overflow_add-result
overflow_add-result c =
    let p = given-finite c.args.x _ c.in_ok-k.ensures in
    omega (arith, p.1, decimal_long c.args.x (subst T (sym c.well_formed.0.1) tt) p.0)

pub returns : goal.returns
returns c = amount_length_given c.args.x c.args.currency _ c.in_ok-k.ensures (sym c.is_currency.ensures ∙ c.if-not-is_currency.false)

pub returns-in_err-k : goal.returns-in_err-k
returns-in_err-k c = refused_on _ _ c.from_residual.ensures.1 ∙ amount_not_finite c.args.x c.args.currency _ c.in_err-k.ensures
