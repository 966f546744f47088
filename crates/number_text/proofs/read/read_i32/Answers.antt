-- What the decimal gives fits with its sign: laws of Decimals and Signs.
use mathlib.Core.Path.{ap, ◌∙◌}
use Prim.Native.Nat.{ℕ}
use native.Mathlib.Omega.{arith}
use lib.IntN.{pos, neg_ℤ}
use mir.Facts.{to_z_pos}
use mir.Syntax.{w32}
use Rattle.outcome.specs.Outcome.{Outcome, given, and_then}
use Rattle.number_text.proofs.read.Decimals.{decimal_most, minus_read, plain_read}
use Rattle.number_text.proofs.read.Numberings.{handed_by}
use Rattle.number_text.proofs.read.Signs.{minus_back}
use Rattle.number_text.proofs.read.read_i32.Goals as goal

pub negated-requires : goal.negated-requires
negated-requires g c = decimal_most _ _ _ _ (c.in_ok-read_decimal.ensures (λ e. 0))

pub returns-in_err-read_decimal : goal.returns-in_err-read_decimal
returns-in_err-read_decimal g c = λ f. handed_by f _ _ _ c.from_residual.ensures.1 (c.in_err-read_decimal.ensures f) ∙ minus_read _ c.args.s.now _ c.in-Some.ensures.cases.0 c.in-Some.ensures.cases.1

pub returns-in-Some : goal.returns-in-Some
returns-in-Some g c = λ f. ap given (minus_back _ _ c.negated.ensures (decimal_most _ _ _ _ (c.in_ok-read_decimal.ensures f))) ∙ ap (λ (o : Outcome ℕ). and_then o (λ v. given (neg_ℤ (pos v)))) (c.in_ok-read_decimal.ensures f) ∙ minus_read _ c.args.s.now _ c.in-Some.ensures.cases.0 c.in-Some.ensures.cases.1

pub overflow_cast-result : goal.overflow_cast-result
overflow_cast-result g c = record { sfits = omega (arith, decimal_most _ _ _ _ (c.in_ok-read_decimal-2.ensures (λ e. 0))) }

pub returns-in_err-read_decimal-2 : goal.returns-in_err-read_decimal-2
returns-in_err-read_decimal-2 g c = λ f. handed_by f _ _ _ c.from_residual-in_err-read_decimal-2.ensures.1 (c.in_err-read_decimal-2.ensures f) ∙ plain_read _ c.args.s.now _ c.in_default.ensures.cases c.after_plus.ensures

pub returns : goal.returns
returns g c = λ f. ap given (to_z_pos w32 (omega (arith, decimal_most _ _ _ _ (c.in_ok-read_decimal-2.ensures f)))) ∙ ap (λ (o : Outcome ℕ). and_then o (λ v. given (pos v))) (c.in_ok-read_decimal-2.ensures f) ∙ plain_read _ c.args.s.now _ c.in_default.ensures.cases c.after_plus.ensures
