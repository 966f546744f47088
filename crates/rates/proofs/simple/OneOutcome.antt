-- No second answer satisfies an entry point's promise; and a refusal's number is never 0.
use Rattle.std.specs.Prelude.{Result}
use mathlib.Core.Path.{◌≡◌, sym, ◌∙◌}
use mathlib.Core.List.{List, [], ◌∷◌}
use native.Mathlib.Omega.{arith}
use lib.IntN.{pos}
use lib.Ieee.{Float, binary64, add, mul}
use lib.Ieee.Scale.{finite}
use Rattle.outcome.specs.Outcome.{given, plus_zero, Numbered}
use Rattle.outcome.specs.Refusals.{outcome_of}
use Rattle.outcome.specs.declared.Refusal.{Refusal}
use Rattle.outcome.proofs.Outcomes.{unless_numbered, then_numbered, Returns, returns}
use Rattle.outcome.proofs.Refusals.{same_result}
use Rattle.calendar.specs.declared.dates.Date.{Date}
use Rattle.cash_flow.specs.declared.flow.CashFlow.{CashFlow}
use Rattle.day_fraction.specs.Fractions.{whole}
use Rattle.day_count_conv.specs.conventions.Conventions.{fractions_in_f64, no_terms}
use Rattle.day_count_conv.specs.declared.conventions.DayCountConv.{DayCountConv}
use Rattle.day_count_conv.proofs.conventions.OneOutcome.{fraction_numbered}
use Rattle.rates.specs.factors.Factors.{is_discount_rate, factor_of}
use Rattle.rates.specs.simple.Rates.{factor_returned, fraction_to, discount_factor, is_one_currency, flow_value, discounted_flow, flow_added, stream_from, discounted_stream, FactorPromise, FlowPromise, StreamPromise}
use Rattle.rates.specs.declared.simple.FlatRate.{FlatRate}

-- a refusal returns its number and the zero
pub factor_returned_lem : Returns outcome_of plus_zero factor_returned
factor_returned_lem = returns outcome_of plus_zero

-- one answer to each question
module _ (rate : FlatRate) (today : Date) where
  pub one_factor : (t : Date) (r s : Result Float Refusal) → FactorPromise rate today t r → FactorPromise rate today t s → r ≡ s
  one_factor t r s p q = same_result r s (p ∙ sym q)

  pub one-flow : (f : CashFlow) (r s : Result Float Refusal) → FlowPromise rate today f r → FlowPromise rate today f s → r ≡ s
  one-flow f r s p q = same_result r s (p ∙ sym q)

  pub one_stream : (fs : List CashFlow) (r s : Result Float Refusal) → StreamPromise rate today fs r → StreamPromise rate today fs s → r ≡ s
  one_stream fs r s p q = same_result r s (p ∙ sym q)

-- every refusal has its number
to_numbered : (rule : DayCountConv) (today t : Date) → Numbered (fraction_to rule today t)
unfolding fraction_to
to_numbered rule today t = fraction_numbered fractions_in_f64 today t rule no_terms

module _ (rate : FlatRate) (today : Date) where
  pub factor_numbered : (t : Date) → Numbered (discount_factor rate today t)
  unfolding discount_factor
  factor_numbered t =
      unless_numbered (is_discount_rate rate.rate) 15 _ (omega arith)
      (then_numbered (fraction_to rate.day_count_conv today t) (λ yf. given (factor_of rate.rate yf)) (to_numbered rate.day_count_conv today t) (λ yf. omega arith))

  value_numbered : (f : CashFlow) → Numbered (flow_value rate today f)
  unfolding flow_value
  value_numbered f =
      unless_numbered (finite f.amount) 15 _ (omega arith)
      (unless_numbered (is_one_currency rate.currency f.currency) 17 _ (omega arith)
      (then_numbered (fraction_to rate.day_count_conv today f.date) (λ yf. given (mul binary64 (factor_of rate.rate yf) f.amount)) (to_numbered rate.day_count_conv today f.date) (λ yf. omega arith)))

  pub flow_numbered : (f : CashFlow) → Numbered (discounted_flow rate today f)
  unfolding discounted_flow
  flow_numbered f = unless_numbered (is_discount_rate rate.rate) 15 _ (omega arith) (value_numbered f)

  added_numbered : (sum : Float) (f : CashFlow) → Numbered (flow_added rate today sum f)
  unfolding flow_added
  added_numbered sum f = then_numbered (flow_value rate today f) (λ x. given (add binary64 sum x)) (value_numbered f) (λ x. omega arith)

  from_numbered : (fs : List CashFlow) (sum : Float) → Numbered (stream_from rate today sum fs)
  unfolding stream_from
  from_numbered [] sum = omega arith
  from_numbered (f ∷ fs) sum = then_numbered (flow_added rate today sum f) (λ next. stream_from rate today next fs) (added_numbered sum f) (λ next. from_numbered fs next)

  pub stream_numbered : (fs : List CashFlow) → Numbered (discounted_stream rate today fs)
  unfolding discounted_stream
  stream_numbered fs = unless_numbered (is_discount_rate rate.rate) 15 _ (omega arith) (from_numbered fs (whole (pos 0)))
