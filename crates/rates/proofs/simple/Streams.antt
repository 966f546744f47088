-- Laws of a stream: what a flow more makes of the sum, and what is left decides.
use Prim.Native.Nat.{ℕ}
use mathlib.Core.Path.{◌≡◌, refl, sym, ap, ◌∙◌}
use mathlib.Core.List.{List, [], ◌∷◌}
use lib.Ieee.{Float, binary64, add}
use Rattle.outcome.specs.Outcome.{Outcome, given, refused, and_then}
use Rattle.calendar.specs.declared.dates.Date.{Date}
use Rattle.cash_flow.specs.declared.flow.CashFlow.{CashFlow}
use Rattle.rates.specs.simple.Rates.{flow_value, flow_added, stream_from}
use Rattle.rates.specs.declared.simple.FlatRate.{FlatRate}

module _ (r : FlatRate) (today : Date) where
  -- a stream begins with its first flow
  pub stream_more : (sum : Float) (f : CashFlow) (fs : List CashFlow) → stream_from r today sum (f ∷ fs) ≡ and_then (flow_added r today sum f) (λ next. stream_from r today next fs)
  unfolding stream_from
  stream_more sum f fs = refl

  pub stream_on : (sum x : Float) (f : CashFlow) (fs : List CashFlow) (whole : Outcome Float) → given x ≡ flow_value r today f → stream_from r today sum (f ∷ fs) ≡ whole → stream_from r today (add binary64 sum x) fs ≡ whole
  unfolding flow_added
  stream_on sum x f fs whole e h =
      ap (λ (o : Outcome Float). and_then (and_then o (λ y. given (add binary64 sum y))) (λ next. stream_from r today next fs)) e ∙ sym (stream_more sum f fs) ∙ h

  pub stream_ends : (sum : Float) (n : ℕ) (f : CashFlow) (fs : List CashFlow) (whole : Outcome Float) → refused n ≡ flow_value r today f → stream_from r today sum (f ∷ fs) ≡ whole → refused n ≡ whole
  unfolding flow_added
  stream_ends sum n f fs whole e h =
      ap (λ (o : Outcome Float). and_then (and_then o (λ y. given (add binary64 sum y))) (λ next. stream_from r today next fs)) e ∙ sym (stream_more sum f fs) ∙ h

  pub stream_none : (sum : Float) → stream_from r today sum [] ≡ given sum
  unfolding stream_from
  stream_none sum = refl
