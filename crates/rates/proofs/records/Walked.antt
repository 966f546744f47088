-- The stream of records: what stands so far, with what is left of the slice, decides.
use Prim.Native.Nat.{ℕ, ◌+◌, ◌≤◌, ◌<◌}
use mathlib.Core.Path.{◌≡◌, refl, sym, ap, ◌∙◌}
use mathlib.Core.List.{List, [], ◌∷◌}
use native.Mathlib.Omega.{arith}
use lib.ListN.{length, get_or, drop, drop_of_length-le}
use lib.IntN.{pos}
use lib.Ieee.{Float}
use Rattle.std.specs.Prelude.{Result}
use Rattle.outcome.proofs.Lists.{head_at}
use Rattle.outcome.proofs.Outcomes.{unless_then}
use Rattle.outcome.specs.Outcome.{Outcome, given, refused, and_then}
use Rattle.outcome.specs.Refusals.{outcome_of}
use Rattle.outcome.specs.declared.Refusal.{Refusal}
use Rattle.calendar.specs.declared.dates.Date.{Date}
use Rattle.cash_flow.specs.declared.flow.CashFlow.{CashFlow}
use Rattle.cash_flow.proofs.flow.NoFlow.{no_flow}
use Rattle.day_fraction.specs.Fractions.{whole}
use Rattle.rates.specs.factors.Factors.{is_discount_rate}
use Rattle.rates.specs.simple.Rates.{stream_from, discounted_stream}
use Rattle.rates.specs.records.Inner.{stream_start, flow_onto}
use Rattle.rates.specs.declared.simple.FlatRate.{FlatRate}
use Rattle.rates.proofs.simple.Streams.{stream_more, stream_none}

pub record Summed (r : FlatRate) (today : Date) (ys : List CashFlow) : Type 0 where
  pub i : ℕ
  pub so_far : Result Float Refusal
  pub inside : i ≤ length ys
  pub told : and_then (outcome_of so_far) (λ sum. stream_from r today sum (drop i ys)) ≡ discounted_stream r today ys

module _ (r : FlatRate) (today : Date) (ys : List CashFlow) where
  pub start_told : (o : Outcome Float) → o ≡ stream_start r → and_then o (λ sum. stream_from r today sum ys) ≡ discounted_stream r today ys
  unfolding stream_start discounted_stream
  start_told o e = rw (e) (unless_then (is_discount_rate r.rate) 15 (given (whole (pos 0))) (λ sum. stream_from r today sum ys))

  abbrev pub sum_start : (a : Result Float Refusal) → outcome_of a ≡ stream_start r → Summed r today ys
  sum_start a e = record { i = 0; so_far = a; inside = omega arith; told = start_told (outcome_of a) e }

  onto : (o p : Outcome Float) (f : CashFlow) (fs : List CashFlow) → p ≡ flow_onto r today o f → and_then p (λ sum. stream_from r today sum fs) ≡ and_then o (λ sum. stream_from r today sum (f ∷ fs))
  unfolding flow_onto
  onto (given x) p f fs e = rw (e) (sym (stream_more r today x f fs))
  onto (refused n) p f fs e = rw (e)

  module _ (t : Summed r today ys) where
    pub more_told : (a : Result Float Refusal) → t.i < length ys → outcome_of a ≡ flow_onto r today (outcome_of t.so_far) (get_or ys t.i no_flow) → and_then (outcome_of a) (λ sum. stream_from r today sum (drop (t.i + 1) ys)) ≡ discounted_stream r today ys
    more_told a l e =
        let next : drop t.i ys ≡ get_or ys t.i no_flow ∷ drop (t.i + 1) ys = head_at ys t.i no_flow l in
        onto (outcome_of t.so_far) (outcome_of a) (get_or ys t.i no_flow) (drop (t.i + 1) ys) e
        ∙ ap (λ (fs : List CashFlow). and_then (outcome_of t.so_far) (λ sum. stream_from r today sum fs)) (sym next)
        ∙ t.told

    abbrev pub sum_more : (a : Result Float Refusal) → t.i < length ys → outcome_of a ≡ flow_onto r today (outcome_of t.so_far) (get_or ys t.i no_flow) → Summed r today ys
    sum_more a l e = record { i = t.i + 1; so_far = a; inside = omega arith; told = more_told a l e }

    pub sum_ends : length ys ≤ t.i → outcome_of t.so_far ≡ discounted_stream r today ys
    sum_ends h = sym (go (outcome_of t.so_far)) ∙ ap (λ (fs : List CashFlow). and_then (outcome_of t.so_far) (λ sum. stream_from r today sum fs)) (sym (drop_of_length-le ys h)) ∙ t.told
      where
        go : (o : Outcome Float) → and_then o (λ sum. stream_from r today sum []) ≡ o
        go (given x) = stream_none r today x
        go (refused n) = refl
