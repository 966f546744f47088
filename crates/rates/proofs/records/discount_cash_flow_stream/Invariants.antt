use mathlib.Core.Path.{◌≡◌}
use lib.IntN.{pos}
use lib.ListN.{drop}
use Rattle.day_fraction.specs.Fractions.{whole}
use Rattle.rates.specs.simple.Rates.{stream_from}
use Rattle.rates.proofs.records.discount_cash_flow_stream.Given as goal

-- what is left of the flows, on top of the sum so far, decides
abbrev pub invariant-loop-flow : goal.invariant-loop-flow
invariant-loop-flow l = stream_from l.rate l.today l.sum (drop l.flow-index l.flows) ≡ stream_from l.rate l.today (whole (pos 0)) l.flows
