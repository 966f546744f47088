-- What stands of a stream of records from flow to flow; no promise of an entry point rests on this.
use Rattle.std.specs.Prelude.{pos, Float}
use Rattle.outcome.specs.Outcome.{Outcome, given, unless, and_then}
use Rattle.calendar.specs.declared.dates.Date.{Date}
use Rattle.cash_flow.specs.declared.flow.CashFlow.{CashFlow}
use Rattle.day_fraction.specs.Fractions.{whole}
use Rattle.rates.specs.factors.Factors.{is_discount_rate}
use Rattle.rates.specs.simple.Rates.{flow_added}
use Rattle.rates.specs.declared.simple.FlatRate.{FlatRate}

-- what a stream begins with: 15 for the rate, or 0
unfoldable pub stream_start : FlatRate → Outcome Float
stream_start r = unless (is_discount_rate r.rate) 15 (given (whole (pos 0)))

-- what one flow more makes of what stands so far
unfoldable pub flow_onto : FlatRate → Date → Outcome Float → CashFlow → Outcome Float
flow_onto r today o f = and_then o (λ sum. flow_added r today sum f)
