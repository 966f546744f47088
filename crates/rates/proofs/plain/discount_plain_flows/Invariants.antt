use Prim.Native.Nat.{◌-◌}
use mathlib.Core.Path.{◌≡◌}
use lib.IntN.{pos}
use lib.ListN.{length}
use Rattle.day_fraction.specs.Fractions.{whole}
use Rattle.rates.specs.simple.Rates.{stream_from}
use Rattle.rates.specs.plain.Plain.{flows_from, flows_of}
use Rattle.rates.proofs.plain.discount_plain_flows.Given as goal

-- what is left of the flows, on top of the sum so far, decides
abbrev pub invariant-loop-i : goal.invariant-loop-i
invariant-loop-i l = stream_from l.rate l.today l.sum (flows_from l.days l.currencies l.amounts l.i (length l.amounts - l.i)) ≡ stream_from l.rate l.today (whole (pos 0)) (flows_of l.days l.currencies l.amounts)
