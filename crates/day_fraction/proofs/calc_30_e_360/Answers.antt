-- `day_fraction::calc_30_e_360` meets its contract: the adjusted days are those of the rule.
use Prim.Native.Nat.{ℕ}
use mathlib.Core.Path.{ap₂}
use native.Mathlib.Omega.{arith}
use Rattle.calendar.proofs.dates.Dates.{date-yes}
use Rattle.day_fraction.specs.Exact.{difference}
use Rattle.day_fraction.specs.Fractions.{bits, thirties_bits, years, months}
use Rattle.day_fraction.proofs.Bounds.{dates_30_e_lem}
use Rattle.day_fraction.proofs.calc_30_e_360.Goals as goal

pub in_thirties-requires : goal.in_thirties-requires
in_thirties-requires c =
    let a = c.args.span in
    let A = dates_30_e_lem a.start a.end (date-yes a.start a.ordered.first) (date-yes a.end a.ordered.last) in
    (omega (arith, A.start_to, c.cut_day.ensures), omega (arith, A.end_to, c.cut_day-2.ensures))

pub returns : goal.returns
unfolding bits
returns c =
    let a = c.args.span in
    rw c.in_thirties.ensures (ap₂ (λ (to from : ℕ). thirties_bits (years a.start a.end) (months a.start a.end) (difference to from)) c.cut_day-2.ensures c.cut_day.ensures)
