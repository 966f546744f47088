-- `day_fraction::calc_act_365_leap` meets its contract: every number is that of `leap_bits`, and so
-- is the order of the operations.
use native.Mathlib.Omega.{arith}
use Rattle.calendar.proofs.dates.Dates.{date-yes}
use Rattle.day_fraction.specs.Fractions.{bits}
use Rattle.day_fraction.proofs.calc_act_365_leap.Goals as goal

pub signed_difference-y-requires : goal.signed_difference-y-requires
signed_difference-y-requires c =
    let a = c.args.span in
    let s = date-yes a.start a.ordered.first in
    let e = date-yes a.end a.ordered.last in
    (omega arith, omega arith)

pub returns : goal.returns
unfolding bits
returns c = rw (c.signed_difference-y.ensures, c.part_of_year_elapsed-last.ensures, c.part_of_year_elapsed-first.ensures)
