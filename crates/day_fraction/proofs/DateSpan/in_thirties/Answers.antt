-- `day_fraction::DateSpan::in_thirties` meets its contract: three signed differences, divided and added in
-- the order of `thirties_bits`.
use native.Mathlib.Omega.{arith}
use Rattle.calendar.proofs.dates.Dates.{date-yes}
use Rattle.day_fraction.proofs.Written.{thirties_written}
use Rattle.day_fraction.proofs.DateSpan.in_thirties.Goals as goal

pub signed_difference-y-requires : goal.signed_difference-y-requires
signed_difference-y-requires c =
    let a = c.args.self in
    let s = date-yes a.start a.ordered.first in
    let e = date-yes a.end a.ordered.last in
    (omega arith, omega arith)

pub signed_difference-m-requires : goal.signed_difference-m-requires
signed_difference-m-requires c =
    let a = c.args.self in
    let s = date-yes a.start a.ordered.first in
    let e = date-yes a.end a.ordered.last in
    (omega arith, omega arith)

pub returns : goal.returns
returns c = thirties_written _ _ _ c.signed_difference-y.ensures c.signed_difference-m.ensures c.signed_difference-d.ensures
