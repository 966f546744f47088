-- `icma::uncut_date` meets its contract: every month has the day.
use Prim.Native.Nat.{ℕ, ◌+◌, ◌/◌, ◌%◌}
use mathlib.Core.Path.{ap}
use native.Mathlib.Omega.{arith}
use Rattle.calendar.specs.dates.Dates.{month_date}
use Rattle.calendar.specs.declared.dates.Date.{Date}
use Rattle.calendar.proofs.gregorian.Months.{at_least}
use Rattle.icma.proofs.walks.uncut_date.Goals as goal

pub returns : goal.returns
unfolding month_date
returns c =
    let a = c.args in
    ap {B = Date} (λ (d : ℕ). record { year = a.index / 12 + 1; month = a.index % 12 + 1; day = d }) (omega (arith, at_least (a.index / 12 + 1) (a.index % 12 + 1) (omega arith) (omega arith)))
