-- `calendar::date_of_day` meets its contract: the year that begins in March, and the month and the
-- day in it.
use Prim.Native.Nat.{suc, ◌<◌}
use native.Mathlib.Omega.{arith}
use Rattle.calendar.proofs.gregorian.Months.{year_most}
use Rattle.calendar.proofs.convert.March.{year_to, in_first_year, in_next_year}
use Rattle.calendar.proofs.convert.date_of_day.Goals as goal
use Rattle.calendar.proofs.convert.date_of_day.Goals.{After-march_day-at}

few : (c : After-march_day-at) → c.march_day-at.result.day < 366
few c = omega (arith, c.march_day-at.ensures.1, year_most (suc c.march_day-at.result.year))

pub overflow_mul-both : goal.overflow_mul-both
overflow_mul-both c = omega (arith, few c.before)

pub overflow_add-both : goal.overflow_add-both
overflow_add-both c = omega (arith, few c.before)

pub overflow_add-result : goal.overflow_add-result
overflow_add-result c =
    let e = c.march_day-at.ensures in
    omega (arith, year_to c.args.n _ _ e.0 e.1 c.requires.0 c.requires.1)

pub returns-then-month-gt12 : goal.returns-then-month-gt12
returns-then-month-gt12 c =
    let e = c.march_day-at.ensures in
    in_next_year c.args.n _ _ e.0 e.1 c.requires.0 c.requires.1 c.if-month-gt12.true

pub returns : goal.returns
returns c =
    let e = c.march_day-at.ensures in
    in_first_year c.args.n _ _ e.0 e.1 c.requires.0 c.requires.1 c.if-month-gt12.false
