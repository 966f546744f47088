-- `calendar::from_march` meets its contract: each product and shift is the quotient that it stands
-- for.
use Rattle.calendar.proofs.convert.March.{hundredth, leap-days, four_hundredth, shifted}
use Rattle.calendar.proofs.convert.from_march.Goals as goal

pub returns : goal.returns
returns c =
    let a = c.args in
    rw (hundredth a.year c.requires.0, leap-days a.year, four_hundredth a.year, shifted a.month c.requires.1 c.requires.2)
