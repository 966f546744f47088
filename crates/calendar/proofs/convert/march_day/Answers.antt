-- `calendar::march_day` meets its contract: the year in quarters of a day, and what is left of it.
use Prim.Native.Nat.{◌+◌}
use Rattle.calendar.proofs.convert.March.{march_day}
use Rattle.calendar.proofs.convert.march_day.Goals as goal

pub returns : goal.returns
returns c = let h = march_day (c.args.n + 305) in (h.day, h.within)
