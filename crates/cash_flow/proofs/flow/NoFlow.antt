-- What stands past the end of a list of flows, which is never read.
use lib.Ieee.{nan}
use Rattle.cash_flow.specs.declared.flow.CashFlow.{CashFlow}

abbrev pub no_flow : CashFlow
no_flow = record { date = record { year = 0; month = 0; day = 0 }; currency = record { first = 0; second = 0; third = 0 }; amount = nan }
