-- `cash_flow::ten_to` meets its contract: each arm of the `match` has its number of digits.
use borrow.Author.Rules.{rules}
use Rattle.cash_flow.proofs.round.Limits.{power_is}
use lib.Ieee.{of_bits, of_int}
use Rattle.cash_flow.proofs.round.ten_to.Goals as goal

pub returns-in-0 : goal.returns-in-0
unfolding of_bits of_int
returns-in-0 c = power_is c.args.digits 0 c.requires (search rules)

pub returns-in-1 : goal.returns-in-1
unfolding of_bits of_int
returns-in-1 c = power_is c.args.digits 1 c.requires (search rules)

pub returns-in-2 : goal.returns-in-2
unfolding of_bits of_int
returns-in-2 c = power_is c.args.digits 2 c.requires (search rules)

pub returns-in-3 : goal.returns-in-3
unfolding of_bits of_int
returns-in-3 c = power_is c.args.digits 3 c.requires (search rules)

pub returns-in-4 : goal.returns-in-4
unfolding of_bits of_int
returns-in-4 c = power_is c.args.digits 4 c.requires (search rules)
