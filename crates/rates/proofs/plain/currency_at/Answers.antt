-- `rates::currency_at` meets its contract: each way is one of the two currencies.
use borrow.Author.Tests.{lt-ltb, le-ltb}
use Rattle.rates.specs.plain.Plain.{currency_at}
use Rattle.rates.proofs.plain.currency_at.Goals as goal

pub returns-then-n-lt16777216 : goal.returns-then-n-lt16777216
unfolding currency_at
returns-then-n-lt16777216 c = rw (lt-ltb c.args.n 16777216 c.if-n-lt16777216.true)

pub returns-else-n-lt16777216 : goal.returns-else-n-lt16777216
unfolding currency_at
returns-else-n-lt16777216 c = rw (le-ltb c.args.n 16777216 c.if-n-lt16777216.false)
