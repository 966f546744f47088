-- `decimal::put_large` meets its contract: the digits are enough for the number. Laws of Texts.
use mathlib.Core.Path.{refl}
use lib.ListN.{replicate}
use Rattle.decimal.proofs.four_decimals.Texts.{part_enough}
use Rattle.decimal.proofs.four_decimals.put_large.Goals as goal

pub put_by_digits-requires-clause-twos_bound : goal.put_by_digits-requires-clause-twos_bound
put_by_digits-requires-clause-twos_bound c = (part_enough (replicate 347 48) c.digits_enough-count.result c.args.n c.args.twos refl c.digits_enough-count.ensures c.requires.twos_bound c.requires.n_bound).1
