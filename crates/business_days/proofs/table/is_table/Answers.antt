-- `is_table` meets its contract: its length, and that it ascends.
use Rattle.std.proofs.Common.{le-leb, arith, length}
use Rattle.std.proofs.lemmas.Bool.{lt-leb}
use Rattle.business_days.specs.table.Table.{is_table}
use Rattle.business_days.proofs.table.is_table.Goals as goal

pub returns-then-table-le-MOST_HOLIDAYS : goal.returns-then-table-le-MOST_HOLIDAYS
unfolding is_table
returns-then-table-le-MOST_HOLIDAYS c = simp (le-leb (length c.args.table.now) 4096 (omega arith)) c.is_ascending.ensures

pub returns-else-table-le-MOST_HOLIDAYS : goal.returns-else-table-le-MOST_HOLIDAYS
unfolding is_table
returns-else-table-le-MOST_HOLIDAYS c = simp (lt-leb (length c.args.table.now) 4096 (omega arith))
