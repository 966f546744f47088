-- `packed_read::is_table_in` meets its contract: too many, or as the days are.
use mathlib.Core.Path.{sym, ◌∙◌}
use borrow.Author.Tests.{lt-leb}
use mathlib.Core.Bool.{true≢false}
use native.Mathlib.Omega.{arith}
use Rattle.packed_read.proofs.table.Tables.{days-there, table-many, table-days}
use Rattle.packed_read.proofs.table.is_table_in.Goals as goal

pub read_days-requires : goal.read_days-requires
read_days-requires c = (omega arith, days-there c.args.s.now c.args.n c.requires.0 c.requires.1 (omega arith), omega arith)

pub returns-then-n-le-MOST_HOLIDAYS : goal.returns-then-n-le-MOST_HOLIDAYS
returns-then-n-le-MOST_HOLIDAYS c =
    let d = c.read_days.ensures in
    (table-days c.args.s.now c.args.n _ c.requires.1 (omega arith) d.0, d.1)

pub returns-else-n-le-MOST_HOLIDAYS : goal.returns-else-n-le-MOST_HOLIDAYS
returns-else-n-le-MOST_HOLIDAYS c =
    let many = lt-leb c.args.n 4096 (omega arith) in
    (many ∙ table-many c.args.s.now _ c.requires.1 (omega arith), λ e. absurd (true≢false (sym e ∙ many)))
