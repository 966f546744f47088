-- `packed_read::is_whole` meets its contract: each of its tests in turn.
use mathlib.Core.Path.{◌∙◌}
use borrow.Author.Tests.{ne_eqb}
use lib.ListN.{length}
use native.Mathlib.Omega.{arith}
use Rattle.packed_read.proofs.table.Tables.{too_short, too_many, not-exact, exact}
use Rattle.packed_read.proofs.table.is_whole.Goals as goal

pub returns-then-s-record_bytes : goal.returns-then-s-record_bytes
returns-then-s-record_bytes c = too_short c.args.s.now (omega (arith, c.record_bytes.ensures, c.if-s-record_bytes.true))

pub returns-then-n-gt-MOST_HOLIDAYS : goal.returns-then-n-gt-MOST_HOLIDAYS
returns-then-n-gt-MOST_HOLIDAYS c = too_many c.args.s.now _ c.table_count-n.ensures.0 (omega arith) c.if-n-gt-MOST_HOLIDAYS.true

pub returns-then-s-record_bytes-2 : goal.returns-then-s-record_bytes-2
returns-then-s-record_bytes-2 c =
    exact c.args.s.now _ _ c.table_count-n.ensures.0 (omega arith) (omega arith) (omega arith) (rw (c.record_bits-end.ensures) at c.read_field.ensures)

pub returns-else-s-record_bytes-2 : goal.returns-else-s-record_bytes-2
returns-else-s-record_bytes-2 c =
    let e = c.if-s-record_bytes-2.false in
    ne_eqb (length c.args.s.now) _ e ∙ not-exact c.args.s.now _ c.table_count-n.ensures.0 (omega arith) (omega arith) (rw (c.record_bytes-2.ensures) at e)
