-- `Holidays::judged` meets its contract: a table that is taken ascends.
use Rattle.std.proofs.Common.{sym, ◌∙◌}
use Rattle.business_days.proofs.table.Table.{table_ascends}
use Rattle.business_days.proofs.table.Holidays.judged.Goals as goal

pub invariant_of-result : goal.invariant_of-result
invariant_of-result c = record { ascend = table_ascends _ (sym c.is_table.ensures ∙ c.if-not-is_table.false) }
