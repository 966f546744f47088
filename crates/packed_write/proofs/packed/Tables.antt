-- A table that is taken: each day fits its bits.
use Prim.Native.Nat.{ℕ, ◌<◌}
use mathlib.Core.Path.{◌≡◌}
use mathlib.Core.Bool.{true}
use mathlib.Core.List.{List}
use native.Mathlib.Omega.{arith}
use lib.ListN.{length, get_or}
use Rattle.business_days.specs.table.Table.{is_table}
use Rattle.business_days.proofs.table.Table.{table_ascends, by_last}

pub day-fits : (t : List ℕ) (i : ℕ) → is_table t ≡ true → i < length t → get_or t i 0 < 4194304
day-fits t i e h = omega (arith, by_last 1 t (table_ascends t e) i h)
