-- The table that follows a packed note.
use Rattle.std.specs.Prelude.{ℕ, ◌-◌, ◌*◌, Bool, true, List, leb, eqb, length}
use Rattle.outcome.specs.Lists.{values_from}
use Rattle.outcome.specs.Outcome.{pick, both}
use Rattle.bit_fields.specs.Bits.{field}
use Rattle.business_days.specs.table.Table.{is_table}
use Rattle.packed_layout.specs.NoteLayout.{count_width, day_width, count_place, day_place, bit_length, byte_length}

-- the table follows: count 16, days of 22 each
abbrev pub table_count : List ℕ → ℕ
table_count s = field s count_place count_width

abbrev pub day_at : List ℕ → ℕ → ℕ
day_at s i = field s (day_place i) day_width

-- n of them from day i on
abbrev pub days_from : List ℕ → ℕ → ℕ → List ℕ
days_from s i n = values_from (day_at s) i n

abbrev pub table_days : List ℕ → List ℕ
table_days s = days_from s 0 (table_count s)

-- as long as its count says, and the spare bits behind the last day are zero
unfoldable pub is_exact : List ℕ → ℕ → Bool
is_exact s n = both (eqb (length s) (byte_length n)) (eqb (field s (bit_length n) (8 * length s - bit_length n)) 0)

-- bytes missing or left over are 18; but what follows a count above 4,096 is not judged
unfoldable pub is_whole : List ℕ → Bool
is_whole s = both (leb (byte_length 0) (length s)) (pick (leb (table_count s) 4096) (is_exact s (table_count s)) true)

-- a count above 4,096 is 13, as is a table that is not taken
unfoldable pub is_table_in : List ℕ → Bool
is_table_in s = both (leb (table_count s) 4096) (is_table (table_days s))
