-- The holiday table: a list of at most 4,096 serial days of the calendar, strictly ascending.
use Rattle.std.specs.Prelude.{ℕ, ◌+◌, Bool, true, false, ◌||◌, List, [], ◌∷◌, length, eqb, leb}
use Rattle.outcome.specs.Outcome.{both}

-- days of the calendar, each later than the one before it, and none before `low`
unfoldable pub ascends_from : ℕ → List ℕ → Bool
ascends_from low [] = true
ascends_from low (d ∷ ds) = both (leb low d) (both (leb d 3652059) (ascends_from (d + 1) ds))

-- strictly ascending days of the calendar, however many
abbrev pub ascending : List ℕ → Bool
ascending t = ascends_from 1 t

-- a table that is taken: at most 4,096 of them
unfoldable pub is_table : List ℕ → Bool
is_table t = both (leb (length t) 4096) (ascending t)

-- a day is listed
unfoldable pub is_listed : ℕ → List ℕ → Bool
is_listed n [] = false
is_listed n (d ∷ ds) = eqb n d || is_listed n ds
