-- A walk from step to step.
use Rattle.std.specs.Prelude.{ℕ, zero, suc, Bool, true, false}
use Rattle.outcome.specs.Outcome.{Outcome, given, refused, and_then}

-- it looks whether there is more to go, takes a turn and looks again; a turn's refusal stops it,
-- and after so many looks 1
unfoldable pub walked : {S : Type 0} → ℕ → (S → Bool) → (S → Outcome S) → S → Outcome S
walked zero more turn s = refused 1
walked (suc k) more turn s = elim (more s) [ true ↦ and_then (turn s) (walked k more turn) | false ↦ given s ]
