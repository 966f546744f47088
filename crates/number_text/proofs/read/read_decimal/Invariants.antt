use Rattle.std.proofs.Common.{ℕ, ◌≡◌, ◌≤◌, drop}
use Rattle.number_text.specs.read.Reading.{decimal_number}
use Rattle.number_text.proofs.read.Decimals.{remaining}
use Rattle.number_text.proofs.read.read_decimal.Given as goal

abbrev pub invariant-loop-b : goal.invariant-loop-b
invariant-loop-b g l = (l.v ≤ l.most) × ((n : ℕ) → remaining l.most n l.v (drop l.b-index l.s) ≡ decimal_number l.most n l.s)
