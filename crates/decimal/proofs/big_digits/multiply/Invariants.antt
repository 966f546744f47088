use Prim.Native.Nat.{ℕ, ◌≤◌, ◌*◌}
use mathlib.Core.Path.{◌≡◌}
use lib.ListN.{length}
use Rattle.number_text.specs.write.Writing.{digits}
use Rattle.decimal.proofs.big_digits.Multiplying.{Half}
use Rattle.decimal.proofs.big_digits.multiply.Given as goal

abbrev pub invariant-loop-i : goal.invariant-loop-i
invariant-loop-i l = (length l.out ≡ length l.initial.out) × (l.carry ≤ 2 * l.m) × ((n : ℕ) → l.initial.out ≡ digits (length l.initial.out) n → Half l.m l.out l.i l.carry (length l.initial.out) n)
