use Prim.Native.Nat.{◌*◌, ◌^◌}
use mathlib.Core.Path.{◌≡◌}
use lib.ListN.{length}
use Rattle.number_text.specs.write.Writing.{digits}
use Rattle.decimal.proofs.big_digits.put_scaled.Given as goal

abbrev pub invariant-loop : goal.invariant-loop
invariant-loop l = (length l.out ≡ l.count) × (l.out ≡ digits l.count (l.n * 2 ^ (48 * l.counter)))
