use Rattle.std.proofs.Common.{◌≡◌, length, drop}
use Rattle.number_text.proofs.write.Writer.put_bytes.Given as goal

abbrev pub invariant-loop-i : goal.invariant-loop-i
invariant-loop-i l = (length l.place ≡ length l.s) × (drop l.i l.place ≡ drop l.i l.s)
