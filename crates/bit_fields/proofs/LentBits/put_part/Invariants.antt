use mathlib.Core.Path.{◌≡◌}
use Rattle.bit_fields.proofs.BitWriters.{Flushed}
use Rattle.bit_fields.proofs.LentBits.put_part.Given as goal

abbrev pub invariant-loop-count : goal.invariant-loop-count
invariant-loop-count l = (l.self.out.ghost_name ≡ l.initial.self.out.ghost_name) × (Flushed l.initial.self.out.now l.initial.place l.initial.count l.initial.bits l.self.out.now l.place l.count l.bits)

abbrev pub decreases-loop-count : goal.decreases-loop-count
decreases-loop-count l = l.count
