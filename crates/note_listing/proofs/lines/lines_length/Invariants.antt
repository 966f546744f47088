use Prim.Native.Nat.{◌*◌, ◌≤◌}
use mathlib.Core.Path.{◌≡◌}
use lib.ListN.{length, drop}
use Rattle.outcome.proofs.Tallies.{tally}
use Rattle.note_listing.specs.lines.Lines.{lines_of}
use Rattle.note_listing.specs.lines.Inner.{flows_shown}
use Rattle.note_listing.proofs.lines.lines_length.Given as goal

abbrev pub invariant-loop-day : goal.invariant-loop-day
invariant-loop-day l = let i = length l.yielded in (l.total ≤ 331 * i) × (tally l.total (lines_of (flows_shown l.currency (drop i l.days) (drop i l.amounts))) ≡ tally 0 (lines_of (flows_shown l.currency l.days l.amounts)))
