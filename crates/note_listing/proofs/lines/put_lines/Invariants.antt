use lib.ListN.{length, drop}
use Rattle.note_listing.specs.lines.Lines.{lines_of}
use Rattle.note_listing.specs.lines.Inner.{flows_shown, text_of}
use Rattle.note_listing.proofs.lines.Lines.{Writing}
use Rattle.note_listing.proofs.lines.put_lines.Given as goal

abbrev pub invariant-loop-day : goal.invariant-loop-day
invariant-loop-day l = let i = length l.yielded in Writing (flows_shown l.currency (drop i l.days) (drop i l.amounts)) l.initial.w l.w (text_of (lines_of (flows_shown l.currency l.days l.amounts)))
