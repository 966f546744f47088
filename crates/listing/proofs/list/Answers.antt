-- `listing::list` is safe: what it writes stands in its bytes.
use mathlib.Core.Path.{sym}
use lib.Seq.{length-take-le}
use Rattle.note_listing.proofs.note.OneOutcome.{listed_within}
use Rattle.listing.proofs.list.Goals as goal

pub slice_bounds-room-end : goal.slice_bounds-room-end
slice_bounds-room-end c = listed_within _ _ _ _ _ c.in-Ok.is c.list_note.ensures.0

pub slice_bounds-write_answer-end : goal.slice_bounds-write_answer-end
slice_bounds-write_answer-end c = sym (length-take-le _ _ (listed_within _ _ _ _ _ c.in-Ok.is c.list_note.ensures.0))
