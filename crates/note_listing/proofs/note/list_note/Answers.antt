-- `note_listing::list_note` meets its contract: the note is refused, or it is listed.
use mathlib.Core.Path.{refl, sym, ap}
use lib.Seq.{length-take-le}
use Rattle.note_listing.specs.lines.Lines.{answer_text}
use Rattle.note_listing.specs.note.Listing.{listing}
use Rattle.note_listing.proofs.lines.Lines.{written_is, refusal_written}
use Rattle.note_listing.proofs.note.Notes.{was_read, was_refused}
use Rattle.note_listing.proofs.note.list_note.Goals as goal

pub returns-in-Ok : goal.returns-in-Ok
unfolding listing
returns-in-Ok c = written_is _ _ _ _ _ (ap answer_text (sym (was_read c.args.s.now _ _ refl _ c.in-Ok.ensures).lines)) c.list_flows.ensures

pub returns-in-Err : goal.returns-in-Err
unfolding listing
returns-in-Err c = refusal_written _ _ _ _ _ (ap answer_text (sym (was_refused c.args.s.now _ _ refl _ c.in-Err.ensures))) (rw (c.number.ensures) at c.write_refusal.ensures)
