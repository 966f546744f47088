-- `note_listing::flow_on` meets its contract: its parts.
use Rattle.note_listing.proofs.lines.flow_on.Goals as goal

pub returns : goal.returns
returns c = rw c.date_or_none.ensures
