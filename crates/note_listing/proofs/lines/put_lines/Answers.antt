-- `note_listing::put_lines` meets its contract: if the rest were written now, all would be.
use borrow.Author.Rules.{rules}
use Rattle.std.proofs.lemmas.Slice.Zip.{zip_turn, zip_end}
use Rattle.note_listing.proofs.lines.Lines.{pairs-next, pairs-none, writing_line, writing_more, writing_end, writing_flows}
use Rattle.note_listing.proofs.lines.put_lines.Goals as goal

pub put_line-requires : goal.put_line-requires
put_line-requires c =
    let l = c.loop-day in
    let a = c.args in
    let turn = zip_turn a.days.now a.amounts.now l.yielded c.into_iter-day-iterator.result l.day-iterator c.next.new.self c.next.result (search rules) (search rules) l.yielded_by (c.in-Some.day, c.in-Some.amount) c.in-Some.is c.next.ensures.steps in
    rw c.flow_on.ensures (writing_line (writing_flows (pairs-next a.currency a.days.now a.amounts.now l.yielded (c.in-Some.day, c.in-Some.amount) turn) l.invariant))

pub loop-day-preserved : goal.loop-day-preserved
loop-day-preserved c =
    let l = c.loop-day in
    let a = c.args in
    let turn = zip_turn a.days.now a.amounts.now l.yielded c.into_iter-day-iterator.result l.day-iterator c.next.new.self c.next.result (search rules) (search rules) l.yielded_by (c.in-Some.day, c.in-Some.amount) c.in-Some.is c.next.ensures.steps in
    writing_more (writing_flows (pairs-next a.currency a.days.now a.amounts.now l.yielded (c.in-Some.day, c.in-Some.amount) turn) l.invariant) _ (rw c.flow_on.ensures at c.put_line.ensures)

pub returns : goal.returns
returns c =
    let l = c.loop-day in
    let a = c.args in
    writing_end (writing_flows (pairs-none a.currency a.days.now a.amounts.now _ (zip_end a.days.now a.amounts.now l.yielded c.into_iter-day-iterator.result l.day-iterator c.next.new.self c.next.result (search rules) (search rules) l.yielded_by c.in-None.is c.next.ensures.steps)) l.invariant)
