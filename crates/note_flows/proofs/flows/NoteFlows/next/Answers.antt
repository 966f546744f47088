-- `NoteFlows::next` meets its contract: what is owed is on a date that exists.
use mathlib.Core.Path.{◌≡◌, sym, ◌∙◌, ap}
use Rattle.std.specs.Prelude.{Some}
use Rattle.outcome.specs.Outcome.{given}
use Rattle.calendar.proofs.dates.Dates.{date-yes, number-from, number-to}
use Rattle.note_flows.specs.schedule.Schedule.{owed}
use Rattle.note_flows.proofs.flows.Dues.{owed_date}
use Rattle.note_flows.proofs.flows.NoteFlows.next.Goals as goal

pub near-spot-requires : goal.near-spot-requires
near-spot-requires c =
    let e : owed c.args.self.now.note c.args.self.now.position c.args.self.now.due ≡ given (Some c.in-Some.payment) = sym c.in_ok-payment.ensures ∙ ap given c.in-Some.is in
    let d = date-yes c.in-Some.payment.date (owed_date c.args.self.now _ e) in
    rw c.day_of_date-n.ensures (number-from c.in-Some.payment.date d, number-to c.in-Some.payment.date d)
