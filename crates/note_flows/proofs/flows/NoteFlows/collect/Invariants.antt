use Rattle.note_flows.specs.flows.NoteFlows.{flow_day, amount_of}
use Rattle.note_flows.specs.flows.Turns.{left, most}
use Rattle.note_flows.proofs.flows.Collecting.{Counting, Collecting}
use Rattle.note_flows.proofs.flows.NoteFlows.collect.Given as goal

abbrev pub invariant-loop-paid : goal.invariant-loop-paid
invariant-loop-paid l =
    Counting (left l.initial.self) l.count l.self
    × Collecting flow_day (left l.initial.self) l.initial.days l.days l.count (left l.self)
    × Collecting amount_of (left l.initial.self) l.initial.amounts l.amounts l.count (left l.self)

abbrev pub decreases-loop-paid : goal.decreases-loop-paid
decreases-loop-paid l = most l.self.due
