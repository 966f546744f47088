use Rattle.note_flows.specs.flows.Turns.{left, most}
use Rattle.note_flows.proofs.flows.Collecting.{Counting, Collecting}
use Rattle.note_flows.proofs.flows.NoteFlows.collect_records.Given as goal

abbrev pub invariant-loop-paid : goal.invariant-loop-paid
invariant-loop-paid l =
    Counting (left l.initial.self) l.k l.self
    × Collecting (λ x. x) (left l.initial.self) l.initial.room l.room l.k (left l.self)

abbrev pub decreases-loop-paid : goal.decreases-loop-paid
decreases-loop-paid l = most l.self.due
