-- `NoteFlows::collect` meets its contract: what is left at the end is none.
use Rattle.std.proofs.Common.{rules}
use Rattle.note_flows.specs.flows.NoteFlows.{flow_day, amount_of}
use Rattle.note_flows.proofs.flows.Collecting.{collecting_end}
use Rattle.note_flows.proofs.flows.NoteFlows.collect.Goals as goal

pub returns-clause-days_kept : goal.returns-clause-days_kept
returns-clause-days_kept c = collecting_end flow_day _ _ c.loop-paid.invariant.1 (search rules)

pub returns-clause-amounts_kept : goal.returns-clause-amounts_kept
returns-clause-amounts_kept c = collecting_end amount_of _ _ c.loop-paid.invariant.2 (search rules)
