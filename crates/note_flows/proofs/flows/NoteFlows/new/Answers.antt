-- `NoteFlows::new` meets its contract: the note's checks, then its flows.
use mathlib.Core.Path.{refl, sym, ◌∙◌}
use Rattle.outcome.proofs.Refusals.{refused_on}
use Rattle.note_flows.specs.flows.NoteFlows.{cash_flows}
use Rattle.business_days.proofs.table.Table.{table_ascends}
use Rattle.bond.proofs.note.Ends.{passed}
use Rattle.note_flows.proofs.schedule.Spans.{passes}
use Rattle.note_flows.proofs.flows.NoteFlows.new.Goals as goal

pub returns-in_err-check_note_with : goal.returns-in_err-check_note_with
unfolding cash_flows
returns-in_err-check_note_with c = rw (refused_on _ _ c.from_residual.ensures.1, ← c.is_position-position_in.ensures, ← c.is_table-table_taken.ensures, ← c.in_err-check_note_with.ensures) refl

pub invariant_of-result : goal.invariant_of-result
invariant_of-result c =
    let e = sym c.in_ok-check_note_with.ensures in
    record { ascend = table_ascends c.args.table.now (sym c.is_table-table_taken.ensures ∙ (passed _ _ c.args.note _ e).table_taken) }

pub invariant_of-result-2 : goal.invariant_of-result-2
invariant_of-result-2 c = record { accepted = passes c.args.note _ _ _ (sym c.in_ok-check_note_with.ensures); dated = refl }

pub returns : goal.returns
unfolding cash_flows
returns c = rw (← c.is_position-position_in.ensures, ← c.is_table-table_taken.ensures, ← c.in_ok-check_note_with.ensures, ← (passed _ _ c.args.note _ (sym c.in_ok-check_note_with.ensures)).itself) refl
