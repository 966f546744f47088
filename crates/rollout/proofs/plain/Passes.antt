-- What a pass over a note's flows found is the answer, and what it kept is what the lists hold.
use Prim.Native.Nat.{ℕ, ◌≤◌, min}
use mathlib.Core.Path.{◌≡◌, sym, ◌∙◌, ap}
use mathlib.Core.List.{List, ◌++◌}
use native.Mathlib.Omega.{arith}
use lib.ListN.{length, take, drop}
use lib.Ieee.{Float}
use Rattle.std.specs.Prelude.{Result}
use Rattle.outcome.specs.Lists.{Every}
use Rattle.outcome.specs.Outcome.{given}
use Rattle.outcome.specs.Refusals.{outcome_of}
use Rattle.outcome.specs.declared.Refusal.{Refusal}
use Rattle.outcome.proofs.Outcomes.{then_given}
use Rattle.outcome.specs.Room.{counted}
use Rattle.outcome.proofs.Filling.{room_copied}
use Rattle.outcome.proofs.Fitting.{fits}
use Rattle.cash_flow.specs.declared.flow.CashFlow.{CashFlow}
use Rattle.business_days.specs.table.Table.{is_table}
use Rattle.bond.specs.note.Notes.{is_position, note_checks}
use Rattle.bond.specs.declared.note.Note.{Note}
use Rattle.bond.proofs.note.Ends.{passed}
use Rattle.note_flows.specs.flows.NoteFlows.{note_flows, flow_day, amount_of}
use Rattle.note_flows.specs.flows.Turns.{Kept}
use Rattle.note_flows.proofs.flows.Flows.{OfNote, flows_of_lem}
use Rattle.rollout.specs.plain.Rollout.{cash_flows, RolloutPromise}

-- flows that were kept, and copied in front of the lent lists
pub filled_by_copy : (n : Note) (position : Float) (table days : List ℕ) (amounts : List Float) (r : Result ℕ Refusal) (m : ℕ) → counted (cash_flows n position table) ≡ given m → (days' : List ℕ) (amounts' : List Float) → outcome_of r ≡ given m → m ≤ length days → m ≤ length amounts → (zeros kept-days : List ℕ) (nils kept-amounts : List Float) → m ≤ length zeros → m ≤ length nils → Kept flow_day (cash_flows n position table) zeros kept-days → Kept amount_of (cash_flows n position table) nils kept-amounts → days' ≡ take m kept-days ++ drop m days → amounts' ≡ take m kept-amounts ++ drop m amounts → RolloutPromise n position table days amounts r days' amounts'
filled_by_copy n position table days amounts r m g days' amounts' a hd ha zeros kept-days nils kept-amounts hz hn kd kx d x =
    let e = fits (cash_flows n position table) m (min (length days) (length amounts)) g (omega arith) in
    record {
      answer = rw e (a ∙ sym g);
      days-are = rw e (d ∙ ap (λ (l : List ℕ). take m l ++ drop m days) (kd.hold m g hz) ∙ room_copied flow_day (cash_flows n position table) m zeros days g);
      amounts_are = rw e (x ∙ ap (λ (l : List Float). take m l ++ drop m amounts) (kx.hold m g hn) ∙ room_copied amount_of (cash_flows n position table) m nils amounts g);
    }

-- the flows of a note that passes its checks are of its currency and on dates of the calendar
pub cash_flows_of : (n : Note) (position : Float) (table : List ℕ) (l : List CashFlow) → cash_flows n position table ≡ given l → Every (OfNote n) l × (length l ≤ 3652060)
unfolding cash_flows
cash_flows_of n position table l e =
    let g = then_given (note_checks (is_position position) (is_table table) n) (λ m. note_flows m position table) l e in
    let p = passed (is_position position) (is_table table) n g.0 g.1 in
    flows_of_lem n position table p.note l (ap (λ (m : Note). note_flows m position table) p.itself ∙ g.2)
