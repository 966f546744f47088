-- A rollout into records: what is written and still to come in the second pass.
use Prim.Native.Nat.{ℕ, ◌+◌, ◌≤◌, ◌<◌}
use mathlib.Core.Path.{◌≡◌, refl, sym, ◌∙◌, ap, subst}
use mathlib.Core.Bool.{true}
use mathlib.Core.List.{List, [], ◌∷◌, ◌++◌, map-id}
use native.Mathlib.Omega.{arith}
use lib.ListN.{length, drop, set}
use lib.Seq.{drop-length, drop-drop}
use lib.Ieee.{Float}
use Rattle.std.specs.Prelude.{Result}
use Rattle.outcome.specs.Outcome.{Outcome, given, refused, value}
use Rattle.outcome.specs.Refusals.{outcome_of}
use Rattle.outcome.specs.declared.Refusal.{Refusal}
use Rattle.outcome.proofs.Outcomes.{given_injective, then_given}
use Rattle.outcome.specs.Room.{counted}
use Rattle.outcome.proofs.Fitting.{fitting-given}
use Rattle.outcome.proofs.Filling.{Filled, filled_none, filled_more, filled_all, count_is, room_is}
use Rattle.cash_flow.specs.declared.flow.CashFlow.{CashFlow}
use Rattle.business_days.specs.table.Table.{is_table}
use Rattle.bond.specs.note.Notes.{is_position, note_checks}
use Rattle.bond.specs.declared.note.Note.{Note}
use Rattle.bond.proofs.note.Ends.{passed}
use Rattle.note_flows.specs.flows.NoteFlows.{followed, note_flows}
use Rattle.note_flows.specs.flows.Turns.{left}
use Rattle.note_flows.specs.schedule.Schedule.{is_dated}
use Rattle.note_flows.specs.declared.flows.NoteFlows.{NoteFlows}
use Rattle.note_flows.proofs.flows.Flows.{followed-given}
use Rattle.rollout.specs.plain.Rollout.{cash_flows, fitted_in}
use Rattle.rollout.specs.records.Records.{RecordsPromise}

-- the flows that are to be written: none where all is refused
abbrev pub to_write : Note → Float → List ℕ → List CashFlow → List CashFlow
to_write n position table old = value [] (fitted_in n position table (length old))

-- flow k came, and what is left after it: as before where all are kept
pub record FlowIs (n : Note) (position : Float) (table : List ℕ) (count k : ℕ) (before : NoteFlows) (x : CashFlow) (next : NoteFlows) : Type 0 where
  pub flow : (l : List CashFlow) → note_flows n position table ≡ given l → drop k l ≡ x ∷ drop (k + 1) l
  pub due : (l : List CashFlow) → note_flows n position table ≡ given l → 256 < count → (is_dated next.due ≡ true) × (left next ≡ given (drop (k + 1) l))
  pub same : count ≤ 256 → next ≡ before

-- k flows are written, and the others are to come, handed out by `flows`
pub record Rolling (n : Note) (position : Float) (table : List ℕ) (old : List CashFlow) : Type 0 where
  pub k : ℕ
  pub flows : NoteFlows
  pub out : List CashFlow
  pub within : k ≤ length (to_write n position table old)
  pub filled : Filled (to_write n position table old) old k (drop k (to_write n position table old)) out
  pub next : 256 < length (to_write n position table old) → k < length (to_write n position table old) → (is_dated flows.due ≡ true) × (left flows ≡ given (drop k (to_write n position table old)))

-- a turn that pays gives the flow that comes
pub came_due : (n : Note) (position : Float) (table : List ℕ) (count k : ℕ) (before next : NoteFlows) (x : CashFlow) (flows : List CashFlow) → note_flows n position table ≡ given flows → left before ≡ given (drop k flows) → 256 < count → left before ≡ followed (given x) (left next) → FlowIs n position table count k before x next
came_due n position table count k before next x flows are b f t =
    let g = followed-given (given x) (left next) (drop k flows) (sym t ∙ b) in
    let q : x ∷ g.1 ≡ drop k flows = ap (λ (y : CashFlow). y ∷ g.1) (given_injective g.2) ∙ g.4 in
    let m : g.1 ≡ drop (k + 1) flows = ap (drop 1) q ∙ drop-drop 1 k flows in
    record {
      flow = λ l a. subst (λ (u : List CashFlow). drop k u ≡ x ∷ drop (k + 1) u) (given_injective (sym are ∙ a)) (sym q ∙ ap (λ (u : List CashFlow). x ∷ u) m);
      due = λ l a h. (next.dated, g.3 ∙ ap given (m ∙ ap (drop (k + 1)) (given_injective (sym are ∙ a))));
      same = λ h. absurd (omega arith);
    }

module _ (n : Note) (position : Float) (table : List ℕ) (old : List CashFlow) where
  -- what is to be written are all flows of what was judged
  pub all_of_lem : (o : Outcome (List CashFlow)) → fitted_in n position table (length old) ≡ o → 0 < length (value [] o) → (note_checks (is_position position) (is_table table) n ≡ given n) × (note_flows n position table ≡ given (value [] o)) × (cash_flows n position table ≡ given (value [] o))
  unfolding cash_flows
  all_of_lem (given l) e h =
      let f = fitting-given (length old) (cash_flows n position table) l e in
      let g = then_given (note_checks (is_position position) (is_table table) n) (λ m. note_flows m position table) l f.0 in
      let p = passed (is_position position) (is_table table) n g.0 g.1 in
      (g.1 ∙ ap given (sym p.itself), ap (λ (m : Note). note_flows m position table) p.itself ∙ g.2, f.0)
  all_of_lem (refused k) e h = absurd (omega arith)

  fit_room : (o : Outcome (List CashFlow)) → fitted_in n position table (length old) ≡ o → length (value [] o) ≤ length old
  fit_room (given l) e = (fitting-given (length old) (cash_flows n position table) l e).1
  fit_room (refused k) e = omega arith

  pub enough_room : length (to_write n position table old) ≤ length old
  enough_room = fit_room (fitted_in n position table (length old)) refl

  all_given : 0 < length (to_write n position table old) → (note_checks (is_position position) (is_table table) n ≡ given n) × (note_flows n position table ≡ given (to_write n position table old)) × (cash_flows n position table ≡ given (to_write n position table old))
  all_given h = all_of_lem (fitted_in n position table (length old)) refl h

  -- what `NoteFlows::new` gave hands out all of them
  pub first-due : (s : NoteFlows) → left s ≡ cash_flows n position table → 0 < length (to_write n position table old) → (is_dated s.due ≡ true) × (left s ≡ given (to_write n position table old))
  first-due s e h = (s.dated, e ∙ (all_given h).2)

  abbrev pub rolling_none : (s : NoteFlows) → left s ≡ cash_flows n position table → Rolling n position table old
  rolling_none s e = record {
    k = 0;
    flows = s;
    out = old;
    within = omega arith;
    filled = filled_none (to_write n position table old) old;
    next = λ f l. first-due s e l;
  }

  module _ (t : Rolling n position table old) (l : t.k < length (to_write n position table old)) where
    pub k_inside : t.k < length t.out
    k_inside = omega (arith, enough_room, t.filled.same_length)

    module _ (x : CashFlow) (s : NoteFlows) (came : FlowIs n position table (length (to_write n position table old)) t.k t.flows x s) where
      pub rolling_filled : Filled (to_write n position table old) old (t.k + 1) (drop (t.k + 1) (to_write n position table old)) (set t.out t.k x)
      rolling_filled =
          filled_more (to_write n position table old) old t.k x (drop (t.k + 1) (to_write n position table old)) t.out k_inside
          (subst (λ (m : List CashFlow). Filled (to_write n position table old) old t.k m t.out) (came.flow (to_write n position table old) (all_given (omega arith)).1) t.filled)

      pub rolling_next : 256 < length (to_write n position table old) → (is_dated s.due ≡ true) × (left s ≡ given (drop (t.k + 1) (to_write n position table old)))
      rolling_next f = came.due (to_write n position table old) (all_given (omega arith)).1 f

      pub rolling_within : t.k + 1 ≤ length (to_write n position table old)
      rolling_within = omega arith

      abbrev pub rolling_more : Rolling n position table old
      rolling_more = record {
        k = t.k + 1;
        flows = s;
        out = set t.out t.k x;
        within = rolling_within;
        filled = rolling_filled;
        next = λ f _. rolling_next f;
      }

  module _ (r : Result ℕ Refusal) (answers : outcome_of r ≡ counted (fitted_in n position table (length old))) where
    -- as many as the answer says
    pub so_many : (m : ℕ) → m ≡ value 0 (outcome_of r) → m ≡ length (to_write n position table old)
    so_many m e = e ∙ ap (value 0) answers ∙ count_is (fitted_in n position table (length old))

    pub rolled : (t : Rolling n position table old) → length (to_write n position table old) ≤ t.k → RecordsPromise n position table old r t.out
    rolled t h =
        let all : t.k ≡ length (to_write n position table old) = omega (arith, t.within) in
        let none : drop t.k (to_write n position table old) ≡ [] = ap (λ (m : ℕ). drop m (to_write n position table old)) all ∙ drop-length (to_write n position table old) in
        record {
          answer = answers;
          contents =
              filled_all (to_write n position table old) old t.k t.out (subst (λ (m : List CashFlow). Filled (to_write n position table old) old t.k m t.out) none t.filled)
              ∙ ap (λ (m : ℕ). to_write n position table old ++ drop m old) all
              ∙ ap (λ (l : List CashFlow). l ++ drop (length (to_write n position table old)) old) (sym (map-id (to_write n position table old)))
              ∙ room_is (λ x. x) (fitted_in n position table (length old)) old;
        }
