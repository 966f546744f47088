-- A rollout into records: what was kept of each flow makes it again.
use Prim.Native.Nat.{ℕ, zero, suc, ◌+◌, ◌≤◌, ◌<◌}
use mathlib.Core.Path.{◌≡◌, refl, sym, ◌∙◌, ap, ap₂}
use mathlib.Core.List.{List, [], ◌∷◌, map}
use native.Mathlib.Omega.{arith}
use lib.ListN.{length, take, drop, set, get_or}
use lib.Ieee.{Float, nan}
use Rattle.outcome.proofs.Lists.{every_at}
use Rattle.outcome.specs.Outcome.{Outcome, given, refused, value}
use Rattle.outcome.proofs.Outcomes.{given_not_refused}
use Rattle.outcome.specs.Room.{counted, room_after}
use Rattle.outcome.proofs.Filling.{Filled, filled_next, count_is, front_taken}
use Rattle.calendar.specs.dates.Dates.{the_date}
use Rattle.calendar.specs.declared.dates.Date.{Date}
use Rattle.calendar.proofs.dates.Dates.{date-yes, date_found, number-from, number-to}
use Rattle.cash_flow.specs.declared.currency.Currency.{Currency}
use Rattle.cash_flow.specs.declared.flow.CashFlow.{CashFlow}
use Rattle.cash_flow.proofs.flow.NoFlow.{no_flow}
use Rattle.bond.specs.declared.note.Note.{Note}
use Rattle.note_flows.specs.flows.NoteFlows.{flow_day, amount_of}
use Rattle.note_flows.specs.flows.Turns.{Kept}
use Rattle.note_flows.proofs.flows.Flows.{OfNote}
use Rattle.rollout.specs.plain.Rollout.{cash_flows}
use Rattle.rollout.proofs.plain.Passes.{cash_flows_of}

-- an element of a list, where it is kept with others
element : {A B : Type 0} (part : A → B) (l : List A) (kept : List B) (k : ℕ) (d : A) (e : B) → take (length l) kept ≡ map part l → k < length l → get_or kept k e ≡ part (get_or l k d)
element part [] kept k d e q h = absurd (omega arith)
element part (x ∷ l) [] k d e q h = let z : 0 ≡ suc (length (map part l)) = ap length q in absurd (omega arith)
element part (x ∷ l) (y ∷ kept) zero d e q h = ap (λ (m : List _). get_or m 0 e) q
element part (x ∷ l) (y ∷ kept) (suc k) d e q h = element part l kept k d e (ap (drop 1) q) (omega arith)

-- the flows that are to be written, none where all is refused
abbrev pub to_write : Note → Float → List ℕ → List CashFlow
to_write n position table = value [] (cash_flows n position table)

module _ (n : Note) (position : Float) (table : List ℕ) (m : ℕ) (g : counted (cash_flows n position table) ≡ given m) where
  given_all : cash_flows n position table ≡ given (to_write n position table)
  given_all = by (cash_flows n position table) g
    where
      by : (o : Outcome (List CashFlow)) → counted o ≡ given m → o ≡ given (value [] o)
      by (given l) e = refl
      by (refused k) e = absurd (given_not_refused (sym e))

  pub so_many : length (to_write n position table) ≡ m
  so_many = sym (count_is (cash_flows n position table)) ∙ ap (value 0) g

  kept_part : {A : Type 0} (part : CashFlow → A) (old new : List A) → Kept part (cash_flows n position table) old new → m ≤ length old → take (length (to_write n position table)) new ≡ map part (to_write n position table)
  kept_part part old new w h =
      ap (take (length (to_write n position table))) (w.hold m g h ∙ ap (λ (o : Outcome (List CashFlow)). room_after part o old) given_all)
      ∙ front_taken part (to_write n position table) (drop (length (to_write n position table)) old)

  module _ (zeros days : List ℕ) (nils amounts : List Float) (kd : Kept flow_day (cash_flows n position table) zeros days) (ka : Kept amount_of (cash_flows n position table) nils amounts) (hd : m ≤ length zeros) (ha : m ≤ length nils) (k : ℕ) (h : k < m) where
    flow-k : CashFlow
    flow-k = get_or (to_write n position table) k no_flow

    of_note : OfNote n flow-k
    unfolding flow-k
    of_note = every_at (OfNote n) (to_write n position table) k no_flow (cash_flows_of n position table (to_write n position table) given_all).0 (omega (arith, so_many))

    kept-day : get_or days k 0 ≡ flow_day flow-k
    unfolding flow-k
    kept-day = element flow_day (to_write n position table) days k no_flow 0 (kept_part flow_day zeros days kd hd) (omega (arith, so_many))

    kept-amount : get_or amounts k nan ≡ amount_of flow-k
    unfolding flow-k
    kept-amount = element amount_of (to_write n position table) amounts k no_flow nan (kept_part amount_of nils amounts ka ha) (omega (arith, so_many))

    pub kept-dated : (1 ≤ get_or days k 0) × (get_or days k 0 ≤ 3652059)
    kept-dated =
        let d = date-yes flow-k.date of_note.0 in
        let a = number-from flow-k.date d in
        let b = number-to flow-k.date d in
        (omega (arith, kept-day), omega (arith, kept-day))

    same : record { date = the_date (get_or days k 0); currency = n.currency; amount = get_or amounts k nan } ≡ flow-k
    same =
        ap₂ (λ (t : ℕ) (x : Float). record { date = the_date t; currency = n.currency; amount = x }) kept-day kept-amount
        ∙ ap (λ (t : Date). record { date = t; currency = n.currency; amount = flow-k.amount }) (date_found flow-k.date (date-yes flow-k.date of_note.0))
        ∙ ap (λ (y : Currency). record { date = flow-k.date; currency = y; amount = flow-k.amount }) (sym of_note.1)

    pub rolling_more : (old out : List CashFlow) (x : CashFlow) → x ≡ record { date = the_date (get_or days k 0); currency = n.currency; amount = get_or amounts k nan } → k < length out → Filled (to_write n position table) old k (drop k (to_write n position table)) out → Filled (to_write n position table) old (k + 1) (drop (k + 1) (to_write n position table)) (set out k x)
    unfolding flow-k
    rolling_more old out x e l w = rw (e ∙ same) (filled_next (to_write n position table) old (to_write n position table) k no_flow out (omega (arith, so_many)) l w)
