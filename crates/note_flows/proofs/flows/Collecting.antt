-- The pass over a note's flows: it counts them, and keeps them where there are places for all.
use Prim.Native.Nat.{ℕ, suc, ◌+◌, ◌≤◌, ◌<◌}
use mathlib.Core.Path.{◌≡◌, refl, sym, ◌∙◌, ap}
use mathlib.Core.List.{List, [], ◌∷◌, map}
use native.Mathlib.Omega.{arith}
use lib.ListN.{length, set, length-set}
use Rattle.outcome.specs.Outcome.{Outcome, given, refused, value}
use Rattle.outcome.proofs.Outcomes.{given_injective, given_not_refused}
use Rattle.outcome.proofs.Tallies.{tally, tally_none, tally_more, tally_end}
use Rattle.outcome.specs.Room.{counted}
use Rattle.outcome.proofs.Filling.{Filled, filled_none, filled_more, filled_all, count_is, room_is}
use Rattle.cash_flow.specs.declared.flow.CashFlow.{CashFlow}
use Rattle.note_flows.specs.flows.NoteFlows.{followed}
use Rattle.note_flows.specs.flows.Turns.{left, most, Turned, Kept}
use Rattle.note_flows.specs.declared.schedule.Due.{Due}
use Rattle.note_flows.specs.declared.schedule.Due.TheVariants.{First, After, Nothing}
use Rattle.note_flows.specs.declared.flows.NoteFlows.{NoteFlows}
use Rattle.note_flows.specs.declared.flows.Paid.{Paid}
use Rattle.std.specs.Prelude.{Some}

-- a flow is counted
tally_flow : (k : ℕ) (x : CashFlow) (o : Outcome (List CashFlow)) → tally k (followed (given x) o) ≡ tally (k + 1) o
tally_flow k x o = tally_more k (x ∷ []) o

-- what is counted is given
flows-more : (k m : ℕ) (x : CashFlow) (o : Outcome (List CashFlow)) → tally k o ≡ given m → value [] (followed (given x) o) ≡ x ∷ value [] o
flows-more k m x (given l) e = refl
flows-more k m x (refused n) e = absurd (given_not_refused (sym e))

-- where all are counted none is left
none_left : (k m : ℕ) (o : Outcome (List CashFlow)) → tally k o ≡ given m → m ≤ k → value [] o ≡ []
none_left k m (given []) e h = refl
none_left k m (given (x ∷ l)) e h = let z : k + suc (length l) ≡ m = given_injective e in absurd (omega arith)
none_left k m (refused n) e h = refl

-- what is counted with one more is past that one
one_more : (k m : ℕ) (o : Outcome (List CashFlow)) → tally (k + 1) o ≡ given m → k < m
one_more k m (given l) e = let z : k + 1 + length l ≡ m = given_injective e in omega arith
one_more k m (refused n) e = absurd (given_not_refused (sym e))

-- no more can be due than at the first
few_due : (due : Due) → most due ≤ 3652061
few_due First = omega arith
few_due (After t) = omega arith
few_due Nothing = omega arith

-- ---- what is counted and what is left are the whole

module _ (flows : Outcome (List CashFlow)) where
  pub record Counting (k : ℕ) (s : NoteFlows) : Type 0 where
    pub few : k + most s.due ≤ 3652061
    pub whole : tally k (left s) ≡ counted flows

  module _ {k : ℕ} {s : NoteFlows} (c : Counting k s) where
    pub counting_more : (t : NoteFlows) (p : Paid) → Turned s t (given (Some p)) → Counting (k + 1) t
    counting_more t p (e, d, f) = record {
      few = omega (arith, c.few, f);
      whole = sym (tally_flow k p.flow (left t)) ∙ sym (ap (tally k) e) ∙ c.whole;
    }

    pub counting_stop : {m : ℕ} → left s ≡ refused m → refused m ≡ counted flows
    counting_stop e = sym (ap (tally k) e) ∙ c.whole

    pub counting_end : left s ≡ given [] → given k ≡ counted flows
    counting_end e = sym (tally_end k (left s) e) ∙ c.whole

-- ---- what is written and what is left are the whole, where there are places for all

module _ {A : Type 0} (part : CashFlow → A) (flows : Outcome (List CashFlow)) (old : List A) where
  pub record Writing (m : ℕ) (new : List A) (k : ℕ) (o : Outcome (List CashFlow)) : Type 0 where
    pub within : k ≤ m
    pub whole : tally k o ≡ given m
    pub filled : Filled (map part (value [] flows)) old k (map part (value [] o)) new

  pub record Collecting (new : List A) (k : ℕ) (o : Outcome (List CashFlow)) : Type 0 where
    pub as_many : length new ≡ length old
    pub writing : (m : ℕ) → counted flows ≡ given m → m ≤ length old → Writing m new k o

  pub collecting_none : Collecting old 0 flows
  collecting_none = record {
    as_many = refl;
    writing = λ m e h. record { within = omega arith; whole = tally_none flows ∙ e; filled = filled_none _ _ };
  }

  module _ {new : List A} {k : ℕ} {o : Outcome (List CashFlow)} (c : Collecting new k o) where
    pub collecting_more : (x : CashFlow) (rest : Outcome (List CashFlow)) → o ≡ followed (given x) rest → Collecting (set new k (part x)) (k + 1) rest
    collecting_more x rest e = record {
      as_many = length-set new k (part x) ∙ c.as_many;
      writing = λ m g h.
          let w = c.writing m g h in
          let whole : tally (k + 1) rest ≡ given m = sym (tally_flow k x rest) ∙ sym (ap (tally k) e) ∙ w.whole in
          let f : value [] o ≡ x ∷ value [] rest = ap (value []) e ∙ flows-more (k + 1) m x rest whole in
          let inside : k < m = one_more k m rest whole in
          record {
            within = omega arith;
            whole = whole;
            filled = filled_more _ _ k (part x) _ new (omega (arith, c.as_many)) (rw (ap (map part) f) at w.filled);
          };
    }

    pub collecting_stop : {j : ℕ} → o ≡ refused j → refused j ≡ counted flows → Kept part flows old new
    collecting_stop e g = record { hold = λ m f h. absurd (given_not_refused (sym f ∙ sym g)) }

    pub collecting_end : given k ≡ counted flows → Kept part flows old new
    collecting_end g = record {
      hold = λ m f h.
          let w = c.writing m f h in
          let e : value [] o ≡ [] = none_left k m o w.whole (let z : m ≡ k = given_injective (sym f ∙ sym g) in omega arith) in
          let all : m ≡ length (value [] flows) = sym (ap (value 0) f) ∙ count_is flows in
          let n : k ≡ length (value [] flows) = omega (arith, w.within, given_injective (sym f ∙ sym g)) in
          rw n at (filled_all _ _ k new (rw (ap (map part) e) at w.filled)) ∙ room_is part flows old;
    }
