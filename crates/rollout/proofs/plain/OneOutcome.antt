-- No second outcome satisfies the entry point's promise: neither another answer, nor other lists;
-- and a refusal's number is never 0.
use Rattle.std.specs.Prelude.{Result}
use Prim.Native.Nat.{ℕ, zero, suc}
use mathlib.Core.Path.{◌≡◌, sym, ◌∙◌}
use mathlib.Core.List.{List, []}
use native.Mathlib.Omega.{arith}
use lib.Ieee.{Float}
use Rattle.outcome.specs.Outcome.{Outcome, given, Numbered}
use Rattle.outcome.specs.declared.Refusal.{Refusal}
use Rattle.outcome.proofs.Outcomes.{then_numbered, elim_numbered}
use Rattle.outcome.proofs.Refusals.{same_result}
use Rattle.outcome.proofs.Fitting.{fitting_numbered}
use Rattle.calendar.specs.dates.Dates.{is_before}
use Rattle.calendar.specs.declared.dates.Date.{Date}
use Rattle.business_days.specs.table.Table.{is_table}
use Rattle.day_adjust.specs.Adjustment.{adjusted}
use Rattle.day_adjust.proofs.OneOutcome.{adjusted_numbered}
use Rattle.time_period.specs.steps.Steps.{absent, stepped}
use Rattle.time_period.proofs.steps.OneOutcome.{step_numbered}
use Rattle.day_count_conv.specs.conventions.Conventions.{fractions_in_f64, rolled_from, year_fraction}
use Rattle.day_count_conv.proofs.conventions.OneOutcome.{fraction_numbered}
use Rattle.cash_flow.specs.declared.flow.CashFlow.{CashFlow}
use Rattle.bond.specs.note.Notes.{is_position, note_checks, first_coupon_end, nominal_of, coupon_amount}
use Rattle.bond.specs.declared.note.Note.{Note}
use Rattle.bond.proofs.note.OneOutcome.{checks_numbered, first_end_numbered}
use Rattle.note_flows.specs.flows.NoteFlows.{paid, coupon_flow, followed, later_flows, note_flows}
use Rattle.rollout.specs.plain.Rollout.{cash_flows, fitted_in, RolloutPromise}

-- the answer, the days and the amounts
pub one_rollout : (n : Note) (position : Float) (table days : List ℕ) (amounts : List Float) (r s : Result ℕ Refusal) (d e : List ℕ) (a b : List Float) → RolloutPromise n position table days amounts r d a → RolloutPromise n position table days amounts s e b → (r ≡ s) × (d ≡ e) × (a ≡ b)
one_rollout n position table days amounts r s d e a b p q =
    (same_result r s (p.answer ∙ sym q.answer), p.days-are ∙ sym q.days-are, p.amounts_are ∙ sym q.amounts_are)

module _ (n : Note) (position : Float) (table : List ℕ) where
  paid_numbered : (t : Date) (x : Float) → Numbered (paid n table t x)
  unfolding paid
  paid_numbered t x = then_numbered (adjusted n.business_day_rule t table) _ (adjusted_numbered n.business_day_rule t table) (λ u. omega arith)

  coupon_numbered : (start end roll : Date) → Numbered (coupon_flow n position table start end roll)
  unfolding coupon_flow
  coupon_numbered start end roll =
      then_numbered (year_fraction fractions_in_f64 n.day_count_convention start end (rolled_from roll n.period)) (λ fraction. paid n table end (coupon_amount position n fraction))
      (fraction_numbered fractions_in_f64 start end n.day_count_convention (rolled_from roll n.period))
      (λ fraction. paid_numbered end (coupon_amount position n fraction))

  followed_numbered : (flow : Outcome CashFlow) (others : Outcome (List CashFlow)) → Numbered flow → Numbered others → Numbered (followed flow others)
  followed_numbered flow others h k = then_numbered flow _ h (λ x. then_numbered others _ k (λ l. omega arith))

  after_numbered : (k : ℕ) (t : Date) → Numbered (later_flows k n position table t)
  unfolding later_flows
  after_numbered zero t = omega arith
  after_numbered (suc k) t =
      elim_numbered (is_before t n.maturity) _ _
      (then_numbered (stepped n.period absent t) (λ next. followed (coupon_flow n position table t next t) (later_flows k n position table next)) (step_numbered n.period.unit n.period.num t)
      (λ u. followed_numbered (coupon_flow n position table t u t) (later_flows k n position table u) (coupon_numbered t u t) (after_numbered k u)))
      (followed_numbered (paid n table n.maturity (nominal_of position n)) (given []) (paid_numbered n.maturity (nominal_of position n)) (omega arith))

  flows_numbered : Numbered (note_flows n position table)
  unfolding note_flows
  flows_numbered =
      then_numbered (first_coupon_end n) (λ end. followed (coupon_flow n position table n.issue_date end end) (later_flows 3652059 n position table end)) (first_end_numbered n)
      (λ end. followed_numbered (coupon_flow n position table n.issue_date end end) (later_flows 3652059 n position table end) (coupon_numbered n.issue_date end end) (after_numbered 3652059 end))

pub cash_flows_numbered : (n : Note) (position : Float) (table : List ℕ) → Numbered (cash_flows n position table)
unfolding cash_flows
cash_flows_numbered n position table =
    then_numbered (note_checks (is_position position) (is_table table) n) (λ m. note_flows m position table) (checks_numbered (is_position position) (is_table table) n) (λ m. flows_numbered m position table)

pub rollout_numbered : (n : Note) (position : Float) (table : List ℕ) (places : ℕ) → Numbered (fitted_in n position table places)
rollout_numbered n position table places = fitting_numbered places (cash_flows n position table) (cash_flows_numbered n position table)
