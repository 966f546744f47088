-- What is owed is what is left: its flow, and what is left after it.
use Prim.Native.Nat.{ℕ, ◌<◌}
use mathlib.Core.Path.{◌≡◌, refl, sym, ◌∙◌, ap, subst}
use mathlib.Core.Bool.{Bool, true, false}
use mathlib.Core.List.{List, []}
use native.Mathlib.Omega.{arith}
use lib.Ieee.{Float}
use Rattle.std.specs.Prelude.{Option, Some, None}
use Rattle.std.proofs.lemmas.Option.{same_Some, none-some}
use Rattle.outcome.specs.Outcome.{Outcome, given, refused, and_then, passed_as, pick}
use Rattle.outcome.proofs.Outcomes.{given_injective, then_given}
use Rattle.calendar.specs.dates.Dates.{is_date, is_before}
use Rattle.calendar.specs.declared.dates.Date.{Date}
use Rattle.calendar.proofs.dates.Dates.{date-yes, number-from, number-to}
use Rattle.time_period.specs.steps.Steps.{absent, stepped}
use Rattle.time_period.proofs.steps.Steps.{step-later}
use Rattle.day_adjust.specs.Adjustment.{adjusted}
use Rattle.day_fraction.specs.Fractions.{Span}
use Rattle.day_count_conv.specs.conventions.Conventions.{fractions_in_f64, rolled_from, by_rule}
use Rattle.day_count_conv.proofs.conventions.Judged.{span_fraction, roll_dated_lem}
use Rattle.cash_flow.specs.declared.flow.CashFlow.{CashFlow}
use Rattle.bond.specs.note.Notes.{first_coupon_end, nominal_of, coupon_amount}
use Rattle.bond.specs.declared.note.Note.{Note}
use Rattle.bond.proofs.note.Ends.{Accepted, first_end_later}
use Rattle.note_flows.specs.schedule.Schedule.{is_dated, coupon, coupon_owed, owed}
use Rattle.note_flows.specs.flows.NoteFlows.{paid, coupon_flow, followed, later_flows, note_flows}
use Rattle.note_flows.specs.flows.Turns.{flows_due, left, most}
use Rattle.note_flows.specs.declared.flows.NoteFlows.{NoteFlows}
use Rattle.note_flows.specs.declared.schedule.Due.{Due}
use Rattle.note_flows.specs.declared.schedule.Due.TheVariants.{First, After, Nothing}
use Rattle.note_flows.specs.declared.schedule.Payment.{Payment}
use Rattle.note_flows.proofs.schedule.Spans.{accepted_note, first_span, next_span}
use Rattle.note_flows.proofs.flows.Flows.{adjusted-dated, next_flows, last_flows, after_next, after_last, enough}

-- a payment is on a date of the calendar, and fewer are due after it
pub record Sound (due : Due) (p : Payment) : Type 0 where
  pub date : is_date p.date ≡ true
  pub next : is_dated p.next ≡ true
  pub fewer : most p.next < most due

module _ (n : Note) (position : Float) (table : List ℕ) where
  -- what is paid for what is owed
  abbrev pub paid_for : Option Payment → Outcome (List CashFlow)
  paid_for None = given []
  paid_for (Some p) = followed (paid n table p.date p.amount) (flows_due n position table p.next)

  coupon_left : (start end roll : Date) → Span start end → is_date roll ≡ true → and_then (coupon_owed n position start end roll) paid_for ≡ followed (coupon_flow n position table start end roll) (later_flows 3652059 n position table end)
  unfolding coupon_flow
  coupon_left start end roll s d =
      by (by_rule fractions_in_f64 n.day_count_convention start end (rolled_from roll n.period))
      ∙ ap (λ (o : Outcome Float). followed (and_then o (λ fraction. paid n table end (coupon_amount position n fraction))) (later_flows 3652059 n position table end))
      (sym (span_fraction fractions_in_f64 n.day_count_convention start end (rolled_from roll n.period) s (roll_dated_lem n.day_count_convention roll d)))
    where
      by : (o : Outcome Float) → and_then (passed_as (λ fraction. Some (coupon n position end fraction)) o) paid_for ≡ followed (and_then o (λ fraction. paid n table end (coupon_amount position n fraction))) (later_flows 3652059 n position table end)
      by (given fraction) = refl
      by (refused k) = refl

  coupon_sound : (due : Due) (start end roll : Date) (p : Payment) → is_date end ≡ true → most (After end) < most due → coupon_owed n position start end roll ≡ given (Some p) → Sound due p
  coupon_sound due start end roll p d f e =
      let g = then_given (by_rule fractions_in_f64 n.day_count_convention start end (rolled_from roll n.period)) (λ fraction. given (Some (coupon n position end fraction))) (Some p) e in
      let q : coupon n position end g.0 ≡ p = same_Some _ _ (given_injective g.2) in
      subst (Sound due) q (record { date = d; next = d; fewer = f })

  module _ (a : Accepted n) where
    pub left_owed : (due : Due) → is_dated due ≡ true → flows_due n position table due ≡ and_then (owed n position due) paid_for
    unfolding note_flows next_flows last_flows
    left_owed First d = by (first_coupon_end n) refl
      where
        by : (o : Outcome Date) → first_coupon_end n ≡ o → and_then o (λ end. followed (coupon_flow n position table n.issue_date end end) (later_flows 3652059 n position table end)) ≡ and_then (and_then o (λ end. coupon_owed n position n.issue_date end end)) paid_for
        by (given end) e = let s = first_span n a end e in sym (coupon_left n.issue_date end end s s.last)
        by (refused k) e = refl
    left_owed (After t) d = by (is_before t n.maturity) refl (stepped n.period absent t) refl
      where
        by : (b : Bool) → is_before t n.maturity ≡ b → (o : Outcome Date) → stepped n.period absent t ≡ o → later_flows 3652059 n position table t ≡ and_then (pick b (and_then o (λ end. coupon_owed n position t end t)) (given (Some (record { date = n.maturity; amount = nominal_of position n; next = Nothing })))) paid_for
        by true q (given u) e =
            let s = step-later n.period t u d a.period e in
            let m = number-to u (date-yes u s.0) in
            let f = number-from t (date-yes t d) in
            after_next n position table 3652058 t (given u) q e
            ∙ ap (followed (coupon_flow n position table t u t)) (enough n position table a 3652058 3652059 u s.0 (omega (arith, s.1)) (omega (arith, s.1)))
            ∙ sym (coupon_left t u t (next_span n a t u d e) d)
        by true q (refused k) e = after_next n position table 3652058 t (refused k) q e
        by false q o e = after_last n position table 3652058 t q
    left_owed Nothing d = refl

    pub sound : (due : Due) (p : Payment) → is_dated due ≡ true → owed n position due ≡ given (Some p) → Sound due p
    sound First p d e =
        let g = then_given (first_coupon_end n) (λ end. coupon_owed n position n.issue_date end end) (Some p) e in
        let s = first_end_later n g.0 a.issued g.1 in
        coupon_sound First n.issue_date g.0 g.0 p s.0 (omega arith) g.2
    sound (After t) p d e = by (is_before t n.maturity) e
      where
        by : (b : Bool) → pick b (and_then (stepped n.period absent t) (λ end. coupon_owed n position t end t)) (given (Some (record { date = n.maturity; amount = nominal_of position n; next = Nothing }))) ≡ given (Some p) → Sound (After t) p
        by true q =
            let g = then_given (stepped n.period absent t) (λ end. coupon_owed n position t end t) (Some p) q in
            let s = step-later n.period t g.0 d a.period g.1 in
            let m = number-to g.0 (date-yes g.0 s.0) in
            coupon_sound (After t) t g.0 t p s.0 (omega (arith, s.1)) g.2
        by false q =
            let m = number-to t (date-yes t d) in
            subst (Sound (After t)) (same_Some _ _ (given_injective q)) (record { date = a.matures; next = refl; fewer = omega arith })
    sound Nothing p d e = absurd (none-some p (given_injective e))

-- ---- what the owed payment makes of what is left

module _ (s : NoteFlows) where
  owed_left : left s ≡ and_then (owed s.note s.position s.due) (paid_for s.note s.position s.holidays.days.now)
  owed_left = left_owed s.note s.position s.holidays.days.now (accepted_note s.note s.accepted) s.due s.dated

  pub none_owed : owed s.note s.position s.due ≡ given None → left s ≡ given []
  none_owed e = owed_left ∙ ap (λ o. and_then o (paid_for s.note s.position s.holidays.days.now)) e

  pub owed_refused : (k : ℕ) → owed s.note s.position s.due ≡ refused k → left s ≡ refused k
  owed_refused k e = owed_left ∙ ap (λ o. and_then o (paid_for s.note s.position s.holidays.days.now)) e

  module _ (p : Payment) (e : owed s.note s.position s.due ≡ given (Some p)) where
    owed_sound : Sound s.due p
    owed_sound = sound s.note s.position s.holidays.days.now (accepted_note s.note s.accepted) s.due p s.dated e

    pub owed_date : is_date p.date ≡ true
    owed_date = owed_sound.date

    pub owed_next : is_dated p.next ≡ true
    owed_next = owed_sound.next

    pub owed_fewer : most p.next < most s.due
    owed_fewer = owed_sound.fewer

    adjusted_left : left s ≡ followed (paid s.note s.holidays.days.now p.date p.amount) (flows_due s.note s.position s.holidays.days.now p.next)
    adjusted_left = owed_left ∙ ap (λ o. and_then o (paid_for s.note s.position s.holidays.days.now)) e

    pub date_refused : (k : ℕ) → adjusted s.note.business_day_rule p.date s.holidays.days.now ≡ refused k → left s ≡ refused k
    unfolding paid
    date_refused k a = adjusted_left ∙ ap (λ (o : Outcome Date). followed (and_then o (λ u. given (record { date = u; currency = s.note.currency; amount = p.amount }))) (flows_due s.note s.position s.holidays.days.now p.next)) a

    module _ (u : Date) (a : adjusted s.note.business_day_rule p.date s.holidays.days.now ≡ given u) where
      pub date_dated : is_date u ≡ true
      date_dated = adjusted-dated s.note.business_day_rule p.date u s.holidays.days.now owed_sound.date a

      pub date_paid : left s ≡ followed (given (record { date = u; currency = s.note.currency; amount = p.amount })) (flows_due s.note s.position s.holidays.days.now p.next)
      unfolding paid
      date_paid = adjusted_left ∙ ap (λ (o : Outcome Date). followed (and_then o (λ v. given (record { date = v; currency = s.note.currency; amount = p.amount }))) (flows_due s.note s.position s.holidays.days.now p.next)) a

pub ruleset owing = (owed_refused, none_owed, owed_date, owed_next, owed_fewer, date_refused, date_dated, date_paid)
