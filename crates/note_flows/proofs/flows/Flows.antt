-- The flows of an accepted note, one after another; the days of the calendar are never used up.
use Prim.Native.Nat.{ℕ, zero, suc, ◌-◌, ◌≤◌, ◌<◌}
use mathlib.Core.Path.{◌≡◌, refl, sym, ◌∙◌, ap, subst}
use mathlib.Core.Bool.{Bool, true, false}
use mathlib.Core.List.{List, [], ◌∷◌}
use native.Mathlib.Omega.{arith}
use lib.ListN.{length}
use lib.Ieee.{Float}
use Rattle.outcome.specs.Lists.{Every}
use Rattle.outcome.specs.Outcome.{Outcome, given, refused, and_then}
use Rattle.outcome.proofs.Outcomes.{given_injective, given_not_refused, then_given}
use Rattle.calendar.specs.dates.Dates.{is_date, is_before, day_number}
use Rattle.calendar.specs.declared.dates.Date.{Date}
use Rattle.calendar.proofs.dates.Dates.{date-yes, date_is, number-from, number-to}
use Rattle.day_adjust.specs.Adjustment.{adjusted}
use Rattle.day_adjust.specs.declared.DayAdjust.{DayAdjust}
use Rattle.day_adjust.specs.declared.DayAdjust.TheVariants as rule
use Rattle.day_adjust.proofs.Adjusting.{none_stays, adjusted_gives}
use Rattle.time_period.specs.steps.Steps.{absent, stepped}
use Rattle.day_count_conv.specs.conventions.Conventions.{fractions_in_f64, rolled_from, year_fraction}
use Rattle.cash_flow.specs.declared.flow.CashFlow.{CashFlow}
use Rattle.bond.specs.note.Notes.{first_coupon_end, nominal_of, coupon_amount}
use Rattle.bond.specs.declared.note.Note.{Note}
use Rattle.time_period.proofs.steps.Steps.{step-later}
use Rattle.bond.proofs.note.Ends.{Accepted, first_end_later}
use Rattle.note_flows.specs.flows.NoteFlows.{paid, coupon_flow, followed, later_flows, note_flows}

-- an adjusted date is one of the calendar
pub adjusted-dated : (r : DayAdjust) (t u : Date) (table : List ℕ) → is_date t ≡ true → adjusted r t table ≡ given u → is_date u ≡ true
adjusted-dated rule.None t u table d e = ap is_date (sym (given_injective (sym (none_stays t table) ∙ e))) ∙ d
adjusted-dated rule.Following t u table d e = date_is u (adjusted_gives rule.Following t table u d (λ q. let z : ◌≡◌ {A = ℕ} 0 1 = cc in omega arith) e).dated
adjusted-dated rule.Preceding t u table d e = date_is u (adjusted_gives rule.Preceding t table u d (λ q. let z : ◌≡◌ {A = ℕ} 0 1 = cc in omega arith) e).dated
adjusted-dated rule.Modified t u table d e = date_is u (adjusted_gives rule.Modified t table u d (λ q. let z : ◌≡◌ {A = ℕ} 0 1 = cc in omega arith) e).dated

-- ---- behind a coupon

module _ (n : Note) (position : Float) (table : List ℕ) where
  unfoldable pub next_flows : ℕ → Date → Outcome Date → Outcome (List CashFlow)
  next_flows k t o = and_then o (λ next. followed (coupon_flow n position table t next t) (later_flows k n position table next))

  unfoldable pub last_flows : Outcome (List CashFlow)
  last_flows = followed (paid n table n.maturity (nominal_of position n)) (given [])

  pub after_next : (k : ℕ) (t : Date) (o : Outcome Date) → is_before t n.maturity ≡ true → stepped n.period absent t ≡ o → later_flows (suc k) n position table t ≡ next_flows k t o
  unfolding later_flows next_flows
  after_next k t o h e =
      ap (λ (b : Bool). elim b as (λ x. Outcome (List CashFlow)) [ true ↦ next_flows k t (stepped n.period absent t) | false ↦ followed (paid n table n.maturity (nominal_of position n)) (given []) ]) h
      ∙ ap (next_flows k t) e

  pub after_last : (k : ℕ) (t : Date) → is_before t n.maturity ≡ false → later_flows (suc k) n position table t ≡ last_flows
  unfolding later_flows last_flows
  after_last k t h =
      ap (λ (b : Bool). elim b as (λ x. Outcome (List CashFlow)) [ true ↦ and_then (stepped n.period absent t) (λ next. followed (coupon_flow n position table t next t) (later_flows k n position table next)) | false ↦ followed (paid n table n.maturity (nominal_of position n)) (given []) ]) h

  module _ (a : Accepted n) where
    -- with as many steps as there are days left, how many are allowed does not matter: they are
    -- never used up
    pub enough : (j k : ℕ) (t : Date) → is_date t ≡ true → 3652059 - day_number t < j → 3652059 - day_number t < k → later_flows j n position table t ≡ later_flows k n position table t
    unfolding next_flows
    enough zero k t d h l = absurd (omega arith)
    enough (suc j) zero t d h l = absurd (omega arith)
    enough (suc j) (suc k) t d h l = by (is_before t n.maturity) refl (stepped n.period absent t) refl (enough j k)
      where
        by : (b : Bool) → is_before t n.maturity ≡ b → (o : Outcome Date) → stepped n.period absent t ≡ o → ((u : Date) → is_date u ≡ true → 3652059 - day_number u < j → 3652059 - day_number u < k → later_flows j n position table u ≡ later_flows k n position table u) → later_flows (suc j) n position table t ≡ later_flows (suc k) n position table t
        by false e o q r = after_last j t e ∙ sym (after_last k t e)
        by true e (refused m) q r = after_next j t (refused m) e q ∙ sym (after_next k t (refused m) e q)
        by true e (given u) q r =
            let s = step-later n.period t u d a.period q in
            let m = number-to u (date-yes u s.0) in
            after_next j t (given u) e q
            ∙ ap (followed (coupon_flow n position table t u t)) (r u s.0 (omega (arith, s.1)) (omega (arith, s.1)))
            ∙ sym (after_next k t (given u) e q)

    -- so a larger calendar would change nothing
    pub never_used_up : (k : ℕ) (t : Date) → is_date t ≡ true → 3652059 ≤ k → later_flows k n position table t ≡ later_flows 3652059 n position table t
    never_used_up k t d h = let f = number-from t (date-yes t d) in enough k 3652059 t d (omega arith) (omega arith)

-- ---- what every flow has, and how many there are at most

-- a date of the calendar, and the note's currency
abbrev pub OfNote : Note → CashFlow → Type 0
OfNote n x = (is_date x.date ≡ true) × (x.currency ≡ n.currency)

pub followed-given : (flow : Outcome CashFlow) (others : Outcome (List CashFlow)) (l : List CashFlow) → followed flow others ≡ given l → (x : CashFlow) × (m : List CashFlow) × (flow ≡ given x) × (others ≡ given m) × (x ∷ m ≡ l)
followed-given flow others l e =
    let f = then_given flow (λ x. and_then others (λ m. given (x ∷ m))) l e in
    let g = then_given others (λ m. given (f.0 ∷ m)) l f.2 in
    (f.0, g.0, f.1, g.1, given_injective g.2)

-- a flow in front
in_front : (n : Note) (x : CashFlow) (m l : List CashFlow) (k : ℕ) → OfNote n x → Every (OfNote n) m × (length m ≤ k) → x ∷ m ≡ l → Every (OfNote n) l × (length l ≤ suc k)
in_front n x m l k o i e = subst (λ (y : List CashFlow). Every (OfNote n) y × (length y ≤ suc k)) e ((o, i.0), omega (arith, i.1))

module _ (n : Note) (position : Float) (table : List ℕ) (a : Accepted n) where
  paid_of : (t : Date) (x : Float) (f : CashFlow) → is_date t ≡ true → paid n table t x ≡ given f → OfNote n f
  unfolding paid
  paid_of t x f d e =
      let g = then_given (adjusted n.business_day_rule t table) (λ u. given (record { date = u; currency = n.currency; amount = x })) f e in
      let q : record { date = g.0; currency = n.currency; amount = x } ≡ f = given_injective g.2 in
      (ap (λ (y : CashFlow). is_date y.date) (sym q) ∙ adjusted-dated n.business_day_rule t g.0 table d g.1, ap (λ (y : CashFlow). y.currency) (sym q))

  coupon_of : (start end roll : Date) (f : CashFlow) → is_date end ≡ true → coupon_flow n position table start end roll ≡ given f → OfNote n f
  unfolding coupon_flow
  coupon_of start end roll f d e =
      let g = then_given (year_fraction fractions_in_f64 n.day_count_convention start end (rolled_from roll n.period)) (λ fraction. paid n table end (coupon_amount position n fraction)) f e in
      paid_of end (coupon_amount position n g.0) f d g.2

  after_of : (k : ℕ) (t : Date) (l : List CashFlow) → is_date t ≡ true → later_flows k n position table t ≡ given l → Every (OfNote n) l × (length l ≤ k)
  unfolding later_flows next_flows last_flows
  after_of zero t l d e = absurd (given_not_refused (sym e))
  after_of (suc k) t l d e = by (is_before t n.maturity) refl (after_of k)
    where
      by : (b : Bool) → is_before t n.maturity ≡ b → ((u : Date) (m : List CashFlow) → is_date u ≡ true → later_flows k n position table u ≡ given m → Every (OfNote n) m × (length m ≤ k)) → Every (OfNote n) l × (length l ≤ suc k)
      by true h r =
          let g = then_given (stepped n.period absent t) (λ u. followed (coupon_flow n position table t u t) (later_flows k n position table u)) l (sym (after_next n position table k t (stepped n.period absent t) h refl) ∙ e) in
          let s = step-later n.period t g.0 d a.period g.1 in
          let f = followed-given (coupon_flow n position table t g.0 t) (later_flows k n position table g.0) l g.2 in
          in_front n f.0 f.1 l k (coupon_of t g.0 t f.0 s.0 f.2) (r g.0 f.1 s.0 f.3) f.4
      by false h r =
          let f = followed-given (paid n table n.maturity (nominal_of position n)) (given []) l (sym (after_last n position table k t h) ∙ e) in
          let q : ◌≡◌ {A = List CashFlow} [] f.1 = given_injective f.3 in
          in_front n f.0 [] l k (paid_of n.maturity (nominal_of position n) f.0 a.matures f.2) (omega arith, omega arith) (ap (λ (m : List CashFlow). f.0 ∷ m) q ∙ f.4)

  -- the flows of an accepted note are of its currency and on dates of the calendar, and no more
  -- than the calendar's days and one
  pub flows_of_lem : (l : List CashFlow) → note_flows n position table ≡ given l → Every (OfNote n) l × (length l ≤ 3652060)
  unfolding note_flows
  flows_of_lem l e =
      let g = then_given (first_coupon_end n) (λ end. followed (coupon_flow n position table n.issue_date end end) (later_flows 3652059 n position table end)) l e in
      let s = first_end_later n g.0 a.issued g.1 in
      let f = followed-given (coupon_flow n position table n.issue_date g.0 g.0) (later_flows 3652059 n position table g.0) l g.2 in
      in_front n f.0 f.1 l 3652059 (coupon_of n.issue_date g.0 g.0 f.0 s.0 f.2) (after_of 3652059 g.0 f.1 s.0 f.3) f.4
