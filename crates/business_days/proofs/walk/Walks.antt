-- The two walks, day by day with the nearest holiday alongside: at each day what is left to do is
-- the whole answer.
use Prim.Native.Nat.{ℕ, ◌+◌, ◌-◌, ◌≤◌, ◌<◌}
use mathlib.Core.Path.{◌≡◌, refl, sym, ap, ◌∙◌}
use mathlib.Core.Bool.{Bool, true, false, not}
use mathlib.Core.List.{List, ◌∷◌}
use native.Mathlib.Omega.{arith}
use lib.ListN.{length, get_or}
use lib.Dec.{eqb}
use borrow.Author.Tests.{eqb-true, eqb-false}
use Rattle.outcome.specs.Outcome.{given, refused}
use Rattle.business_days.specs.table.Business.{serial_day, is_weekend, is_business, next_from, prev_from, later_from, earlier_from}
use Rattle.business_days.specs.table.Search.{IsLowerBound}
use Rattle.business_days.proofs.walk.Places.{placed, met, met_on, past-on, met_back, past_back, skipped}
use Rattle.business_days.proofs.table.Steps.{no_step, step-refused, step_passed, step_taken}
use Rattle.business_days.proofs.table.Days.{shut_weekend, shut_listed, business_is, next-none, next_here, next-on, prev_none, prev_here, prev_on}

-- forwards, about to look at `at`, with `left` steps to go and the next holiday h at place i
pub record Onward (t : List ℕ) (k n at left i h : ℕ) : Type 0 where
  pub from : 1 ≤ at
  pub to : at ≤ 3652060
  pub going : 0 < left
  pub place : IsLowerBound t at i
  pub holiday : h ≡ get_or t i 0
  pub answer : later_from t left (at - 1) ≡ later_from t k n

pub onward_from : (t : List ℕ) (k n h : ℕ) → (k ≡ 0 → ⊥) → IsLowerBound t (n + 1) 0 → n ≤ 3652059 → h ≡ get_or t 0 0 → Onward t k n (n + 1) k 0 h
onward_from t k n h g s l e = record {
  from = omega arith;
  to = omega arith;
  going = omega arith;
  place = s;
  holiday = e;
  answer = ap (later_from t k) (omega arith);
}

module _ {t : List ℕ} {k n at left i h : ℕ} (w : Onward t k n at left i h) where
  pub onward_over : 3652060 ≤ at → refused 1 ≡ later_from t k n
  onward_over d = sym (step-refused (next_from t) left (at - 1) w.going (next-none t (at - 1) (omega arith))) ∙ w.answer

  module _ (d : at < 3652060) where
    day_before : at - 1 + 1 ≡ at
    day_before = omega (arith, w.from)

    shut : is_business t at ≡ false → later_from t left (at + 1 - 1) ≡ later_from t k n
    shut e =
        let f = next-on t (at - 1) (omega (arith, w.from)) (rw day_before e) in
        let z : at + 1 - 1 ≡ at = omega arith in
        rw z (sym (step_passed (next_from t) left (at - 1) at w.going (rw day_before at f)) ∙ w.answer)

    -- the day is a holiday
    module _ (e : at ≡ h) where
      here : at ≡ get_or t i 0
      here = e ∙ w.holiday

      pub onward_inside : i < length t
      onward_inside = placed t at i w.from here

      pub onward_holiday : (h' : ℕ) → h' ≡ get_or t (i + 1) 0 → Onward t k n (at + 1) left (i + 1) h'
      onward_holiday h' f = record {
        from = omega arith;
        to = omega arith;
        going = w.going;
        place = met_on w.place w.from here;
        holiday = f;
        answer = shut (shut_listed t at (met w.place w.from here));
      }

    -- or it is none
    module _ (e : at ≡ h → ⊥) where
      past : IsLowerBound t (at + 1) i
      past = past-on w.place (λ f. e (f ∙ sym w.holiday))

      pub onward_weekend : is_weekend at ≡ true → Onward t k n (at + 1) left i h
      onward_weekend f = record { from = omega arith; to = omega arith; going = w.going; place = past; holiday = w.holiday; answer = shut (shut_weekend t at f) }

      module _ (f : is_weekend at ≡ false) where
        stepped : later_from t (left - 1) at ≡ later_from t k n
        stepped =
            let b : is_business t at ≡ true = business_is t at f (skipped w.place (at + 1) refl past) in
            let g = next_here t (at - 1) (omega (arith, w.from)) (rw day_before b) in
            sym (step_taken (next_from t) left (at - 1) at w.going (rw day_before at g)) ∙ w.answer

        pub onward_reached : left - 1 ≡ 0 → given (serial_day at) ≡ later_from t k n
        onward_reached z = sym (no_step (next_from t) at) ∙ ap (λ (j : ℕ). later_from t j at) (sym z) ∙ stepped

        pub onward_business : (left - 1 ≡ 0 → ⊥) → Onward t k n (at + 1) (left - 1) i h
        onward_business z = record {
          from = omega arith;
          to = omega arith;
          going = omega arith;
          place = past;
          holiday = w.holiday;
          answer = let y : at + 1 - 1 ≡ at = omega arith in rw y stepped;
        }

-- backwards, before `day`, with `left` steps to go and the last holiday h before place i
pub record Backward (t : List ℕ) (k n day left i h : ℕ) : Type 0 where
  pub from : 1 ≤ day
  pub to : day ≤ 3652059
  pub going : 0 < left
  pub place : IsLowerBound t day i
  pub holiday : h ≡ get_or (0 ∷ t) i 0
  pub answer : earlier_from t left day ≡ earlier_from t k n

pub backward_from : (t : List ℕ) (k n i h : ℕ) → (k ≡ 0 → ⊥) → IsLowerBound t n i → 1 ≤ n → n ≤ 3652059 → h ≡ get_or (0 ∷ t) i 0 → Backward t k n n k i h
backward_from t k n i h g s f l e = record { from = f; to = l; going = omega arith; place = s; holiday = e; answer = refl }

module _ {t : List ℕ} {k n day left i h : ℕ} (w : Backward t k n day left i h) where
  pub backward_over : day ≤ 1 → refused 1 ≡ earlier_from t k n
  backward_over d = sym (step-refused (prev_from t) left day w.going (prev_none t day d)) ∙ w.answer

  module _ (d : 1 < day) where
    shut_back : is_business t (day - 1) ≡ false → earlier_from t left (day - 1) ≡ earlier_from t k n
    shut_back e = sym (step_passed (prev_from t) left day (day - 1) w.going (prev_on t day d e)) ∙ w.answer

    -- the day before is a holiday
    module _ (e : day - 1 ≡ h) where
      pub backward_inside : 0 < i
      backward_inside = (met_back i w.place d (e ∙ w.holiday)).inside

      pub backward_holiday : (h' : ℕ) → h' ≡ get_or (0 ∷ t) (i - 1) 0 → Backward t k n (day - 1) left (i - 1) h'
      backward_holiday h' f =
          let m = met_back i w.place d (e ∙ w.holiday) in
          record {
            from = omega arith;
            to = omega (arith, w.to);
            going = w.going;
            place = m.splits;
            holiday = f;
            answer = shut_back (shut_listed t (day - 1) m.there);
          }

    -- or it is none
    module _ (e : day - 1 ≡ h → ⊥) where
      past_it : IsLowerBound t (day - 1) i
      past_it = past_back i w.place d (λ f. e (f ∙ sym w.holiday))

      pub backward_weekend : is_weekend (day - 1) ≡ true → Backward t k n (day - 1) left i h
      backward_weekend f = record { from = omega arith; to = omega (arith, w.to); going = w.going; place = past_it; holiday = w.holiday; answer = shut_back (shut_weekend t (day - 1) f) }

      module _ (f : is_weekend (day - 1) ≡ false) where
        stepped_back : earlier_from t (left - 1) (day - 1) ≡ earlier_from t k n
        stepped_back =
            let b : is_business t (day - 1) ≡ true = business_is t (day - 1) f (skipped past_it day (omega arith) w.place) in
            sym (step_taken (prev_from t) left day (day - 1) w.going (prev_here t day d b)) ∙ w.answer

        pub backward_reached : left - 1 ≡ 0 → given (serial_day (day - 1)) ≡ earlier_from t k n
        backward_reached z = sym (no_step (prev_from t) (day - 1)) ∙ ap (λ (j : ℕ). earlier_from t j (day - 1)) (sym z) ∙ stepped_back

        pub backward_business : (left - 1 ≡ 0 → ⊥) → Backward t k n (day - 1) (left - 1) i h
        backward_business z = record {
          from = omega arith;
          to = omega (arith, w.to);
          going = omega arith;
          place = past_it;
          holiday = w.holiday;
          answer = stepped_back;
        }

-- a day that is no weekend's is a business day unless it is the first holiday from it on
pub business_told : (t : List ℕ) (n i h : ℕ) → IsLowerBound t n i → 1 ≤ n → is_weekend n ≡ false → h ≡ get_or t i 0 → not (eqb h n) ≡ is_business t n
business_told t n i h s d e f = by (eqb h n) refl
  where
    by : (b : Bool) → eqb h n ≡ b → not b ≡ is_business t n
    by true q = sym (shut_listed t n (met s d (sym (eqb-true h n q) ∙ f)))
    by false q = sym (business_is t n e (skipped s (n + 1) refl (past-on s (λ g. eqb-false h n q (f ∙ sym g)))))
