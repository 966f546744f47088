-- Flows in three lists: what stands at one place of each.
use Prim.Native.Nat.{ℕ, zero, suc, ◌+◌, ◌≤◌, ◌<◌}
use mathlib.Core.Path.{◌≡◌, refl, sym, ap, ◌∙◌}
use mathlib.Core.Bool.{Bool, true, false}
use mathlib.Core.List.{List, [], ◌∷◌, map}
use native.Mathlib.Omega.{arith}
use lib.Ieee.{Float, nan}
use lib.Dec.{leb, ltb}
use borrow.Author.Tests.{lt-ltb, le-ltb}
use lib.ListN.{length, get_or, take, drop, set}
use Rattle.outcome.specs.Lists.{those, all_of}
use Rattle.outcome.proofs.Lists.{head_at, Passed, passed_none, passed_yes, passed_no, passed_fits}
use Rattle.outcome.proofs.Outcomes.{unless_then}
use Rattle.outcome.specs.Outcome.{Outcome, given, unless, pick, both}
use Rattle.outcome.specs.Room.{fitting, counted}
use Rattle.calendar.specs.dates.Dates.{is_day}
use Rattle.calendar.specs.declared.dates.Day.{Day}
use Rattle.fixed_income.specs.plain.Plain.{PlainFlow, plain_flows, is_day_number, is_later_day, listed_after, shortest, days_written, listed_written, ListedContents}
use Rattle.fixed_income.specs.records.After.{after}
use Rattle.fixed_income.specs.records.Promises.{is_refused}
use Rattle.fixed_income.proofs.records.Later.{Column, column_none, column_yes, column_no, column_all, kept, unrefused}

pub listed_length : (ds cs : List ℕ) (xs : List Float) → length (plain_flows ds cs xs) ≡ shortest (length ds) (length cs) (length xs)
unfolding plain_flows
listed_length [] cs xs = omega arith
listed_length (d ∷ ds) [] xs = omega arith
listed_length (d ∷ ds) (c ∷ cs) [] = omega arith
listed_length (d ∷ ds) (c ∷ cs) (x ∷ xs) = omega (arith, listed_length ds cs xs)

pub listed_days : (ds cs : List ℕ) (xs : List Float) → map (λ (f : PlainFlow). f.day) (plain_flows ds cs xs) ≡ take (length (plain_flows ds cs xs)) ds
unfolding plain_flows
listed_days [] cs xs = refl
listed_days (d ∷ ds) [] xs = refl
listed_days (d ∷ ds) (c ∷ cs) [] = refl
listed_days (d ∷ ds) (c ∷ cs) (x ∷ xs) = ap (◌∷◌ d) (listed_days ds cs xs)

-- what stands past the end of a list
abbrev pub no_listed : PlainFlow
no_listed = record { day = 0; currency = 0; amount = nan }

-- the flow at place i
abbrev pub listed_at : List ℕ → List ℕ → List Float → ℕ → PlainFlow
listed_at ds cs xs i = record { day = get_or ds i 0; currency = get_or cs i 0; amount = get_or xs i nan }

found : (ds cs : List ℕ) (xs : List Float) (i : ℕ) → i < length (plain_flows ds cs xs) → get_or (plain_flows ds cs xs) i no_listed ≡ listed_at ds cs xs i
unfolding plain_flows
found [] cs xs i h = absurd (omega arith)
found (d ∷ ds) [] xs i h = absurd (omega arith)
found (d ∷ ds) (c ∷ cs) [] i h = absurd (omega arith)
found (d ∷ ds) (c ∷ cs) (x ∷ xs) zero h = refl
found (d ∷ ds) (c ∷ cs) (x ∷ xs) (suc i) h = found ds cs xs i (omega arith)

pub listed_at_lem : (ds cs : List ℕ) (xs : List Float) (i : ℕ) → i < length (plain_flows ds cs xs) → drop i (plain_flows ds cs xs) ≡ listed_at ds cs xs i ∷ drop (i + 1) (plain_flows ds cs xs)
listed_at_lem ds cs xs i h = head_at (plain_flows ds cs xs) i no_listed h ∙ ap (λ (f : PlainFlow). f ∷ drop (i + 1) (plain_flows ds cs xs)) (found ds cs xs i h)

-- a test of a part of each flow is a test of the list of those parts
module _ {A B : Type 0} (part : A → B) (test : B → Bool) where
  all_parts : (l : List A) → all_of (λ (f : A). test (part f)) l ≡ all_of test (map part l)
  unfolding all_of
  all_parts [] = refl
  all_parts (f ∷ l) = ap (both (test (part f))) (all_parts l)

  later_parts : (l : List A) → length (those (λ (f : A). test (part f)) l) ≡ length (those test (map part l))
  unfolding those
  later_parts [] = refl
  later_parts (f ∷ l) = by (test (part f)) (later_parts l)
    where
      by : (b : Bool) → length (those (λ (g : A). test (part g)) l) ≡ length (those test (map part l)) → length (pick b (f ∷ those (λ (g : A). test (part g)) l) (those (λ (g : A). test (part g)) l)) ≡ length (pick b (part f ∷ those test (map part l)) (those test (map part l)))
      by true e = ap suc e
      by false e = e

-- the count of what fits is known from its length
counted_is : {A : Type 0} (places : ℕ) (new : List A) → counted (fitting places (given new)) ≡ unless (leb (length new) places) 16 (given (length new))
counted_is places new = unless_then (leb (length new) places) 16 (given new) (λ l. given (length l))

-- so the parts alone decide the answer
pub parts_decide : {A B : Type 0} (part : A → B) (ok : Bool) (dated later : B → Bool) (l : List A) (places : ℕ)
    → counted (fitting places (after ok (λ (f : A). dated (part f)) (λ (f : A). later (part f)) l)) ≡ counted (fitting places (after ok dated later (map part l)))
parts_decide part ok dated later l places = ap (λ (b : Bool). counted (fitting places (unless (both ok b) 1 (given (those (λ f. later (part f)) l))))) (all_parts part dated l) ∙ by (both ok (all_of dated (map part l)))
  where
    same : length (those (λ f. later (part f)) l) ≡ length (those later (map part l))
    same = later_parts part later l

    by : (b : Bool) → counted (fitting places (unless b 1 (given (those (λ f. later (part f)) l)))) ≡ counted (fitting places (unless b 1 (given (those later (map part l)))))
    by true = counted_is places (those (λ f. later (part f)) l) ∙ ap (λ (n : ℕ). unless (leb n places) 16 (given n)) same ∙ sym (counted_is places (those later (map part l)))
    by false = refl

-- and so do the days of the flows in three lists
pub days_decide : (day : Day) (ds cs : List ℕ) (xs : List Float) (n places : ℕ) → n ≡ shortest (length ds) (length cs) (length xs) → counted (days_written day (take n ds) places) ≡ counted (listed_written day (plain_flows ds cs xs) places)
unfolding days_written listed_written listed_after
days_decide day ds cs xs n places e =
    let same : map (λ (f : PlainFlow). f.day) (plain_flows ds cs xs) ≡ take n ds = listed_days ds cs xs ∙ ap (λ (m : ℕ). take m ds) (listed_length ds cs xs ∙ sym e) in
    ap (λ (l : List ℕ). counted (fitting places (after (is_day day) is_day_number (is_later_day day) l))) (sym same) ∙ sym (parts_decide (λ (f : PlainFlow). f.day) (is_day day) is_day_number (is_later_day day) (plain_flows ds cs xs) places)

-- so an answer that the days of the flows decide is the one that the three lists decide
pub answered : (day : Day) (ds cs : List ℕ) (xs : List Float) (n places a b c : ℕ) (o : Outcome ℕ) → n ≡ shortest (length ds) (length cs) (length xs) → places ≡ shortest a b c
    → o ≡ counted (days_written day (take n ds) places) → o ≡ counted (listed_written day (plain_flows ds cs xs) (shortest a b c))
answered day ds cs xs n places a b c o e f h = h ∙ ap (λ (m : ℕ). counted (days_written day (take n ds) m)) f ∙ days_decide day ds cs xs n (shortest a b c) e

-- a refusal keeps the three lists
pub all_kept : (o : Outcome (List PlainFlow)) (ds cs : List ℕ) (xs : List Float) → is_refused (counted o) ≡ true → ListedContents o ds cs xs ds cs xs
all_kept o ds cs xs h = record { days-are = sym (kept (λ f. f.day) o ds h); currencies_are = sym (kept (λ f. f.currency) o cs h); amounts_are = sym (kept (λ f. f.amount) o xs h) }

-- ---- writing

-- a flow's day is later than another
abbrev pub later_than : Day → PlainFlow → Bool
later_than day f = is_later_day day f.day

-- i flows are passed, and k of them stand in the three lists
pub record Writing (day : Day) (flows : List PlainFlow) (ds₀ cs₀ : List ℕ) (xs₀ : List Float) (i k : ℕ) (ds cs : List ℕ) (xs : List Float) : Type 0 where
  pub passed : Passed (later_than day) flows i k
  pub days-at : Column (λ f. f.day) (later_than day) flows ds₀ i k ds
  pub currencies_at : Column (λ f. f.currency) (later_than day) flows cs₀ i k cs
  pub amounts_at : Column (λ f. f.amount) (later_than day) flows xs₀ i k xs

module _ (day : Day) (flows : List PlainFlow) (ds₀ cs₀ : List ℕ) (xs₀ : List Float) where
  pub writing_none : Writing day flows ds₀ cs₀ xs₀ 0 0 ds₀ cs₀ xs₀
  writing_none = record {
    passed = passed_none (later_than day) flows;
    days-at = column_none (λ f. f.day) (later_than day) flows ds₀;
    currencies_at = column_none (λ f. f.currency) (later_than day) flows cs₀;
    amounts_at = column_none (λ f. f.amount) (later_than day) flows xs₀;
  }

  module _ (room : is_refused (counted (listed_written day flows (shortest (length ds₀) (length cs₀) (length xs₀)))) ≡ false) where
    pub roomy : length (those (later_than day) flows) ≤ shortest (length ds₀) (length cs₀) (length xs₀)
    unfolding listed_written listed_after
    roomy = (unrefused (is_day day) (λ f. is_day_number f.day) (later_than day) flows (shortest (length ds₀) (length cs₀) (length xs₀)) room).0

    written_is : listed_written day flows (shortest (length ds₀) (length cs₀) (length xs₀)) ≡ given (those (later_than day) flows)
    unfolding listed_written listed_after
    written_is = (unrefused (is_day day) (λ f. is_day_number f.day) (later_than day) flows (shortest (length ds₀) (length cs₀) (length xs₀)) room).1

    module _ (i k : ℕ) (ds cs : List ℕ) (xs : List Float) (w : Writing day flows ds₀ cs₀ xs₀ i k ds cs xs) where
      module _ (f : PlainFlow) (inside : i < length flows) (at : drop i flows ≡ f ∷ drop (i + 1) flows) where
        -- a later flow has its place in each list
        pub places_for : ltb day.0 f.day ≡ true → (k < length ds) × (k < length cs) × (k < length xs)
        places_for h =
            let fits : k < length (those (later_than day) flows) = passed_fits (later_than day) flows i k f inside at w.passed h in
            (omega (arith, roomy, w.days-at.same_length), omega (arith, roomy, w.currencies_at.same_length), omega (arith, roomy, w.amounts_at.same_length))

        pub writing_yes : ltb day.0 f.day ≡ true → Writing day flows ds₀ cs₀ xs₀ (i + 1) (k + 1) (set ds k f.day) (set cs k f.currency) (set xs k f.amount)
        writing_yes h = record {
          passed = passed_yes (later_than day) flows i k f inside at w.passed h;
          days-at = column_yes (λ g. g.day) (later_than day) flows ds₀ i k f at ds w.days-at h (places_for h).0;
          currencies_at = column_yes (λ g. g.currency) (later_than day) flows cs₀ i k f at cs w.currencies_at h (places_for h).1;
          amounts_at = column_yes (λ g. g.amount) (later_than day) flows xs₀ i k f at xs w.amounts_at h (places_for h).2;
        }

        pub writing_no : ltb day.0 f.day ≡ false → Writing day flows ds₀ cs₀ xs₀ (i + 1) k ds cs xs
        writing_no h = record {
          passed = passed_no (later_than day) flows i k f inside at w.passed h;
          days-at = column_no (λ g. g.day) (later_than day) flows ds₀ i k f at ds w.days-at h;
          currencies_at = column_no (λ g. g.currency) (later_than day) flows cs₀ i k f at cs w.currencies_at h;
          amounts_at = column_no (λ g. g.amount) (later_than day) flows xs₀ i k f at xs w.amounts_at h;
        }

      pub writing_all : length flows ≤ i → ListedContents (listed_written day flows (shortest (length ds₀) (length cs₀) (length xs₀))) ds₀ cs₀ xs₀ ds cs xs
      writing_all h = rw written_is (record {
        days-are = column_all (λ g. g.day) (later_than day) flows ds₀ i k ds h w.passed w.days-at;
        currencies_are = column_all (λ g. g.currency) (later_than day) flows cs₀ i k cs h w.passed w.currencies_at;
        amounts_are = column_all (λ g. g.amount) (later_than day) flows xs₀ i k xs h w.passed w.amounts_at;
      })

-- ---- writing, where the first pass over n days gave a count

module _ (day : Day) (ds cs : List ℕ) (xs : List Float) (ds₀ cs₀ : List ℕ) (xs₀ : List Float) (n places m : ℕ)
    (shared : n ≡ shortest (length ds) (length cs) (length xs)) (lent : places ≡ shortest (length ds₀) (length cs₀) (length xs₀)) (counts : given m ≡ counted (days_written day (take n ds) places)) where
  pub told : given m ≡ counted (listed_written day (plain_flows ds cs xs) (shortest (length ds₀) (length cs₀) (length xs₀)))
  told = answered day ds cs xs n places (length ds₀) (length cs₀) (length xs₀) (given m) shared lent counts

  module _ (i k : ℕ) (ds' cs' : List ℕ) (xs' : List Float) (w : Writing day (plain_flows ds cs xs) ds₀ cs₀ xs₀ i k ds' cs' xs') where
    module _ (l : i < n) where
      inside : i < length (plain_flows ds cs xs)
      inside = omega (arith, listed_length ds cs xs)

      pub places_at : day.0 < get_or ds i 0 → (k < length ds') × (k < length cs') × (k < length xs')
      places_at h = places_for day (plain_flows ds cs xs) ds₀ cs₀ xs₀ (ap is_refused (sym told)) i k ds' cs' xs' w (listed_at ds cs xs i) inside (listed_at_lem ds cs xs i inside) (lt-ltb _ _ h)

      pub turn_yes : day.0 < get_or ds i 0 → Writing day (plain_flows ds cs xs) ds₀ cs₀ xs₀ (i + 1) (k + 1) (set ds' k (get_or ds i 0)) (set cs' k (get_or cs i 0)) (set xs' k (get_or xs i nan))
      turn_yes h = writing_yes day (plain_flows ds cs xs) ds₀ cs₀ xs₀ (ap is_refused (sym told)) i k ds' cs' xs' w (listed_at ds cs xs i) inside (listed_at_lem ds cs xs i inside) (lt-ltb _ _ h)

      pub turn_no : get_or ds i 0 ≤ day.0 → Writing day (plain_flows ds cs xs) ds₀ cs₀ xs₀ (i + 1) k ds' cs' xs'
      turn_no h = writing_no day (plain_flows ds cs xs) ds₀ cs₀ xs₀ (ap is_refused (sym told)) i k ds' cs' xs' w (listed_at ds cs xs i) inside (listed_at_lem ds cs xs i inside) (le-ltb _ _ h)

    pub turns_done : n ≤ i → ListedContents (listed_written day (plain_flows ds cs xs) (shortest (length ds₀) (length cs₀) (length xs₀))) ds₀ cs₀ xs₀ ds' cs' xs'
    turns_done h = writing_all day (plain_flows ds cs xs) ds₀ cs₀ xs₀ (ap is_refused (sym told)) i k ds' cs' xs' w (omega (arith, listed_length ds cs xs))
