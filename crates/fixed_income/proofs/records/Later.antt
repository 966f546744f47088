-- A loop over flows of any kind: what is left of them decides. Laws of both passes, the one that
-- judges and counts and the one that writes.
use Prim.Native.Nat.{ℕ, ◌+◌, ◌≤◌, ◌<◌}
use mathlib.Core.Path.{◌≡◌, refl, ap, subst, ◌∙◌}
use mathlib.Core.Bool.{Bool, true, false, true≢false, false≢true}
use mathlib.Core.List.{List, ◌∷◌, ◌++◌, map}
use native.Mathlib.Omega.{arith}
use borrow.Author.Tests.{le-leb, lt-leb, leb-true}
use lib.Dec.{leb}
use lib.ListN.{length, get_or, drop, set, drop_of_length-le}
use Rattle.outcome.specs.Outcome.{Outcome, given, refused, unless, both}
use Rattle.outcome.specs.Lists.{those, all_of}
use Rattle.outcome.proofs.Lists.{head_at, those-yes, those_no, those-none, Passed, passed_none, passed_yes, passed_no, passed_all}
use Rattle.outcome.specs.Room.{fitting, counted, room_after}
use Rattle.outcome.proofs.Filling.{Filled, filled_none, filled_more, filled_all}
use Rattle.fixed_income.specs.records.After.{after}
use Rattle.fixed_income.specs.records.Promises.{is_refused}

-- i flows are judged: what is left decides whether all have a date, and n are later
pub record Judging {A : Type 0} (dated later : A → Bool) (xs : List A) (i n : ℕ) : Type 0 where
  pub passed : Passed later xs i n
  pub dates : all_of dated xs ≡ all_of dated (drop i xs)

module _ {A : Type 0} (dated later : A → Bool) (xs : List A) where
  pub judging_none : Judging dated later xs 0 0
  judging_none = record { passed = passed_none later xs; dates = refl }

  module _ (d : A) (i n : ℕ) (inside : i < length xs) (j : Judging dated later xs i n) where
    dates_next : all_of dated xs ≡ both (dated (get_or xs i d)) (all_of dated (drop (i + 1) xs))
    unfolding all_of
    dates_next = j.dates ∙ ap (all_of dated) (head_at xs i d inside)

    dates_more : dated (get_or xs i d) ≡ true → all_of dated xs ≡ all_of dated (drop (i + 1) xs)
    dates_more h = dates_next ∙ rw h

    dates_bad : dated (get_or xs i d) ≡ false → all_of dated xs ≡ false
    dates_bad h = dates_next ∙ rw h

    pub judging_yes : dated (get_or xs i d) ≡ true → later (get_or xs i d) ≡ true → Judging dated later xs (i + 1) (n + 1)
    judging_yes h l = record { passed = passed_yes later xs i n (get_or xs i d) inside (head_at xs i d inside) j.passed l; dates = dates_more h }

    pub judging_no : dated (get_or xs i d) ≡ true → later (get_or xs i d) ≡ false → Judging dated later xs (i + 1) n
    judging_no h l = record { passed = passed_no later xs i n (get_or xs i d) inside (head_at xs i d inside) j.passed l; dates = dates_more h }

  dates_all : (i n : ℕ) → length xs ≤ i → Judging dated later xs i n → all_of dated xs ≡ true
  unfolding all_of
  dates_all i n h j = j.dates ∙ ap (all_of dated) (drop_of_length-le xs h)

-- the four answers: 1 for the date, 1 for a flow's date, 16 for too few places, and how many
module _ {A : Type 0} (ok : Bool) (dated later : A → Bool) (xs : List A) (places : ℕ) where
  abbrev pub Answer : Outcome ℕ
  Answer = counted (fitting places (after ok dated later xs))

  pub undated : ok ≡ false → refused 1 ≡ Answer
  undated h = rw h

  pub undated_flow : (d : A) (i n : ℕ) → i < length xs → Judging dated later xs i n → dated (get_or xs i d) ≡ false → refused 1 ≡ Answer
  undated_flow d i n inside j h = by ok
    where
      by : (b : Bool) → refused 1 ≡ counted (fitting places (after b dated later xs))
      by true = rw (dates_bad dated later xs d i n inside j h)
      by false = refl

  pub too_few : ok ≡ true → (i n : ℕ) → length xs ≤ i → Judging dated later xs i n → places < n → refused 16 ≡ Answer
  too_few h i n over j l =
      let e : n ≡ length (those later xs) = passed_all later xs i n over j.passed in
      rw (h, dates_all dated later xs i n over j, lt-leb (length (those later xs)) places (omega arith))

  pub enough : ok ≡ true → (i n : ℕ) → length xs ≤ i → Judging dated later xs i n → n ≤ places → given n ≡ Answer
  enough h i n over j l =
      let e : n ≡ length (those later xs) = passed_all later xs i n over j.passed in
      rw (h, dates_all dated later xs i n over j, le-leb (length (those later xs)) places (omega arith)) (ap given e)

-- a refusal keeps the room
pub kept : {A B : Type 0} (part : A → B) (o : Outcome (List A)) (old : List B) → is_refused (counted o) ≡ true → room_after part o old ≡ old
kept part (given new) old h = absurd (false≢true h)
kept part (refused n) old h = refl

-- and what is not refused is the later ones, for which there is room
module _ {A : Type 0} (new : List A) (places : ℕ) where
  roomy : (b : Bool) → leb (length new) places ≡ b → is_refused (counted (unless b 16 (given new))) ≡ false → (length new ≤ places) × (unless b 16 (given new) ≡ given new)
  roomy true e h = (leb-true (length new) places e, refl)
  roomy false e h = absurd (true≢false h)

  judged : (b : Bool) → is_refused (counted (fitting places (unless b 1 (given new)))) ≡ false → (length new ≤ places) × (fitting places (unless b 1 (given new)) ≡ given new)
  judged true h = roomy (leb (length new) places) refl h
  judged false h = absurd (true≢false h)

pub unrefused : {A : Type 0} (ok : Bool) (dated later : A → Bool) (xs : List A) (places : ℕ) → is_refused (counted (fitting places (after ok dated later xs))) ≡ false
    → (length (those later xs) ≤ places) × (fitting places (after ok dated later xs) ≡ given (those later xs))
unrefused ok dated later xs places h = judged (those later xs) places (both ok (all_of dated xs)) h

-- one list of room, written with a part of each later flow
abbrev pub Column : {A B : Type 0} → (A → B) → (A → Bool) → List A → List B → ℕ → ℕ → List B → Type 0
Column part later xs old i k new = Filled (map part (those later xs)) old k (map part (those later (drop i xs))) new

module _ {A B : Type 0} (part : A → B) (later : A → Bool) (xs : List A) (old : List B) where
  pub column_none : Column part later xs old 0 0 old
  column_none = filled_none (map part (those later xs)) old

  module _ (i k : ℕ) (x : A) (at : drop i xs ≡ x ∷ drop (i + 1) xs) (new : List B) (c : Column part later xs old i k new) where
    pub column_yes : later x ≡ true → k < length new → Column part later xs old (i + 1) (k + 1) (set new k (part x))
    column_yes h l = filled_more (map part (those later xs)) old k (part x) (map part (those later (drop (i + 1) xs))) new l (subst (λ (u : List A). Filled (map part (those later xs)) old k (map part u) new) (ap (those later) at ∙ those-yes later x (drop (i + 1) xs) h) c)

    pub column_no : later x ≡ false → Column part later xs old (i + 1) k new
    column_no h = subst (λ (u : List A). Filled (map part (those later xs)) old k (map part u) new) (ap (those later) at ∙ those_no later x (drop (i + 1) xs) h) c

  pub column_all : (i k : ℕ) (new : List B) → length xs ≤ i → Passed later xs i k → Column part later xs old i k new → new ≡ room_after part (given (those later xs)) old
  column_all i k new h p c =
      filled_all (map part (those later xs)) old k new (subst (λ (u : List A). Filled (map part (those later xs)) old k (map part u) new) (those-none later xs i h) c)
      ∙ ap (λ (n : ℕ). map part (those later xs) ++ drop n old) (passed_all later xs i k h p)
