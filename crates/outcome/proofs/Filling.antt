-- A loop that fills a list from its front, over any kind of element.
use mathlib.Core.Path.{◌≡◌, refl, sym, ap, ap₂, ◌∙◌, subst}
use mathlib.Core.List.{List, [], ◌∷◌, ◌++◌, append-nil, map}
use Prim.Native.Nat.{ℕ, ◌+◌, ◌≤◌, ◌<◌}
use native.Mathlib.Omega.{arith}
use native.Mathlib.Numerals.{add-one}
use lib.ListN.{length, take, drop, set, get_or, length-set, length-map, take-append-drop}
use lib.Seq.{take-suc-set, drop-set-lt, append_snoc, length-take-le, take_at}
use Rattle.outcome.specs.Outcome.{Outcome, given, refused, value}
use Rattle.outcome.proofs.Lists.{head_at, tails_agree}
use Rattle.outcome.proofs.Outcomes.{given_injective, given_not_refused}
use Rattle.outcome.specs.Room.{counted, room_after}

-- k elements are written, what is to come is `left`, and the rest is as it was
pub record Filled {A : Type 0} (whole old : List A) (k : ℕ) (left new : List A) : Type 0 where
  pub same_length : length new ≡ length old
  pub front : take k new ++ left ≡ whole
  pub back : drop k new ≡ drop k old

module _ {A : Type 0} (whole old : List A) where
  pub filled_none : Filled whole old 0 whole old
  filled_none = record { same_length = refl; front = refl; back = refl }

  pub filled_more : (k : ℕ) (x : A) (left new : List A) → k < length new → Filled whole old k (x ∷ left) new → Filled whole old (k + 1) left (set new k x)
  filled_more k x left new h w = record {
    same_length = simp length-set w.same_length;
    front = rw (add-one, take-suc-set, append_snoc) w.front;
    back = drop-set-lt (k + 1) new k x (omega arith) ∙ tails_agree new old k (k + 1) (omega arith) w.back;
  }

  pub filled_all : (k : ℕ) (new : List A) → Filled whole old k [] new → new ≡ whole ++ drop k old
  filled_all k new w = sym (take-append-drop k new) ∙ rw w.back (ap (λ (l : List A). l ++ drop k old) (sym (append-nil (take k new)) ∙ w.front))

  -- a loop that copies: what is to come is the rest of the list it copies from
  pub filled_next : (source : List A) (k : ℕ) (d : A) (new : List A) → k < length source → k < length new → Filled whole old k (drop k source) new → Filled whole old (k + 1) (drop (k + 1) source) (set new k (get_or source k d))
  filled_next source k d new h l w =
      filled_more k (get_or source k d) (drop (k + 1) source) new l (subst (λ (m : List A). Filled whole old k m new) (head_at source k d h) w)

  -- and where it ends early, as many are copied
  pub filled_part : (k : ℕ) (left new : List A) → k ≤ length new → Filled whole old k left new → new ≡ take k whole ++ drop k old
  filled_part k left new h w = sym (take-append-drop k new) ∙ ap₂ ◌++◌ (sym (take_at (take k new) left k (length-take-le k new h)) ∙ ap (take k) w.front) w.back

-- what was written in front of a list is what stands there
pub front_taken : {A B : Type 0} (part : A → B) (l : List A) (rest : List B) → take (length l) (map part l ++ rest) ≡ map part l
front_taken part l rest = take_at (map part l) rest (length l) (length-map l part)

-- the count and the room afterwards, by what was given
pub count_is : {A : Type 0} (o : Outcome (List A)) → value 0 (counted o) ≡ length (value [] o)
count_is (given l) = refl
count_is (refused n) = refl

pub room_is : {A B : Type 0} (part : A → B) (o : Outcome (List A)) (old : List B) → map part (value [] o) ++ drop (length (value [] o)) old ≡ room_after part o old
room_is part (given l) old = refl
room_is part (refused n) old = refl

-- what stands in front of one room, copied in front of another
pub room_copied : {A B : Type 0} (part : A → B) (o : Outcome (List A)) (m : ℕ) (kept old : List B) → counted o ≡ given m → take m (room_after part o kept) ++ drop m old ≡ room_after part o old
room_copied part (given l) m kept old e = subst (λ (j : ℕ). take j (map part l ++ drop (length l) kept) ++ drop j old ≡ map part l ++ drop (length l) old) (given_injective e) (ap (λ (r : List _). r ++ drop (length l) old) (front_taken part l (drop (length l) kept)))
room_copied part (refused n) m kept old e = absurd (given_not_refused (sym e))
