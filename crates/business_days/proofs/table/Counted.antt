-- How many days of a list are before a day: in an ascending list that is the day's place.
use Prim.Native.Nat.{ℕ, zero, suc, ◌+◌, ◌≤◌, ◌<◌, zero-le}
use mathlib.Core.Path.{◌≡◌, refl}
use mathlib.Core.Bool.{Bool, true}
use mathlib.Core.List.{List, [], ◌∷◌}
use native.Mathlib.Omega.{arith}
use native.Mathlib.Decide.{dec_lt}
use lib.ListN.{length, get_or}
use lib.Dec.{ltb}
use borrow.Author.Tests.{lt-ltb, le-ltb, le-leb}
use Rattle.outcome.specs.Lists.{those}
use Rattle.business_days.specs.table.Table.{ascends_from, ascending}
use Rattle.business_days.specs.table.Search.{IsLowerBound}
use Rattle.business_days.proofs.table.Table.{ascends_cons, from_low, in_order}

-- a day d is before n; and how many days of a list are
abbrev pub is_below : ℕ → ℕ → Bool
is_below n d = ltb d n

abbrev pub below : ℕ → List ℕ → ℕ
below n t = length (those (is_below n) t)

-- in an ascending list none is before its lowest
none_below : (low n : ℕ) (t : List ℕ) → ascends_from low t ≡ true → n ≤ low → below n t ≡ 0
unfolding those
none_below low n [] a h = refl
none_below low n (d ∷ ds) a h =
    let c = ascends_cons low d ds a in
    let l : n ≤ d = omega arith in
    rw (le-ltb d n l) (none_below (d + 1) n ds c.2 (omega arith))

-- an ascending list has its head for its lowest
ascends_from_lem : (low d : ℕ) (ds : List ℕ) → ascends_from low (d ∷ ds) ≡ true → ascends_from d (d ∷ ds) ≡ true
unfolding ascends_from
ascends_from_lem low d ds a =
    let c = ascends_cons low d ds a in
    simp (le-leb d d (omega arith), le-leb d 3652059 c.1, c.2)

-- and the count is the place
record Parts (t : List ℕ) (n : ℕ) : Type 0 where
  pub within : below n t ≤ length t
  pub before : (k : ℕ) → k < below n t → get_or t k 0 < n
  pub after : (k : ℕ) → below n t ≤ k → k < length t → n ≤ get_or t k 0

parts : (low n : ℕ) (t : List ℕ) → ascends_from low t ≡ true → Parts t n
unfolding those
parts low n [] a = record { within = zero-le; before = λ k h. absurd (omega arith); after = λ k h l. absurd (omega arith) }
parts low n (d ∷ ds) a = by (parts (d + 1) n ds (ascends_cons low d ds a).2) (dec_lt d n)
  where
    rest : ascends_from (d + 1) ds ≡ true
    rest = (ascends_cons low d ds a).2

    less : Parts ds n → below n (d ∷ ds) ≡ suc (below n ds) → d < n → (k : ℕ) → k < below n (d ∷ ds) → get_or (d ∷ ds) k 0 < n
    less r z h zero l = h
    less r z h (suc k) l = r.before k (omega (arith, z))

    more : Parts ds n → below n (d ∷ ds) ≡ suc (below n ds) → (k : ℕ) → below n (d ∷ ds) ≤ k → k < length (d ∷ ds) → n ≤ get_or (d ∷ ds) k 0
    more r z zero l m = absurd (omega (arith, z))
    more r z (suc k) l m = r.after k (omega (arith, z)) (omega arith)

    all : n ≤ d → (k : ℕ) → k < length (d ∷ ds) → n ≤ get_or (d ∷ ds) k 0
    all h zero m = h
    all h (suc k) m = omega (arith, from_low (d + 1) ds rest k (omega arith))

    by : Parts ds n → Dec (d < n) → Parts (d ∷ ds) n
    by r (yes h) =
        let z : below n (d ∷ ds) ≡ suc (below n ds) = rw (lt-ltb d n h) in
        record { within = omega (arith, z, r.within); before = less r z h; after = more r z }
    by r (no h) =
        let l : n ≤ d = omega arith in
        let z : below n (d ∷ ds) ≡ 0 = none_below d n (d ∷ ds) (ascends_from_lem low d ds a) l in
        record { within = omega (arith, z); before = λ k m. absurd (omega (arith, z)); after = λ k j m. all l k m }

pub counted-place : (t : List ℕ) (n : ℕ) → ascending t ≡ true → IsLowerBound t n (below n t)
counted-place t n a =
    let p = parts 1 n t a in
    record { sorted = in_order 1 t a; within = p.within; before = p.before; after = p.after }
