-- The months' lengths at each number, and the days of a year before each month.
use Prim.Native.Nat.{ℕ, zero, suc, ◌+◌, ◌-◌, ◌*◌, ◌/◌, ◌≤◌, ◌<◌, max}
use mathlib.Core.Path.{◌≡◌, refl, sym, ◌∙◌, ap}
use mathlib.Core.Logic.{◌⊎◌, inl, inr}
use mathlib.Core.Bool.{Bool, true, false}
use native.Mathlib.Omega.{arith}
use native.Mathlib.Decide.{dec_lt}
use lib.ListN.{get_or-eq_default}
use lib.Dec.{eqb, leb}
use borrow.Author.Tests.{leb-true, eqb-true}
use Rattle.outcome.specs.Outcome.{pick}
use Rattle.outcome.proofs.Numbers.{next_up}
use Rattle.calendar.specs.gregorian.Gregorian.{leap, lengths, length_in, month_length, year_length, days_before, before_month}
use Rattle.calendar.proofs.gregorian.Table.{passes, passes_at}

-- a number past the twelfth is no month's
past : (b : Bool) (m : ℕ) → 13 ≤ m → length_in b m ≡ 0
unfolding length_in
past b m h = get_or-eq_default (lengths b) 0 h

-- what a test computes at the twelve months of both kinds of year
module _ (p : Bool → ℕ → Bool) (n : ℕ) (common : passes (p false) n ≡ true) (long : passes (p true) n ≡ true) where
  pub in_both : (b : Bool) (k : ℕ) → k < n → p b k ≡ true
  in_both false k h = passes_at (p false) n common k h
  in_both true k h = passes_at (p true) n long k h

most : (b : Bool) (m : ℕ) → m < 13 → leb (length_in b m) 31 ≡ true
unfolding length_in passes
most = in_both (λ b m. leb (length_in b m) 31) 13 refl refl

least : (b : Bool) (k : ℕ) → k < 12 → leb 28 (length_in b (suc k)) ≡ true
unfolding length_in passes
least = in_both (λ b k. leb 28 (length_in b (suc k))) 12 refl refl

-- a month has at most 31 days
pub length_most : (b : Bool) (m : ℕ) → length_in b m ≤ 31
length_most b m = by (dec_lt m 13)
  where
    by : Dec (m < 13) → length_in b m ≤ 31
    by (yes l) = leb-true (length_in b m) 31 (most b m l)
    by (no l) = rw (past b m (omega arith)) (omega arith)

pub at_most : (y m : ℕ) → month_length y m ≤ 31
unfolding month_length
at_most y m = length_most (leap y) m

-- each of the twelve has at least 28
pub at_least : (y m : ℕ) → 1 ≤ m → m ≤ 12 → 28 ≤ month_length y m
unfolding month_length
at_least y m h k =
    let e : suc (m - 1) ≡ m = omega arith in
    rw e at (leb-true 28 (length_in (leap y) (suc (m - 1))) (least (leap y) (m - 1) (omega arith)))

no_month : (b : Bool) → length_in b 0 ≡ 0
unfolding length_in
no_month b = refl

-- only a month has days
pub is_month : (y m : ℕ) → 1 ≤ month_length y m → (1 ≤ m) × (m ≤ 12)
unfolding month_length
is_month y m h =
    let b = leap y in
    let low : m ≡ 0 → ⊥ = λ e. omega (arith, no_month b, ap (length_in b) e) in
    let high : 13 ≤ m → ⊥ = λ l. omega (arith, past b m l) in
    (omega (arith, low), omega (arith, high))

-- the arms of a match on a month's number
pub long_first : {m : ℕ} (y : ℕ) → (m ≡ 1) ⊎ ((m ≡ 3) ⊎ ((m ≡ 5) ⊎ (m ≡ 7))) → 31 ≡ month_length y m
unfolding month_length length_in
long_first y (inl e) = rw e
long_first y (inr (inl e)) = rw e
long_first y (inr (inr (inl e))) = rw e
long_first y (inr (inr (inr e))) = rw e

pub long_last : {m : ℕ} (y : ℕ) → (m ≡ 8) ⊎ ((m ≡ 10) ⊎ (m ≡ 12)) → 31 ≡ month_length y m
unfolding month_length length_in
long_last y (inl e) = rw e
long_last y (inr (inl e)) = rw e
long_last y (inr (inr e)) = rw e

pub short : {m : ℕ} (y : ℕ) → (m ≡ 4) ⊎ ((m ≡ 6) ⊎ ((m ≡ 9) ⊎ (m ≡ 11))) → 30 ≡ month_length y m
unfolding month_length length_in
short y (inl e) = rw e
short y (inr (inl e)) = rw e
short y (inr (inr (inl e))) = rw e
short y (inr (inr (inr e))) = rw e

pub february : {m : ℕ} (y : ℕ) {b : Bool} → m ≡ 2 → leap y ≡ b → pick b 29 28 ≡ month_length y m
unfolding month_length length_in
february y e h = rw (e, h)

pub none : (y m : ℕ)
    → ((m ≡ 1) ⊎ ((m ≡ 3) ⊎ ((m ≡ 5) ⊎ (m ≡ 7))) → ⊥) → ((m ≡ 8) ⊎ ((m ≡ 10) ⊎ (m ≡ 12)) → ⊥) → ((m ≡ 4) ⊎ ((m ≡ 6) ⊎ ((m ≡ 9) ⊎ (m ≡ 11))) → ⊥) → (m ≡ 2 → ⊥)
    → 0 ≡ month_length y m
unfolding month_length
none y m a b c d = by (dec_lt 0 m)
  where
    by : Dec (0 < m) → 0 ≡ length_in (leap y) m
    by (no l) = let z : m ≡ 0 = omega arith in sym (ap (length_in (leap y)) z ∙ no_month (leap y))
    by (yes l) =
        let to5 = next_up 4 m (next_up 3 m (next_up 2 m (next_up 1 m l (λ e. a (inl e))) d) (λ e. a (inr (inl e)))) (λ e. c (inl e)) in
        let to9 = next_up 8 m (next_up 7 m (next_up 6 m (next_up 5 m to5 (λ e. a (inr (inr (inl e))))) (λ e. c (inr (inl e)))) (λ e. a (inr (inr (inr e))))) (λ e. b (inl e)) in
        sym (past (leap y) m
        (next_up 12 m (next_up 11 m (next_up 10 m (next_up 9 m to9 (λ e. c (inr (inr (inl e))))) (λ e. b (inr (inl e)))) (λ e. c (inr (inr (inr e))))) (λ e. b (inr (inr e)))))

-- the twelve months make the year
pub year_of-months : (y : ℕ) → 1 ≤ y → before_month y 13 ≡ year_length y
unfolding days_before month_length length_in year_length
year_of-months zero h = absurd (omega arith)
year_of-months (suc n) h = by (leap (suc n))
  where
    by : (b : Bool) → days_before (length_in b) 13 ≡ pick b 366 365
    by true = refl
    by false = refl

pub no_year : (y : ℕ) → y < 1 → 0 ≡ year_length y
unfolding year_length
no_year zero h = refl
no_year (suc n) h = absurd (omega arith)

pub year_length_lem : (y : ℕ) {b : Bool} → 1 ≤ y → leap y ≡ b → pick b 366 365 ≡ year_length y
unfolding year_length
year_length_lem zero h e = absurd (omega arith)
year_length_lem (suc n) h e = rw e

pub year_most : (y : ℕ) → year_length y ≤ 366
unfolding year_length
year_most zero = omega arith
year_most (suc n) = by (leap (suc n))
  where
    by : (b : Bool) → pick b 366 365 ≤ 366
    by true = omega arith
    by false = omega arith

pub year_least : (y : ℕ) → 1 ≤ y → 365 ≤ year_length y
unfolding year_length
year_least zero h = absurd (omega arith)
year_least (suc n) h = by (leap (suc n))
  where
    by : (b : Bool) → 365 ≤ pick b 366 365
    by true = omega arith
    by false = omega arith

pub before-first : (y : ℕ) → before_month y 1 ≡ 0
unfolding days_before month_length length_in
before-first y = refl

-- a leap year's months from March on begin a day later
early : (b : Bool) (m : ℕ) → m < 3 → eqb (days_before (length_in false) m) (days_before (length_in b) m) ≡ true
unfolding days_before length_in passes
early = in_both (λ b m. eqb (days_before (length_in false) m) (days_before (length_in b) m)) 3 refl refl

late : (k : ℕ) → k < 11 → eqb (days_before (length_in false) (k + 3) + 1) (days_before (length_in true) (k + 3)) ≡ true
unfolding days_before length_in passes
late = passes_at (λ k. eqb (days_before (length_in false) (k + 3) + 1) (days_before (length_in true) (k + 3))) 11 refl

-- a common year's months from March on, by a product and a shift
pub common_early : (m : ℕ) → 1 ≤ m → m < 3 → 31 * (m - 1) ≡ days_before (length_in false) m
unfolding days_before length_in
common_early zero l h = absurd (omega arith)
common_early (suc zero) l h = refl
common_early (suc (suc zero)) l h = refl
common_early (suc (suc (suc m))) l h = absurd (omega arith)

pub common_late : (m : ℕ) → 3 ≤ m → m ≤ 13 → (979 * m - 1031) / 32 ≡ days_before (length_in false) m
unfolding days_before length_in passes
common_late m l h =
    let e : m - 3 + 3 ≡ m = omega arith in
    rw e at (eqb-true ((979 * (m - 3 + 3) - 1031) / 32) (days_before (length_in false) (m - 3 + 3))
    (passes_at (λ (k : ℕ). eqb ((979 * (k + 3) - 1031) / 32) (days_before (length_in false) (k + 3))) 11 refl (m - 3) (omega arith)))

pub before_early : (y m : ℕ) → m < 3 → days_before (length_in false) m ≡ before_month y m
unfolding month_length
before_early y m h = eqb-true _ _ (early (leap y) m h)

pub before_late : (y m : ℕ) → leap y ≡ true → 3 ≤ m → m ≤ 13 → days_before (length_in false) m + 1 ≡ before_month y m
unfolding month_length
before_late y m l h k =
    let e : m - 3 + 3 ≡ m = omega arith in
    rw l (rw e at (eqb-true (days_before (length_in false) (m - 3 + 3) + 1) (days_before (length_in true) (m - 3 + 3)) (late (m - 3) (omega arith))))

pub before_common : (y m : ℕ) → leap y ≡ false → days_before (length_in false) m ≡ before_month y m
unfolding month_length
before_common y m l = rw l

-- counted from March the months follow one rule, and from March to the new year there are 306 days
from_march_in : (b : Bool) (k : ℕ) → k < 11 → eqb (days_before (length_in b) (k + 3) + 306) (days_before (length_in b) 13 + (153 * k + 2) / 5) ≡ true
unfolding days_before length_in passes
from_march_in = in_both (λ b k. eqb (days_before (length_in b) (k + 3) + 306) (days_before (length_in b) 13 + (153 * k + 2) / 5)) 11 refl refl

to_march_in : (b : Bool) (k : ℕ) → k < 3 → eqb (days_before (length_in b) k + 306) (max 306 ((153 * (k + 9) + 2) / 5)) ≡ true
unfolding days_before length_in passes
to_march_in = in_both (λ b k. eqb (days_before (length_in b) k + 306) (max 306 ((153 * (k + 9) + 2) / 5))) 3 refl refl

pub from_march_lem : (y m : ℕ) → 1 ≤ y → 3 ≤ m → m ≤ 13 → before_month y m + 306 ≡ year_length y + (153 * (m - 3) + 2) / 5
unfolding month_length
from_march_lem y m g l h =
    let e : m - 3 + 3 ≡ m = omega arith in
    (rw e at (eqb-true (days_before (length_in (leap y)) (m - 3 + 3) + 306) (days_before (length_in (leap y)) 13 + (153 * (m - 3) + 2) / 5) (from_march_in (leap y) (m - 3) (omega arith))))
    ∙ ap (λ (n : ℕ). n + (153 * (m - 3) + 2) / 5) (year_of-months y g)

pub to_march : (y m : ℕ) → 1 ≤ m → m < 3 → before_month y m + 306 ≡ (153 * (m + 9) + 2) / 5
unfolding month_length
to_march y m l h = omega (arith, eqb-true (days_before (length_in (leap y)) m + 306) (max 306 ((153 * (m + 9) + 2) / 5)) (to_march_in (leap y) m h))
