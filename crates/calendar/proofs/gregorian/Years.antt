-- The Gregorian cycle: 400 years of 146097 days, over and over.
use Prim.Native.Nat.{ℕ, zero, suc, ◌+◌, ◌-◌, ◌*◌, ◌/◌, ◌%◌, ◌≤◌, ◌<◌}
use mathlib.Core.Path.{◌≡◌, refl, sym, ◌∙◌, ap}
use mathlib.Core.Bool.{Bool, true, false}
use native.Mathlib.Omega.{arith}
use native.Mathlib.Nat.{add-suc, add-mul, mul_comm, mul-suc, mul-zero, one-mul, div-add-mod, div-eq_of_lt-le, lt-div-mul-add}
use lib.Dec.{eqb}
use borrow.Author.Tests.{eqb-true, eqb-false, ne_eqb}
use Rattle.outcome.specs.Outcome.{pick}
use Rattle.calendar.specs.gregorian.Gregorian.{leap, year_length, days_before, before_year}
use Rattle.calendar.proofs.gregorian.Counting.{before-suc}

pub leap_cycle : (q r : ℕ) → leap (400 * q + r) ≡ leap r
unfolding leap
leap_cycle q r =
    let a : (400 * q + r) % 100 ≡ r % 100 = omega arith in
    let b : (400 * q + r) % 400 ≡ r % 400 = omega arith in
    let d : (400 * q + r) % 4 ≡ r % 4 = omega arith in
    rw (a, b, d)

length_cycle : (q r : ℕ) → year_length (400 * q + suc r) ≡ year_length (suc r)
unfolding year_length
length_cycle q r = rw (add-suc (400 * q) r) (ap (λ (b : Bool). pick b 366 365) (rw (add-suc (400 * q) r) at (leap_cycle q (suc r))))

part : (q r : ℕ) → before_year (400 * q + suc r) ≡ before_year (400 * q + 1) + before_year (suc r)
unfolding days_before year_length
part q zero = omega arith
part q (suc r) =
    ap (days_before year_length) (add-suc (400 * q) (suc r)) ∙ before-suc year_length (400 * q + suc r)
    ∙ omega (arith, part q r, length_cycle q r, before-suc year_length (suc r))

pub whole : before_year 401 ≡ 146097
unfolding days_before year_length leap
whole = refl

pub before-one : before_year 1 ≡ 0
unfolding days_before year_length
before-one = refl

cycles : (q : ℕ) → before_year (400 * q + 1) ≡ 146097 * q
cycles zero = before-one
cycles (suc q) =
    let e : 400 * suc q + 1 ≡ 400 * q + 401 = omega arith in
    rw e (omega (arith, part q 400, whole, cycles q))

pub cycle : (q r : ℕ) → before_year (400 * q + suc r) ≡ 146097 * q + before_year (suc r)
cycle q r = omega (arith, part q r, cycles q)

-- 9999-12-31
pub last-day : before_year 10000 ≡ 3652059
unfolding days_before year_length leap
last-day = cycle 24 399

by_rule_lem : (n : ℕ) (b c d : Bool) → eqb (suc n % 100) 0 ≡ b → eqb (suc n % 400) 0 ≡ c → eqb (suc n % 4) 0 ≡ d → year_length (suc n) ≡ pick (pick b c d) 366 365
unfolding year_length leap
by_rule_lem n b c d p q r = rw (p, q, r)

-- a quotient rises where the divisor divides the next number, and stays else
rises : (d n : ℕ) → 0 < d → suc n % d ≡ 0 → suc n / d ≡ suc (n / d)
rises d n h e = by (suc n / d) refl
  where
    by : (q : ℕ) → suc n / d ≡ q → q ≡ suc (n / d)
    by zero f = absurd (omega (arith, rw (e, f, mul-zero d) at (div-add-mod (suc n) d)))
    by (suc k) f =
        let p : d * k + d ≡ suc n = omega (arith, rw (e, f, mul-suc d k) at (div-add-mod (suc n) d)) in
        ap suc (sym (div-eq_of_lt-le {k = k} d {m = n} (omega (arith, mul_comm d k)) (omega (arith, mul_comm d k, add-mul k 1 d, one-mul d))))

stays : (d n : ℕ) → 0 < d → (suc n % d ≡ 0 → ⊥) → suc n / d ≡ n / d
stays d n h e =
    let q : ℕ = suc n / d in
    sym (div-eq_of_lt-le {k = q} d {m = n} (omega (arith, div-add-mod (suc n) d, mul_comm d q, e)) (omega (arith, lt-div-mul-add {a = suc n} h, add-mul q 1 d, one-mul d)))

-- the sum moves as its parts do
moves : (x x' l a a' b b' c c' n : ℕ) → x + b ≡ 365 * n + a + c → x' ≡ x + l → l + b' + a + c ≡ 365 + b + a' + c' → x' + b' ≡ 365 * suc n + a' + c'
moves x x' l a a' b b' c c' n p q r = omega arith

-- the usual closed form: 365 days for each year, and a day for each leap year
pub closed : (n : ℕ) → before_year (suc n) + n / 100 ≡ 365 * n + n / 4 + n / 400
closed zero = omega (arith, before-one)
closed (suc n) =
    moves (before_year (suc n)) (before_year (suc (suc n))) (year_length (suc n)) (n / 4) (suc n / 4) (n / 100) (suc n / 100) (n / 400) (suc n / 400) n
    (closed n) (before-suc year_length (suc n))
    (by (eqb (suc n % 100) 0) (eqb (suc n % 400) 0) (eqb (suc n % 4) 0) refl refl refl)
  where
    by : (b c d : Bool) → eqb (suc n % 100) 0 ≡ b → eqb (suc n % 400) 0 ≡ c → eqb (suc n % 4) 0 ≡ d → year_length (suc n) + suc n / 100 + n / 4 + n / 400 ≡ 365 + n / 100 + suc n / 4 + suc n / 400
    by true true true p q r =
        rw (by_rule_lem n true true true p q r, rises 100 n (omega arith) (eqb-true (suc n % 100) 0 p), rises 400 n (omega arith) (eqb-true (suc n % 400) 0 q), rises 4 n (omega arith) (eqb-true (suc n % 4) 0 r)) (omega arith)
    by true true false p q r = absurd (omega (arith, eqb-true (suc n % 100) 0 p, eqb-false (suc n % 4) 0 r))
    by true false true p q r =
        rw (by_rule_lem n true false true p q r, rises 100 n (omega arith) (eqb-true (suc n % 100) 0 p), stays 400 n (omega arith) (eqb-false (suc n % 400) 0 q), rises 4 n (omega arith) (eqb-true (suc n % 4) 0 r)) (omega arith)
    by true false false p q r = absurd (omega (arith, eqb-true (suc n % 100) 0 p, eqb-false (suc n % 4) 0 r))
    by false true true p q r = absurd (omega (arith, eqb-true (suc n % 400) 0 q, eqb-false (suc n % 100) 0 p))
    by false true false p q r = absurd (omega (arith, eqb-true (suc n % 400) 0 q, eqb-false (suc n % 100) 0 p))
    by false false true p q r =
        rw (by_rule_lem n false false true p q r, stays 100 n (omega arith) (eqb-false (suc n % 100) 0 p), stays 400 n (omega arith) (eqb-false (suc n % 400) 0 q), rises 4 n (omega arith) (eqb-true (suc n % 4) 0 r)) (omega arith)
    by false false false p q r =
        rw (by_rule_lem n false false false p q r, stays 100 n (omega arith) (eqb-false (suc n % 100) 0 p), stays 400 n (omega arith) (eqb-false (suc n % 400) 0 q), stays 4 n (omega arith) (eqb-false (suc n % 4) 0 r)) (omega arith)

taken_off : (x n a b d : ℕ) → x + b ≡ 365 * n + a + d → b ≤ a → 365 * n + a - b + d ≡ x
taken_off x n a b d p h = omega arith

-- the closed form at the year y, of the y - 1 years before it
pub by_rule_of_leaps : (y : ℕ) → 1 ≤ y → 365 * (y - 1) + (y - 1) / 4 - (y - 1) / 100 + (y - 1) / 400 ≡ before_year y
by_rule_of_leaps y h =
    let n = y - 1 in
    let e : suc n ≡ y = omega arith in
    taken_off (before_year y) n (n / 4) (n / 100) (n / 400) (rw e at (closed n)) (omega arith)

-- of the hundreds those that 16 divides are those that 400 does
hundreds : (y : ℕ) → y % 100 ≡ 0 → eqb (y % 16) 0 ≡ eqb (y % 400) 0
hundreds y h = by (eqb (y % 16) 0) (eqb (y % 400) 0) refl refl
  where
    by : (b c : Bool) → eqb (y % 16) 0 ≡ b → eqb (y % 400) 0 ≡ c → eqb (y % 16) 0 ≡ eqb (y % 400) 0
    by true true p q = p ∙ sym q
    by false false p q = p ∙ sym q
    by true false p q =
        let b = y / 16 in
        let c = y / 100 in
        let d : 25 * c ≡ 4 * b = omega (arith, eqb-true (y % 16) 0 p) in
        let k : y ≡ 400 * (b - 6 * c) = omega arith in
        absurd (omega (arith, eqb-false (y % 400) 0 q))
    by false true p q = absurd (omega (arith, eqb-false (y % 16) 0 p, eqb-true (y % 400) 0 q))

-- of those that 25 divides the leap years are those that 16 divides, and of the others those that 4
-- divides
pub leap_of_25 : (y : ℕ) → y % 25 ≡ 0 → eqb (y % 16) 0 ≡ leap y
unfolding leap
leap_of_25 y h = by (eqb (y % 100) 0) refl
  where
    by : (b : Bool) → eqb (y % 100) 0 ≡ b → eqb (y % 16) 0 ≡ pick (eqb (y % 100) 0) (eqb (y % 400) 0) (eqb (y % 4) 0)
    by true p = rw p (hundreds y (eqb-true (y % 100) 0 p))
    by false p =
        let odd : y % 4 ≡ 0 → ⊥ = λ e. let k : y ≡ 100 * (y / 4 - 6 * (y / 25)) = omega arith in omega (arith, eqb-false (y % 100) 0 p) in
        rw (p, ne_eqb (y % 4) 0 odd, ne_eqb (y % 16) 0 (λ e. odd (omega arith)))

pub leap_of_others : (y : ℕ) → (y % 25 ≡ 0 → ⊥) → eqb (y % 4) 0 ≡ leap y
unfolding leap
leap_of_others y h = rw (ne_eqb (y % 100) 0 (λ e. h (omega arith)))
