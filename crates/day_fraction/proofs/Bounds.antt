-- Every rule's `f64` is within 1 / 2 ^ 38 of its exact value, on every two dates.
use mathlib.Core.Path.{◌≡◌, refl}
use Prim.Native.Nat.{ℕ, ◌+◌, ◌*◌, ◌^◌, ◌≤◌, ◌<◌, zero-le}
use native.Mathlib.Nat.{mul-pos}
use native.Mathlib.Omega.{arith}
use lib.IntN.{ℤ, pos, nat_abs}
use lib.Dec.{lit<, lit≤}
use lib.Ieee.{Float}
use Rattle.calendar.specs.gregorian.Gregorian.{year_length}
use Rattle.calendar.proofs.gregorian.Months.{year_most}
use Rattle.calendar.specs.dates.Dates.{day_number}
use Rattle.calendar.specs.declared.dates.Date.{Date}
use Rattle.calendar.proofs.dates.Dates.{IsDate, number-from, number-to}
use Rattle.rounding.proofs.Algebra.{ring}
use Rattle.rounding.proofs.Integers.{plus, minus, Diff, of_int_lem, diff_add, diff_sub, diff_scale, diff_lscale, size_is}
use Rattle.rounding.proofs.Near.{Near, near_int, near_add, near_sub, near_same, near_signed, near_weaken}
use Rattle.rounding.proofs.Quotient.{near_div}
use Rattle.rounding.proofs.CloseLaws.{near_close}
use Rattle.rounding.proofs.Difference.{abs_gap}
use Rattle.day_fraction.specs.Exact.{Exact, CloseTo, difference}
use Rattle.day_fraction.specs.Fractions.{exact_fraction, bits, quotient, thirties, thirties_bits, leap_years, leap_bits, since_january, days, years, months, cut, end_day}
use Rattle.day_fraction.specs.declared.SimpleRule.{SimpleRule}
use Rattle.day_fraction.specs.declared.SimpleRule.TheVariants.{Act365, Act360, Act365l, D30_360, D30E360}
use Rattle.day_fraction.proofs.Spans.{since_below, day-most}
use Rattle.day_fraction.proofs.Adjusted.{Adjusted, adjusted_30_e_lem, adjusted_30}

-- the f64 is within 1 / 2 ^ 38 of the exact value, and that is at most 10150 in size
abbrev pub NearTo : Float → Exact → Type 0
NearTo x q = Near x (plus q.num) (minus q.num) q.den 10150 (2 ^ 62)

-- and so within 1 / 2 ^ 38 of it
pub near_to_close : {x : Float} (q : Exact) → NearTo x q → CloseTo x q
near_to_close q N = near_close N (of_int_lem q.num) _ q.den refl (lit≤ tt)

-- a value near (a - b) / c is near the exact value, where that is the same fraction
pub lands : {x : Float} {a b c k e A B : ℕ} (q : Exact) → Near x a b c k e → Diff q.num A B → 0 < q.den → a * q.den + B * c ≡ A * c + b * q.den → k ≤ 10150 → e ≤ 2 ^ 62 → NearTo x q
lands {x} {a} {b} {c} {k} {e} {A} {B} q X D P same h l =
    near_weaken (near_signed (near_same X A B q.den P same) D q.den refl) 10150 (2 ^ 62) h l

-- days / base
act_near : (z : ℤ) (base : ℕ) → nat_abs z ≤ 3652058 → 360 ≤ base → base ≤ 365 → NearTo (quotient z base) (record { num = z; den = base })
act_near z base h l u =
    lands (record { num = z; den = base })
    (near_div (near_int z 3652058 (omega (arith, size_is z)) (lit< tt)) base 10150 0 14 (omega arith) (omega arith) (omega arith) zero-le (lit≤ tt) (omega arith) (lit< tt))
    (of_int_lem z) (omega arith) (omega arith) (lit≤ tt) (lit≤ tt)

-- (Y + M/12) + D/360
thirties_near : (y m d : ℤ) → nat_abs y ≤ 9998 → nat_abs m ≤ 11 → nat_abs d ≤ 30 → NearTo (thirties_bits y m d) (thirties y m d)
thirties_near y m d hy hm hd =
    let Y = near_int y 9998 (omega (arith, size_is y)) (lit< tt) in
    let M = near_div (near_int m 11 (omega (arith, size_is m)) (lit< tt)) 12 1 0 0 (lit< tt) (lit< tt) (lit≤ tt) zero-le (lit≤ tt) (lit< tt) (lit< tt) in
    let D = near_div (near_int d 30 (omega (arith, size_is d)) (lit< tt)) 360 1 0 0 (lit< tt) (lit< tt) (lit≤ tt) zero-le (lit≤ tt) (lit< tt) (lit< tt) in
    lands (thirties y m d) (near_add (near_add Y M 14 (lit≤ tt) (lit< tt) (lit< tt)) D 14 (lit≤ tt) (lit< tt) (lit< tt))
    (diff_add (diff_add (diff_lscale (of_int_lem y) 360) (diff_lscale (of_int_lem m) 30)) (of_int_lem d)) (lit< tt) (omega arith) (lit≤ tt) (lit≤ tt)

leap-same : (p n e E s S : ℕ) → ((p * (1 * E) + e * 1) * (1 * S) + 0 * (1 * (1 * E))) * (E * S) + (n * (E * S) + 0 + s * E) * (1 * (1 * E) * (1 * S))
    ≡ (p * (E * S) + e * S + 0) * (1 * (1 * E) * (1 * S)) + ((n * (1 * E) + 0) * (1 * S) + s * (1 * (1 * E))) * (E * S)
leap-same p n e E s S = simp ring (omega arith)

-- (Y + e/E) - s/S
leap_near : (y : ℤ) (e E s S : ℕ) → nat_abs y ≤ 9998 → e < E → E ≤ 366 → s < S → S ≤ 366 → NearTo (leap_bits y e E s S) (leap_years y e E s S)
leap_near y e E s S hy he hE hs hS =
    let Y = near_int y 9998 (omega (arith, size_is y)) (lit< tt) in
    let P = near_div (near_int (pos e) e (omega arith) (omega arith)) E 1 0 0 (omega arith) (omega arith) (omega arith) zero-le (lit≤ tt) (omega arith) (lit< tt) in
    let Q = near_div (near_int (pos s) s (omega arith) (omega arith)) S 1 0 0 (omega arith) (omega arith) (omega arith) zero-le (lit≤ tt) (omega arith) (lit< tt) in
    lands (leap_years y e E s S) (near_sub (near_add Y P 14 (lit≤ tt) (lit< tt) (lit< tt)) Q 14 (lit≤ tt) (lit< tt) (lit< tt))
    (diff_sub (diff_add (diff_scale (of_int_lem y) (E * S)) (of_int_lem (pos (e * S)))) (of_int_lem (pos (s * E)))) (mul-pos (omega arith) (omega arith)) (leap-same (plus y) (minus y) e E s S) (lit≤ tt) (lit≤ tt)

module _ (s e : Date) (h : IsDate s) (k : IsDate e) where
  days-size : nat_abs (days s e) ≤ 3652058
  days-size = abs_gap (day_number e) (day_number s) 3652058 (omega (arith, number-to e k, number-from s h)) (omega (arith, number-to s h, number-from e k))

  years-size : nat_abs (years s e) ≤ 9998
  years-size = abs_gap e.year s.year 9998 (omega arith) (omega arith)

  months-size : nat_abs (months s e) ≤ 11
  months-size = abs_gap e.month s.month 11 (omega arith) (omega arith)

  -- the two rules differ in the adjusted days alone
  by-thirties : (a b : ℕ) → Adjusted s.day e.day a b → NearTo (thirties_bits (years s e) (months s e) (difference b a)) (thirties (years s e) (months s e) (difference b a))
  by-thirties a b A = thirties_near (years s e) (months s e) (difference b a) years-size months-size (abs_gap b a 30 A.apart.1 A.apart.0)

  pub dates_30 : Adjusted s.day e.day (cut s.day) (end_day s.day e.day)
  dates_30 = adjusted_30 s.day e.day h.day-from (day-most s h) k.day-from (day-most e k)

  pub dates_30_e_lem : Adjusted s.day e.day (cut s.day) (cut e.day)
  dates_30_e_lem = adjusted_30_e_lem s.day e.day h.day-from (day-most s h) k.day-from (day-most e k)

  -- each rule's f64 is near its exact value
  pub near : (rule : SimpleRule) → NearTo (bits rule s e) (exact_fraction rule s e)
  unfolding bits exact_fraction
  near Act365 = act_near (days s e) 365 days-size (lit≤ tt) (lit≤ tt)
  near Act360 = act_near (days s e) 360 days-size (lit≤ tt) (lit≤ tt)
  near Act365l =
      leap_near (years s e) (since_january e) (year_length e.year) (since_january s) (year_length s.year) years-size
      (since_below e k) (year_most e.year) (since_below s h) (year_most s.year)
  near D30_360 = by-thirties (cut s.day) (end_day s.day e.day) dates_30
  near D30E360 = by-thirties (cut s.day) (cut e.day) dates_30_e_lem

  pub within : (rule : SimpleRule) → CloseTo (bits rule s e) (exact_fraction rule s e)
  within rule = near_to_close (exact_fraction rule s e) (near rule)
