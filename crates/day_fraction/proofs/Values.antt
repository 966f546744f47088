-- Every exact value is not negative and at most 10150 where the start is not after the end, and 0
-- where the two are one date.
use mathlib.Core.Path.{◌≡◌, refl, sym, ◌∙◌, ap, subst}
use Prim.Native.Nat.{ℕ, ◌+◌, ◌*◌, ◌^◌, ◌≤◌, ◌<◌}
use native.Mathlib.Nat.{le_of_lt, mul-le-mul_right}
use native.Mathlib.Omega.{arith}
use native.Mathlib.Decide.{dec_lt}
use lib.IntN.{ℤ, pos}
use lib.Ieee.{Float}
use Rattle.calendar.specs.gregorian.Gregorian.{year_length}
use Rattle.calendar.specs.dates.Dates.{day_number, month_index}
use Rattle.calendar.specs.declared.dates.Date.{Date}
use Rattle.calendar.proofs.dates.Dates.{IsDate}
use Rattle.calendar.proofs.dates.Order.{one_month}
use Rattle.rounding.proofs.Integers.{plus, minus, Diff, of_int_lem, diff_add, diff_sub, diff_scale, diff_lscale}
use Rattle.rounding.proofs.Near.{Near}
use Rattle.day_fraction.specs.Exact.{Exact, difference}
use Rattle.day_fraction.specs.Fractions.{exact_fraction, bits, thirties, leap_years, since_january, years, months, cut, end_day}
use Rattle.day_fraction.specs.declared.SimpleRule.{SimpleRule}
use Rattle.day_fraction.specs.declared.SimpleRule.TheVariants.{Act365, Act360, Act365l, D30_360, D30E360}
use Rattle.day_fraction.proofs.Differences.{diff_of, diff_pos, diff_zero}
use Rattle.day_fraction.proofs.Spans.{since_below, in_order}
use Rattle.day_fraction.proofs.Adjusted.{Adjusted, end_at_once}
use Rattle.day_fraction.proofs.Bounds.{near, dates_30, dates_30_e_lem}

-- ---- each numerator is what the end has less what the start has
abbrev pub thirty_count : Date → ℕ → ℕ
thirty_count t d = 360 * t.year + 30 * t.month + d

pub thirties_diff : (s e : Date) (a b : ℕ) → Diff (thirties (years s e) (months s e) (difference b a)).num (thirty_count e b) (thirty_count s a)
thirties_diff s e a b =
    diff_add (diff_add (diff_lscale (diff_of e.year s.year) 360) (diff_lscale (diff_of e.month s.month) 30)) (diff_of b a)

leap_diff : (x y e E s S : ℕ) → Diff (leap_years (difference y x) e E s S).num (y * (E * S) + e * S) (x * (E * S) + s * E)
leap_diff x y e E s S =
    record { is = omega (arith, (diff_sub (diff_add (diff_scale (diff_of y x) (E * S)) (of_int_lem (pos (e * S)))) (of_int_lem (pos (s * E)))).is) }

-- ---- start = end: every exact value is 0
pub at_once : (rule : SimpleRule) (t : Date) → (exact_fraction rule t t).num ≡ pos 0
unfolding exact_fraction
at_once Act365 t = diff_zero (diff_of (day_number t) (day_number t)) refl
at_once Act360 t = diff_zero (diff_of (day_number t) (day_number t)) refl
at_once Act365l t =
    diff_zero (leap_diff t.year t.year (since_january t) (year_length t.year) (since_january t) (year_length t.year)) refl
at_once D30_360 t = diff_zero (thirties_diff t t (cut t.day) (end_day t.day t.day)) (ap (thirty_count t) (end_at_once t.day))
at_once D30E360 t = diff_zero (thirties_diff t t (cut t.day) (cut t.day)) refl

-- ---- start not after end: no exact value is negative
-- with Y above 0 the leap value is above 0, since s/S is below 1; and in one year e is not before s
leap-up : (x y e E s S : ℕ) → x ≤ y → s < S → (x ≡ y → (S ≡ E) × (s ≤ e)) → x * (E * S) + s * E ≤ y * (E * S) + e * S
leap-up x y e E s S h l same = by (dec_lt x y)
  where
    by : Dec (x < y) → x * (E * S) + s * E ≤ y * (E * S) + e * S
    by (yes i) = omega (arith, mul-le-mul_right (E * S) i, mul-le-mul_right E (le_of_lt l))
    by (no i) =
        let y : x ≡ y = omega arith in
        let c = same y in
        rw (y, c.0) (omega (arith, mul-le-mul_right E c.1))

-- p - n, where n is at most p, is not negative
not_negative : {z : ℤ} {p n : ℕ} → Diff z p n → n ≤ p → z ≡ pos (plus z)
not_negative {z} D h = let e = diff_pos D h in e ∙ ap pos (sym (ap plus e))

-- an exact value that is not negative and is at most 10150, and an f64 near it
pub record Sized (x : Float) (q : Exact) : Type 0 where
  pub count : ℕ
  pub is : q.num ≡ pos count
  pub some : 0 < q.den
  pub most : count ≤ q.den * 10150
  pub close : Near x count 0 q.den 10150 (2 ^ 62)

module _ (s e : Date) (h : IsDate s) (k : IsDate e) (l : day_number s ≤ day_number e) where
  -- where the end has no later month, the two have one month
  no_later_month : (month_index s < month_index e → ⊥) → (s.year ≡ e.year) × (s.month ≡ e.month)
  no_later_month n = one_month s e h k (omega (arith, n, (in_order s e h k l).months))

  -- in one month the days decide, and a later month is 30 days for at most 29 of the start's
  pub thirties-up : (a b : ℕ) → Adjusted s.day e.day a b → thirty_count s a ≤ thirty_count e b
  thirties-up a b A = by (dec_lt (month_index s) (month_index e))
    where
      by : Dec (month_index s < month_index e) → thirty_count s a ≤ thirty_count e b
      by (yes i) = omega arith
      by (no i) = let o = no_later_month i in omega (arith, A.kept ((in_order s e h k l).in_month_lem o.0 o.1))

  -- the two are equal only where the dates have one month, and one adjusted day
  pub thirties-same : (a b : ℕ) → Adjusted s.day e.day a b → thirty_count s a ≡ thirty_count e b → (s.year ≡ e.year) × (s.month ≡ e.month) × (a ≡ b)
  thirties-same a b A q = by (dec_lt (month_index s) (month_index e))
    where
      by : Dec (month_index s < month_index e) → (s.year ≡ e.year) × (s.month ≡ e.month) × (a ≡ b)
      by (yes i) = absurd (omega arith)
      by (no i) = let o = no_later_month i in (o.0, o.1, omega arith)

  up : (rule : SimpleRule) → (exact_fraction rule s e).num ≡ pos (plus (exact_fraction rule s e).num)
  unfolding exact_fraction
  up Act365 = not_negative (diff_of (day_number e) (day_number s)) l
  up Act360 = not_negative (diff_of (day_number e) (day_number s)) l
  up Act365l =
      let o = in_order s e h k l in
      not_negative (leap_diff s.year e.year (since_january e) (year_length e.year) (since_january s) (year_length s.year))
      (leap-up s.year e.year (since_january e) (year_length e.year) (since_january s) (year_length s.year) o.years (since_below s h)
      (λ y. (ap year_length y, o.in_year_lem y)))
  up D30_360 = not_negative (thirties_diff s e (cut s.day) (end_day s.day e.day)) (thirties-up _ _ (dates_30 s e h k))
  up D30E360 = not_negative (thirties_diff s e (cut s.day) (cut e.day)) (thirties-up _ _ (dates_30_e_lem s e h k))

  -- every exact value is not negative and at most 10150, and its f64 near it
  pub sized : (rule : SimpleRule) → Sized (bits rule s e) (exact_fraction rule s e)
  sized rule =
      let q = exact_fraction rule s e in
      let N = near s e h k rule in
      let none : minus q.num ≡ 0 = ap minus (up rule) in
      record {
        count = plus q.num;
        is = up rule;
        some = N.den;
        most = omega (arith, N.bound.0);
        close = subst (λ (n : ℕ). Near (bits rule s e) (plus q.num) n q.den 10150 (2 ^ 62)) none N;
      }
