-- Refusal 9: 30/360 and 30E/360 are 0 on two different dates exactly from the 30th to the 31st of
-- one month, and exactly there the `f64` is.
use mathlib.Core.Path.{◌≡◌, refl, sym, ◌∙◌, ap}
use Prim.Native.Nat.{ℕ, ◌^◌, ◌≤◌, ◌<◌}
use mathlib.Core.Bool.{Bool, true, false, not, ◌&&◌, true≢false}
use native.Mathlib.Omega.{arith}
use native.Mathlib.Decide.{dec_lt}
use borrow.Author.Tests.{eq-eqb, ne_eqb, eqb-true, eqb-false}
use lib.Dec.{eqb}
use lib.IntN.{ℤ, pos, nat_abs}
use lib.Ieee.{binary64, add, div, of_int, of_bits, eq}
use Rattle.outcome.specs.Outcome.{both}
use Rattle.calendar.specs.dates.Dates.{day_number, is_same}
use Rattle.calendar.specs.declared.dates.Date.{Date}
use Rattle.calendar.proofs.dates.Dates.{IsDate, date-yes}
use Rattle.rounding.proofs.Zero.{close_not_zero}
use Rattle.day_fraction.specs.Exact.{Exact, CloseTo, difference, is_zero}
use Rattle.day_fraction.specs.Fractions.{Span, exact_fraction, bits, impossible, counts_thirties, thirties, thirties_bits, years, months, cut, end_day}
use Rattle.day_fraction.specs.declared.SimpleRule.{SimpleRule}
use Rattle.day_fraction.specs.declared.SimpleRule.TheVariants.{Act365, Act360, Act365l, D30_360, D30E360}
use Rattle.day_fraction.proofs.Differences.{diff_of, diff_pos, diff_zero, zero-not}
use Rattle.day_fraction.proofs.Spans.{in_order}
use Rattle.day_fraction.proofs.Adjusted.{Adjusted}
use Rattle.day_fraction.proofs.Bounds.{within, dates_30, dates_30_e_lem}
use Rattle.day_fraction.proofs.Values.{thirty_count, thirties_diff, thirties-up, thirties-same}

-- (0 + 0/12) + 0/360
no_time : {y m d : ℤ} → y ≡ pos 0 → m ≡ pos 0 → d ≡ pos 0 → eq (thirties_bits y m d) (of_bits binary64 0) ≡ true
unfolding eq of_bits of_int div add
no_time p q r = rw (p, q, r)

-- from the 30th to the 31st of one month
pub record Overnight (s e : Date) : Type 0 where
  pub year : s.year ≡ e.year
  pub month : s.month ≡ e.month
  pub start : s.day ≡ 30
  pub end : e.day ≡ 31

module _ (s e : Date) (h : IsDate s) (k : IsDate e) (l : day_number s ≤ day_number e) where
  -- what the two rules have in common, whose adjusted days are a and b
  module _ (a b : ℕ) (A : Adjusted s.day e.day a b) where
    abbrev value : Exact
    value = thirties (years s e) (months s e) (difference b a)

    abbrev zero_on_two : Bool
    zero_on_two = both (is_zero value.num) (not (is_same s e))

    value-zero : thirty_count s a ≡ thirty_count e b → value.num ≡ pos 0
    value-zero q = diff_zero (thirties_diff s e a b) (sym q)

    value_not : thirty_count s a < thirty_count e b → is_zero value.num ≡ false
    value_not i = zero-not (thirties_diff s e a b) (λ q. omega arith)

    -- no 30-day count lies between the two: they are of one month and of one adjusted day
    level : (thirty_count s a < thirty_count e b → ⊥) → (s.year ≡ e.year) × (s.month ≡ e.month) × (a ≡ b)
    level n = thirties-same s e h k l a b A (omega (arith, n, thirties-up s e h k l a b A))

    overnight : Overnight s e → zero_on_two ≡ true
    unfolding is_same
    overnight o =
        rw (
          ap is_zero (value-zero (omega (arith, A.same o.start o.end, o.year, o.month))),
          eq-eqb s.year e.year o.year,
          eq-eqb s.month e.month o.month,
          ne_eqb s.day e.day (λ d. omega (arith, o.start, o.end)),
        )

    otherwise : (Overnight s e → ⊥) → zero_on_two ≡ false
    unfolding is_same
    otherwise n = by (dec_lt (thirty_count s a) (thirty_count e b))
      where
        late : (s.year ≡ e.year) × (s.month ≡ e.month) × (a ≡ b) → s.day < e.day → ⊥
        late o d = let j = A.joined d o.2 in n (record { year = o.0; month = o.1; start = j.0; end = j.1 })

        by : Dec (thirty_count s a < thirty_count e b) → zero_on_two ≡ false
        by (yes i) = rw (value_not i)
        by (no i) =
            let o = level i in
            let d : s.day ≡ e.day = omega (arith, late o, (in_order s e h k l).in_month_lem o.0 o.1) in
            rw (ap is_zero (value-zero (omega (arith, o.0, o.1, o.2))), eq-eqb s.year e.year o.0, eq-eqb s.month e.month o.1, eq-eqb s.day e.day d)

    -- the f64 is 0 exactly where the exact value is
    zero_too : CloseTo (thirties_bits (years s e) (months s e) (difference b a)) value → eq (thirties_bits (years s e) (months s e) (difference b a)) (of_bits binary64 0) ≡ is_zero value.num
    zero_too c = by (dec_lt (thirty_count s a) (thirty_count e b))
      where
        by : Dec (thirty_count s a < thirty_count e b) → eq (thirties_bits (years s e) (months s e) (difference b a)) (of_bits binary64 0) ≡ is_zero value.num
        by (yes i) =
            let n = ap nat_abs (diff_pos (thirties_diff s e a b) (thirties-up s e h k l a b A)) in
            close_not_zero _ (2 ^ 38) value.num 360 c (omega (arith, n)) ∙ sym (value_not i)
        by (no i) =
            let o = level i in
            no_time (diff_zero (diff_of e.year s.year) (sym o.0)) (diff_zero (diff_of e.month s.month) (sym o.1)) (diff_zero (diff_of b a) (sym o.2))
            ∙ sym (ap is_zero (value-zero (omega (arith, o.0, o.1, o.2))))

  -- ---- for the two rules
  pub impossible-yes : (rule : SimpleRule) → counts_thirties rule ≡ true → Overnight s e → impossible rule s e ≡ true
  unfolding impossible exact_fraction
  impossible-yes Act365 r o = absurd (true≢false (sym r))
  impossible-yes Act360 r o = absurd (true≢false (sym r))
  impossible-yes Act365l r o = absurd (true≢false (sym r))
  impossible-yes D30_360 r o = overnight (cut s.day) (end_day s.day e.day) (dates_30 s e h k) o
  impossible-yes D30E360 r o = overnight (cut s.day) (cut e.day) (dates_30_e_lem s e h k) o

  pub impossible_no : (rule : SimpleRule) → (counts_thirties rule ≡ true → Overnight s e → ⊥) → impossible rule s e ≡ false
  unfolding impossible exact_fraction
  impossible_no Act365 n = refl
  impossible_no Act360 n = refl
  impossible_no Act365l n = refl
  impossible_no D30_360 n = otherwise (cut s.day) (end_day s.day e.day) (dates_30 s e h k) (n refl)
  impossible_no D30E360 n = otherwise (cut s.day) (cut e.day) (dates_30_e_lem s e h k) (n refl)

  -- the code's test x == 0.0 of the f64 holds exactly where the exact value is 0
  pub zero-f64 : (rule : SimpleRule) → counts_thirties rule ≡ true → eq (bits rule s e) (of_bits binary64 0) ≡ is_zero (exact_fraction rule s e).num
  unfolding bits exact_fraction
  zero-f64 Act365 r = absurd (true≢false (sym r))
  zero-f64 Act360 r = absurd (true≢false (sym r))
  zero-f64 Act365l r = absurd (true≢false (sym r))
  zero-f64 D30_360 r = zero_too (cut s.day) (end_day s.day e.day) (dates_30 s e h k) (within s e h k D30_360)
  zero-f64 D30E360 r = zero_too (cut s.day) (cut e.day) (dates_30_e_lem s e h k) (within s e h k D30E360)

  -- finql's test for its refusal, yf == 0. && start != end, is the paper's
  pub as_the_rust : (rule : SimpleRule) → counts_thirties rule ≡ true → both (eq (bits rule s e) (of_bits binary64 0)) (not (is_same s e)) ≡ impossible rule s e
  unfolding impossible
  as_the_rust rule r = rw (zero-f64 rule r, r)

-- a test that holds exactly from the 30th to the 31st of one month decides both rules
pub decides : (s e : Date) → Span s e → (b : Bool) → (b ≡ true → Overnight s e) → (b ≡ false → Overnight s e → ⊥) → (b ≡ impossible D30_360 s e) × (b ≡ impossible D30E360 s e)
decides s e p b y n = (by D30_360 refl b y n, by D30E360 refl b y n)
  where
    by : (rule : SimpleRule) → counts_thirties rule ≡ true → (b : Bool) → (b ≡ true → Overnight s e) → (b ≡ false → Overnight s e → ⊥) → b ≡ impossible rule s e
    by rule r true y n = sym (impossible-yes s e (date-yes s p.first) (date-yes e p.last) p.order rule r (y refl))
    by rule r false y n = sym (impossible_no s e (date-yes s p.first) (date-yes e p.last) p.order rule (λ q. n refl))

-- both rules are decided by four tests
abbrev pub is_overnight : Date → Date → Bool
is_overnight s e = eqb s.day 30 && (eqb e.day 31 && (eqb s.month e.month && eqb s.year e.year))

module _ (s e : Date) (p : Span s e) where
  by_tests : (rule : SimpleRule) → counts_thirties rule ≡ true → impossible rule s e ≡ is_overnight s e
  by_tests rule r = by (eqb s.day 30) (eqb e.day 31) (eqb s.month e.month) (eqb s.year e.year) refl refl refl refl
    where
      no : ((Overnight s e) → ⊥) → impossible rule s e ≡ false
      no n = impossible_no s e (date-yes s p.first) (date-yes e p.last) p.order rule (λ q. n)

      by : (a b c d : Bool) → eqb s.day 30 ≡ a → eqb e.day 31 ≡ b → eqb s.month e.month ≡ c → eqb s.year e.year ≡ d → impossible rule s e ≡ a && (b && (c && d))
      by false b c d i j k l = no (λ o. eqb-false _ _ i o.start)
      by true false c d i j k l = no (λ o. eqb-false _ _ j o.end)
      by true true false d i j k l = no (λ o. eqb-false _ _ k o.month)
      by true true true false i j k l = no (λ o. eqb-false _ _ l o.year)
      by true true true true i j k l = impossible-yes s e (date-yes s p.first) (date-yes e p.last) p.order rule r (record { year = eqb-true _ _ l; month = eqb-true _ _ k; start = eqb-true _ _ i; end = eqb-true _ _ j })

  pub overnight_360 : impossible D30_360 s e ≡ is_overnight s e
  overnight_360 = by_tests D30_360 refl

  pub overnight_e360 : impossible D30E360 s e ≡ is_overnight s e
  overnight_e360 = by_tests D30E360 refl
