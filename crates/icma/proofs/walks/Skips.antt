-- Many steps at once leave the same walk to be made: from a day that no month cuts, each step but
-- moves the month's number.
use Prim.Native.Nat.{ℕ, zero, suc, ◌+◌, ◌-◌, ◌*◌, ◌/◌, ◌%◌, ◌≤◌, ◌<◌}
use mathlib.Core.Path.{◌≡◌, refl, sym, ◌∙◌, ap, ap₂}
use mathlib.Core.Bool.{Bool, true, false, false≢true}
use native.Mathlib.Omega.{arith}
use native.Mathlib.Nat.{le_trans, suc-mul, mul-le-mul_right, div-mul-le_self}
use lib.Dec.{eqb}
use lib.IntN.{ℤ, pos, negsuc, nat_abs, ◌+ℤ◌}
use lib.Signed.{lt_z}
use borrow.Author.Tests.{ltb-true, le-ltb, leb-true, eqb-false, ne_eqb}
use Rattle.outcome.specs.Outcome.{Outcome, given, pick}
use Rattle.outcome.proofs.Outcomes.{both_true}
use Rattle.calendar.specs.dates.Dates.{is_date, is_before, month_index, month_date}
use Rattle.calendar.specs.declared.dates.Date.{Date}
use Rattle.calendar.proofs.dates.Dates.{date-yes}
use Rattle.calendar.proofs.dates.Order.{month_date_lem, month_order, index_to, days-before, days_not_before}
use Rattle.date_step.specs.Steps.{months_later}
use Rattle.time_period.specs.steps.Steps.{absent, unit_step}
use Rattle.time_period.specs.declared.steps.TimePeriod.{TimePeriod}
use Rattle.time_period.specs.declared.steps.TimePeriodUnit.{TimePeriodUnit}
use Rattle.time_period.specs.declared.steps.TimePeriodUnit.TheVariants.{Daily, BusinessDaily, Weekly, Monthly, Annual}
use Rattle.icma.specs.walks.Walks.{step, walk, from, turn_on, turn_back}
use Rattle.icma.specs.walks.Ways.{leads, is_past, left, turned}
use Rattle.icma.specs.walks.Skips.{is_months, is_uncut, gap, moved, leap}
use Rattle.icma.specs.declared.walks.Walked.{Walked}
use Rattle.time_period.proofs.steps.Signs.{above}
use Rattle.icma.proofs.walks.Walking.{Turned, turned_leads, near, walk_on_turn}
use Rattle.date_step.proofs.Steps.{months-to}
use Rattle.icma.proofs.walks.Laws.{uncut}

-- a walk that stands at w is the walk from t, and has counted no more than the days it passed
pub record OnTheWay (more : Date → Bool) (turn : Walked → Outcome Walked) (φ : Date → ℕ) (t : Date) (w : Walked) : Type 0 where
  pub dated : is_date w.at ≡ true
  pub counted : w.count + φ w.at ≤ φ t
  pub same : walk 3652060 more turn w ≡ walk 3652060 more turn (from t)

-- turns one after another
module _ (more : Date → Bool) (turn : Walked → Outcome Walked) (φ : Date → ℕ) (leads : (w v : Walked) → is_date w.at ≡ true → turn w ≡ given v → Turned φ w v) (near : (u : Date) → is_date u ≡ true → φ u < 3652060) (t : Date) (d : is_date t ≡ true) where
  stands : OnTheWay more turn φ t (from t)
  stands = record { dated = d; counted = omega arith; same = refl }

  turns : (s : ℕ → Walked) → s 0 ≡ from t → (k : ℕ) → ((j : ℕ) → j < k → (more (s j).at ≡ true) × (turn (s j) ≡ given (s (suc j)))) → OnTheWay more turn φ t (s k)
  turns s z zero h = rw z stands
  turns s z (suc k) h =
      let r = turns s z k (λ j l. h j (omega arith)) in
      let q = h k (omega arith) in
      let v = leads (s k) (s (suc k)) r.dated q.1 in
      record {
        dated = v.dated;
        counted = omega (arith, v.nearer, v.counted, r.counted);
        same = walk_on_turn more turn φ leads 3652060 (s k) (s (suc k)) r.dated (near (s k).at r.dated) q.0 q.1 ∙ r.same;
      }

-- the month and the day of a date make it
made_up : (t : Date) → is_date t ≡ true → month_date (month_index t) t.day ≡ t
unfolding month_date
made_up t d =
    let h = date-yes t d in
    let y : month_index t / 12 + 1 ≡ t.year = omega (arith, h.year_from, h.month_from, h.month_to) in
    let m : month_index t % 12 + 1 ≡ t.month = omega (arith, h.year_from, h.month_from, h.month_to) in
    rw (y, m) (ap {B = Date} (λ (x : ℕ). record { year = t.year; month = t.month; day = x }) (omega (arith, h.day-to)))

-- a step of months
months-step : (p : TimePeriod) (t : Date) (i : ℕ) → is_months p.unit ≡ true → pos (month_index t) +ℤ p.num ≡ pos i → i ≤ 119987 → step p t ≡ given (month_date i t.day)
months-step p t i u q l = by p.unit u ∙ months-to t p.num i q l
  where
    by : (u : TimePeriodUnit) → is_months u ≡ true → unit_step u p.num absent t ≡ months_later t p.num
    by Daily h = absurd (false≢true h)
    by BusinessDaily h = absurd (false≢true h)
    by Weekly h = absurd (false≢true h)
    by Monthly h = refl
    by Annual h = absurd (false≢true h)

-- between two months of one day that no month cuts
uncut_step : (p : TimePeriod) (i j d : ℕ) → is_months p.unit ≡ true → 1 ≤ d → d ≤ 28 → i ≤ 119987 → j ≤ 119987 → pos i +ℤ p.num ≡ pos j → step p (month_date i d) ≡ given (month_date j d)
uncut_step p i j d u f h l m q =
    months-step p (month_date i d) j u (ap (λ (x : ℕ). pos x +ℤ p.num) (month_date_lem i d f l).index ∙ q) m ∙ ap (λ (x : ℕ). given (month_date j x)) (uncut i d f h l)

-- the date of an earlier month is before one of a later month, which is not before it
in_order : (i d : ℕ) (t : Date) → 1 ≤ d → is_date t ≡ true → i < month_index t → (is_before (month_date i d) t ≡ true) × (is_before t (month_date i d) ≡ false)
in_order i d t f h l =
    let k = date-yes t h in
    let s = month_date_lem i d f (omega (arith, index_to t k)) in
    let o = month_order (month_date i d) t s.dated k (omega (arith, s.index)) in
    (days-before (month_date i d) t s.dated k o, days_not_before t (month_date i d) k s.dated (omega arith))

in_order_back : (i d : ℕ) (t : Date) → 1 ≤ d → i ≤ 119987 → is_date t ≡ true → month_index t < i → (is_before t (month_date i d) ≡ true) × (is_before (month_date i d) t ≡ false)
in_order_back i d t f m h l =
    let k = date-yes t h in
    let s = month_date_lem i d f m in
    let o = month_order t (month_date i d) k s.dated (omega (arith, s.index)) in
    (days-before t (month_date i d) k s.dated o, days_not_before (month_date i d) t s.dated k (omega arith))

-- a number below zero, added
taken_off : (z : ℤ) (a b : ℕ) → lt_z z (pos 0) ≡ true → b + nat_abs z ≡ a → pos a +ℤ z ≡ pos b
taken_off (pos n) a b h e = absurd (omega (arith, ltb-true n 0 h))
taken_off (negsuc n) a b h e = rw (le-ltb a (suc n) (omega arith)) (ap pos (omega arith))

fewer : (n j k : ℕ) → j < k → j * n + n ≤ k * n
fewer n j k h =
    let l : suc j ≤ k = omega arith in
    omega (arith, mul-le-mul_right n l, suc-mul j n)

-- what is left of a number t above a limit l, after x and then n are taken off
record Fallen (l t x n : ℕ) : Type 0 where
  before : l < t - x
  after : l < t - x - n
  most : t - x ≤ t
  less : t - x - n ≤ t
  back : t - x - n + n ≡ t - x
  both : t - x - n ≡ t - (x + n)

fallen : (l t x n : ℕ) → l + (x + n) < t → Fallen l t x n
fallen l t x n h = record { before = omega arith; after = omega arith; most = omega arith; less = omega arith; back = omega arith; both = omega arith }

-- no month moved
not_moved : (way : Bool) (i n : ℕ) → moved way i (0 * n) ≡ i
not_moved true i n = omega arith
not_moved false i n = omega arith

module _ (p : TimePeriod) (limit t : Date) (d : is_date t ≡ true) (dl : is_date limit ≡ true) where
  abbrev n : ℕ
  n = nat_abs p.num

  from_1 : 1 ≤ t.day
  from_1 = (date-yes t d).day-from

  -- where it stands after k steps
  stood : Bool → ℕ → Walked
  stood way k = record { at = month_date (moved way (month_index t) (k * n)) t.day; count = k }

  first : (way : Bool) → stood way 0 ≡ from t
  unfolding stood
  first way = ap {B = Walked} (λ (x : Date). record { at = x; count = 0 }) (ap (λ (i : ℕ). month_date i t.day) (not_moved way (month_index t) n) ∙ made_up t d)

  module _ (u : is_months p.unit ≡ true) (low : t.day ≤ 28) where
    one : (way : Bool) → leads way p.num ≡ true → (j : ℕ) → j * n + n < gap way (month_index t) (month_index limit) → (is_past way limit (stood way j).at ≡ true) × (turned way p limit (stood way j) ≡ given (stood way (suc j)))
    unfolding turn_on turn_back stood
    one true sign j h =
        let i = month_index t + j * n in
        let m = index_to limit (date-yes limit dl) in
        let e : i + n ≡ month_index t + suc j * n = omega (arith, suc-mul j n) in
        let s = uncut_step p i (i + n) t.day u from_1 low (omega arith) (omega arith) (ap (λ (z : ℤ). pos i +ℤ z) (above p.num sign).0) in
        let b = in_order i t.day limit from_1 dl (omega arith) in
        let c = in_order (i + n) t.day limit from_1 dl (omega arith) in
        (b.0, rw (s, c.1) (ap₂ {C = Outcome Walked} (λ (x y : ℕ). given (record { at = month_date x t.day; count = y })) e (omega arith)))
    one false sign j h =
        let i = month_index t - j * n in
        let r = fallen (month_index limit) (month_index t) (j * n) n (omega arith) in
        let m = index_to t (date-yes t d) in
        let f : i ≤ 119987 = le_trans r.most m in
        let g : i - n ≤ 119987 = le_trans r.less m in
        let e : i - n ≡ month_index t - suc j * n = r.both ∙ ap (λ (x : ℕ). month_index t - x) (sym (suc-mul j n)) in
        let s = uncut_step p i (i - n) t.day u from_1 low f g (taken_off p.num i (i - n) sign r.back) in
        let b = in_order_back i t.day limit from_1 f dl r.before in
        let c = in_order_back (i - n) t.day limit from_1 g dl r.after in
        (b.0, rw (s, c.1) (ap₂ {C = Outcome Walked} (λ (x y : ℕ). given (record { at = month_date x t.day; count = y })) e (omega arith)))

    leapt : (way : Bool) → leads way p.num ≡ true → (k : ℕ) → k * n < gap way (month_index t) (month_index limit) → OnTheWay (λ u. is_past way limit u) (turned way p limit) (left way) t (stood way k)
    leapt way sign k l =
        turns (λ u. is_past way limit u) (turned way p limit) (left way) (turned_leads way p limit sign) (near way) t d (stood way) (first way) k
        (λ j h. one way sign j (omega (arith, fewer n j k h)))

  pub on_the_way : (way : Bool) → leads way p.num ≡ true → OnTheWay (λ u. is_past way limit u) (turned way p limit) (left way) t (leap way p limit t)
  unfolding leap stood
  on_the_way way sign = by (is_uncut p t) refl (eqb g 0) refl
    where
      g : ℕ
      g = gap way (month_index t) (month_index limit)

      k : ℕ
      k = (g - 1) / n

      still : OnTheWay (λ u. is_past way limit u) (turned way p limit) (left way) t (from t)
      still = stands (λ u. is_past way limit u) (turned way p limit) (left way) (turned_leads way p limit sign) (near way) t d

      by : (b : Bool) → is_uncut p t ≡ b → (c : Bool) → eqb g 0 ≡ c → OnTheWay (λ u. is_past way limit u) (turned way p limit) (left way) t (pick b (pick c (from t) (record { at = month_date (moved way (month_index t) (k * n)) t.day; count = k })) (from t))
      by true e true q = still
      by true e false q =
          let z : g ≡ 0 → ⊥ = eqb-false g 0 q in
          let l : k * n < g = omega (arith, div-mul-le_self (g - 1) n) in
          let a = both_true _ _ e in
          leapt a.0 (leb-true t.day 28 a.1) way sign k l
      by false e c q = still

-- what the code finds of the months h and k of the two dates
module _ (way : Bool) (p : TimePeriod) (limit t : Date) (h k g : ℕ) (e : h ≡ month_index t) (f : k ≡ month_index limit) (m : g ≡ gap way h k) where
  pub leap_none : is_uncut p t ≡ true → g ≡ 0 → from t ≡ leap way p limit t
  unfolding leap
  leap_none u z = rw (u, ← e, ← f, ← m, z)

  pub leap_some : is_uncut p t ≡ true → (g ≡ 0 → ⊥) → (n : ℕ) → n ≡ nat_abs p.num → (u : Date) → u ≡ month_date (moved way h ((g - 1) / n * n)) t.day
      → ◌≡◌ {A = Walked} (record { at = u; count = (g - 1) / n }) (leap way p limit t)
  unfolding leap
  leap_some u z n l v q = rw (q, u, ← e, ← f, ← m, ← l, ne_eqb g 0 z)
