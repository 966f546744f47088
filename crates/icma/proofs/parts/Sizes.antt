-- How large the parts are: a broken part is little more than a period, and the count is that of the
-- calendar's months.
use Prim.Native.Nat.{ℕ, ◌+◌, ◌-◌, ◌*◌, ◌≤◌, ◌<◌}
use mathlib.Core.Path.{◌≡◌, refl, sym, ◌∙◌, ap, subst}
use mathlib.Core.Bool.{Bool, true, false, true≢false}
use native.Mathlib.Omega.{arith}
use native.Mathlib.Nat.{mul-le-mul_left, mul-add, mul-zero}
use lib.IntN.{ℤ, pos, neg_ℤ, nat_abs, ◌-ℤ◌}
use lib.Signed.{lt_z}
use Rattle.std.specs.Prelude.{Option, Some, None}
use Rattle.outcome.specs.Outcome.{given, and_then, pick}
use Rattle.outcome.proofs.Outcomes.{given_injective, then_given}
use Rattle.rounding.proofs.Difference.{abs_gap}
use Rattle.calendar.specs.dates.Dates.{is_date, is_before, day_number, month_index}
use Rattle.calendar.specs.declared.dates.Date.{Date}
use Rattle.calendar.proofs.dates.Dates.{IsDate, date-yes, number-to}
use Rattle.calendar.proofs.dates.Order.{same_month, one_month, before-days, index_to}
use Rattle.time_period.specs.steps.Steps.{absent, unit_step}
use Rattle.icma.specs.walks.Walks.{from}
use Rattle.icma.specs.walks.Ways.{left}
use Rattle.icma.specs.parts.Walk.{step, negated, walk, turn_on, walk_on, turn_back, walk_back, base_from, short_parts, first_part, last_part, to_last, to_end, to_first, long_parts, parts_from, icma_parts}
use Rattle.time_period.specs.declared.steps.TimePeriod.{TimePeriod}
use Rattle.time_period.specs.declared.steps.TimePeriodUnit.{TimePeriodUnit}
use Rattle.time_period.specs.declared.steps.TimePeriodUnit.TheVariants.{Daily, BusinessDaily, Weekly, Monthly, Annual}
use Rattle.icma.specs.declared.walks.Walked.{Walked}
use Rattle.icma.specs.declared.parts.Part.{Part}
use Rattle.icma.specs.declared.parts.Parts.{Parts}
use Rattle.icma.specs.declared.parts.Parts.TheVariants.{Short, Long}
use Rattle.calendar.proofs.gregorian.Months.{at_most}
use Rattle.time_period.proofs.steps.Steps.{months-step, years-step}
use Rattle.time_period.proofs.steps.Frequencies.{months_in}
use Rattle.icma.proofs.walks.Walking.{LastTurn, none_made, made, last_turn, walk_keeps, walk_ends, turn_on_leads, turn_back_leads, on_ends, back_ends}
use Rattle.time_period.proofs.steps.Signs.{negative_back, moved_by, moved_back_by}
use Rattle.time_period.proofs.steps.Steps.{step-later, step_earlier}

-- two dates of one month are at most 30 days apart
near_in_month : (t u : Date) → IsDate t → IsDate u → month_index t ≡ month_index u → day_number t ≤ day_number u + 30
near_in_month t u h k e =
    let o = one_month t u h k e in
    omega (arith, same_month t u h k o.0 o.1, h.day-to, k.day-from, at_most t.year t.month)

-- a step of n months or years moves the month's number by as many months, forward and back
years_index : (y z m : ℕ) (n : ℕ) → 1 ≤ y → y + n ≡ z → 12 * (y - 1) + m + 12 * n ≡ 12 * (z - 1) + m
years_index y z m n h e = omega arith

unit-on : (u : TimePeriodUnit) (n : ℕ) (t v : Date) → is_date t ≡ true → 1 ≤ months_in u n → unit_step u (pos n) absent t ≡ given v → month_index t + months_in u n ≡ month_index v
unit-on Daily n t v d h e = absurd (omega arith)
unit-on BusinessDaily n t v d h e = absurd (omega arith)
unit-on Weekly n t v d h e = absurd (omega arith)
unit-on Monthly n t v d h e = moved_by (month_index t) (month_index v) n (months-step (pos n) t v d e).index
unit-on Annual n t v d h e =
    let s = years-step (pos n) t v d e in
    let y : t.year + n ≡ v.year = moved_by t.year v.year n s.year in
    let m : v.month ≡ t.month = s.month in
    years_index t.year v.year (t.month - 1) n s.from.year_from y ∙ ap (λ (k : ℕ). 12 * (v.year - 1) + (k - 1)) (sym m)

unit_back : (u : TimePeriodUnit) (n : ℕ) (t v : Date) → is_date t ≡ true → 1 ≤ months_in u n → unit_step u (neg_ℤ (pos n)) absent t ≡ given v → month_index v + months_in u n ≡ month_index t
unit_back Daily n t v d h e = absurd (omega arith)
unit_back BusinessDaily n t v d h e = absurd (omega arith)
unit_back Weekly n t v d h e = absurd (omega arith)
unit_back Monthly n t v d h e = moved_back_by (month_index t) (month_index v) n (months-step (neg_ℤ (pos n)) t v d e).index
unit_back Annual n t v d h e =
    let s = years-step (neg_ℤ (pos n)) t v d e in
    let y : v.year + n ≡ t.year = moved_back_by t.year v.year n s.year in
    let m : v.month ≡ t.month = s.month in
    years_index v.year t.year (v.month - 1) n s.dated.year_from y ∙ ap (λ (k : ℕ). 12 * (t.year - 1) + (k - 1)) m

walk_back_is : (p : TimePeriod) (limit t : Date) → walk 3652060 (λ u. is_before limit u) (turn_back (negated p) limit) (from t) ≡ walk_back (negated p) limit t
unfolding walk_back
walk_back_is p limit t = refl

-- how large each part may be
abbrev pub BrokenSize : Option Part → Type 0
BrokenSize None = 0 < 1
BrokenSize (Some x) = (1 ≤ x.length) × (x.length ≤ 3652059) × (nat_abs x.days ≤ x.length + 30)

abbrev pub PartsSize : ℕ → Parts → Type 0
PartsSize m (Short days l) = (1 ≤ l) × (l ≤ 3652059) × (days ≤ l + 30)
PartsSize m (Long first last count) = BrokenSize first × BrokenSize last × (m * count ≤ 119987)

module _ (p : TimePeriod) (n : ℕ) (is : p.num ≡ pos n) (some : 1 ≤ months_in p.unit n) (above : lt_z (pos 0) p.num ≡ true) where
  on_index : (t v : Date) → is_date t ≡ true → step p t ≡ given v → month_index t + months_in p.unit n ≡ month_index v
  on_index t v d e = unit-on p.unit n t v d some (ap (λ (z : ℤ). unit_step p.unit z absent t) (sym is) ∙ e)

  back_index : (t v : Date) → is_date t ≡ true → step (negated p) t ≡ given v → month_index v + months_in p.unit n ≡ month_index t
  back_index t v d e = unit_back p.unit n t v d some (ap (λ (z : ℤ). unit_step p.unit (neg_ℤ z) absent t) (sym is) ∙ e)

  below : lt_z (negated p).num (pos 0) ≡ true
  below = negative_back p.num above

  -- the date before the last of a walk
  before_on : (limit : Date) (x v : Walked) → turn_on p limit x ≡ given v → step p x.at ≡ given v.at
  unfolding turn_on
  before_on limit x v e =
      let g = then_given (step p x.at) (λ u. given (record { at = u; count = pick (is_before limit u) x.count (x.count + 1) })) v e in
      let q : ◌≡◌ {A = Walked} (record { at = g.0; count = pick (is_before limit g.0) x.count (x.count + 1) }) v = given_injective g.2 in
      g.1 ∙ ap (λ (w : Walked). given w.at) q

  before_back : (limit : Date) (x v : Walked) → turn_back (negated p) limit x ≡ given v → step (negated p) x.at ≡ given v.at
  unfolding turn_back
  before_back limit x v e =
      let g = then_given (step (negated p) x.at) (λ u. given (record { at = u; count = pick (is_before u limit) x.count (x.count + 1) })) v e in
      let q : ◌≡◌ {A = Walked} (record { at = g.0; count = pick (is_before g.0 limit) x.count (x.count + 1) }) v = given_injective g.2 in
      g.1 ∙ ap (λ (w : Walked). given w.at) q

  -- a walk back that went past: it stood at a date after the limit, one step on from where it ends
  -- but for the day
  past_back : (limit t : Date) (v : Walked) → is_date t ≡ true → is_before t limit ≡ false → is_before v.at limit ≡ true → walk_back (negated p) limit t ≡ given v
      → (x : Date) × (is_date x ≡ true) × (is_before limit x ≡ true) × (step (negated p) x ≡ given v.at)
  unfolding walk_back
  past_back limit t v d h k e =
      by (last_turn (λ u. is_before limit u) (turn_back (negated p) limit) (left false) (turn_back_leads (negated p) limit below) 3652060 (from t) v d e)
    where
      by : LastTurn (λ u. is_before limit u) (turn_back (negated p) limit) (from t) v → (x : Date) × (is_date x ≡ true) × (is_before limit x ≡ true) × (step (negated p) x ≡ given v.at)
      by (none_made q) = absurd (true≢false (sym k ∙ ap (λ (w : Walked). is_before w.at limit) (sym q) ∙ h))
      by (made x i j l) = (x.at, i, j, before_back limit x v l)

  -- a walk on that went past
  past-on : (limit t : Date) (v : Walked) → is_date t ≡ true → is_before limit t ≡ false → is_before limit v.at ≡ true → walk_on p limit t ≡ given v
      → (x : Date) × (is_date x ≡ true) × (is_before x limit ≡ true) × (step p x ≡ given v.at)
  unfolding walk_on
  past-on limit t v d h k e =
      by (last_turn (λ u. is_before u limit) (turn_on p limit) (left true) (turn_on_leads p limit above) 3652060 (from t) v d e)
    where
      by : LastTurn (λ u. is_before u limit) (turn_on p limit) (from t) v → (x : Date) × (is_date x ≡ true) × (is_before x limit ≡ true) × (step p x ≡ given v.at)
      by (none_made q) = absurd (true≢false (sym k ∙ ap (λ (w : Walked). is_before limit w.at) (sym q) ∙ h))
      by (made x i j l) = (x.at, i, j, before_on limit x v l)

  first-size : (start base : Date) (b : Walked) (x : Option Part) → is_date start ≡ true → is_date base ≡ true → is_before base start ≡ false → walk_back (negated p) start base ≡ given b → first_part p start b.at ≡ given x → BrokenSize x
  unfolding first_part
  first-size start base b x ds db h w e = by (is_before b.at start) refl e
    where
      by : (c : Bool) → is_before b.at start ≡ c → pick c (and_then (step p b.at) (λ u. given (Some (record { days = pos (day_number u) -ℤ pos (day_number start); length = day_number u - day_number b.at })))) (given None) ≡ given x → BrokenSize x
      by false k e = subst BrokenSize (given_injective e) (omega arith)
      by true k e =
          let end = back_ends (negated p) start base b db below w in
          let g = then_given (step p b.at) (λ u. given (Some (record { days = pos (day_number u) -ℤ pos (day_number start); length = day_number u - day_number b.at }))) x e in
          let u = g.0 in
          let y = past_back start base b db h k w in
          let s = step-later p b.at u end.0.dated above g.1 in
          let i : month_index y.0 ≡ month_index u = sym (back_index y.0 b.at y.1 y.3) ∙ on_index b.at u end.0.dated g.1 in
          let near = near_in_month y.0 u (date-yes y.0 y.1) (date-yes u s.0) i in
          let past = before-days start y.0 (date-yes start ds) (date-yes y.0 y.1) y.2 in
          let first = before-days b.at start (date-yes b.at end.0.dated) (date-yes start ds) k in
          subst BrokenSize (given_injective g.2)
          (omega (arith, s.1), omega (arith, number-to u (date-yes u s.0)), abs_gap (day_number u) (day_number start) (day_number u - day_number b.at + 30) (omega (arith, s.1)) (omega (arith, s.1)))

  last-size : (end base : Date) (e : Walked) (x : Option Part) → is_date end ≡ true → is_date base ≡ true → is_before end base ≡ false → walk_on p end base ≡ given e → last_part (negated p) end e.at ≡ given x → BrokenSize x
  unfolding last_part
  last-size end base v x ds db h w e = by (is_before end v.at) refl e
    where
      by : (c : Bool) → is_before end v.at ≡ c → pick c (and_then (step (negated p) v.at) (λ s. given (Some (record { days = pos (day_number end) -ℤ pos (day_number s); length = day_number v.at - day_number s })))) (given None) ≡ given x → BrokenSize x
      by false k e = subst BrokenSize (given_injective e) (omega arith)
      by true k e =
          let stop = on_ends p end base v db above w in
          let g = then_given (step (negated p) v.at) (λ s. given (Some (record { days = pos (day_number end) -ℤ pos (day_number s); length = day_number v.at - day_number s }))) x e in
          let u = g.0 in
          let y = past-on end base v db h k w in
          let s = step_earlier (negated p) v.at u stop.0.dated below g.1 in
          let i : month_index u + months_in p.unit n ≡ month_index y.0 + months_in p.unit n = back_index v.at u stop.0.dated g.1 ∙ sym (on_index y.0 v.at y.1 y.3) in
          let near = near_in_month u y.0 (date-yes u s.0) (date-yes y.0 y.1) (omega arith) in
          let past = before-days y.0 end (date-yes y.0 y.1) (date-yes end ds) y.2 in
          let last = before-days end v.at (date-yes end ds) (date-yes v.at stop.0.dated) k in
          let f = number-to v.at (date-yes v.at stop.0.dated) in
          subst BrokenSize (given_injective g.2)
          (omega (arith, s.1), omega arith, abs_gap (day_number end) (day_number u) (day_number v.at - day_number u + 30) (omega (arith, s.1)) (omega (arith, s.1)))

  short_size : (start end roll : Date) (b : Walked) (x : Parts) → is_date start ≡ true → is_date end ≡ true → is_date roll ≡ true → is_before b.at start ≡ true
      → base_from p (negated p) start end roll ≡ given b → short_parts p start end b.at ≡ given x → PartsSize (months_in p.unit n) x
  unfolding base_from short_parts
  short_size start end roll b x ds de dr k w e =
      let r = then_given (walk_on p start roll) (λ a. walk_back (negated p) end a.at) b w in
      let a = on_ends p start roll r.0 dr above r.1 in
      let stop = back_ends (negated p) end r.0.at b a.0.dated below r.2 in
      let g = then_given (step p b.at) (λ u. given (Short (day_number end - day_number start) (day_number u - day_number b.at))) x e in
      let u = g.0 in
      let s = step-later p b.at u stop.0.dated above g.1 in
      let first = before-days b.at start (date-yes b.at stop.0.dated) (date-yes start ds) k in
      let f = number-to u (date-yes u s.0) in
      subst (PartsSize (months_in p.unit n)) (given_injective g.2)
      (omega (arith, s.1), omega arith, by (last_turn (λ u. is_before end u) (turn_back (negated p) end) (left false) (turn_back_leads (negated p) end below) 3652060 (from r.0.at) b a.0.dated (walked r.0.at r.2)) r.0.at a.1 u stop.0.dated s.0 s.1 g.1 first refl)
    where
      walked : (t : Date) → walk_back (negated p) end t ≡ given b → walk 3652060 (λ u. is_before end u) (turn_back (negated p) end) (from t) ≡ given b
      walked t e = walk_back_is p end t ∙ e

      by : {z : Walked} → LastTurn (λ u. is_before end u) (turn_back (negated p) end) z b → (t : Date) → is_before t start ≡ false → (u : Date) → is_date b.at ≡ true → is_date u ≡ true → day_number b.at < day_number u → step p b.at ≡ given u → day_number b.at < day_number start → z.at ≡ t
          → day_number end - day_number start ≤ day_number u - day_number b.at + 30
      by (none_made q) t h u db du l g f z = absurd (true≢false (sym k ∙ ap (λ (w : Walked). is_before w.at start) (sym q) ∙ ap (λ (d : Date). is_before d start) z ∙ h))
      by (made y i j m) t h u db du l g f z =
          let v = before_back end y b m in
          let x : month_index y.at ≡ month_index u = sym (back_index y.at b.at i v) ∙ on_index b.at u db g in
          let near = near_in_month y.at u (date-yes y.at i) (date-yes u du) x in
          let past = before-days end y.at (date-yes end de) (date-yes y.at i) j in
          omega arith

  -- the count, times the months of a period, is at most the months walked

  times : (k c d : ℕ) → c ≤ d + 1 → k * c ≤ k * d + k
  times k c d h = omega (arith, mul-le-mul_left k h, mul-add k d 1)

  back_counts : (limit t : Date) (v : Walked) → is_date t ≡ true → walk_back (negated p) limit t ≡ given v → months_in p.unit n * v.count + month_index v.at ≤ month_index t
  unfolding walk_back
  back_counts limit t v d e =
      let k = walk_keeps (λ u. is_before limit u) (turn_back (negated p) limit) (λ w. months_in p.unit n * w.count + month_index w.at) keeps 3652060 (from t) v d e in
      omega (arith, k, mul-zero (months_in p.unit n))
    where
      keeps : (w x : Walked) → is_date w.at ≡ true → turn_back (negated p) limit w ≡ given x → (is_date x.at ≡ true) × (months_in p.unit n * x.count + month_index x.at ≤ months_in p.unit n * w.count + month_index w.at)
      keeps w x d e =
          let t = turn_back_leads (negated p) limit below w x d e in
          let i = back_index w.at x.at d (before_back limit w x e) in
          (t.dated, omega (arith, times (months_in p.unit n) x.count w.count t.counted))

  on_counts : (limit t : Date) (v : Walked) → is_date t ≡ true → walk_on p limit t ≡ given v → months_in p.unit n * v.count + month_index t ≤ month_index v.at
  unfolding walk_on
  on_counts limit t v d e =
      let k = walk_keeps (λ u. is_before u limit) (turn_on p limit) (λ w. months_in p.unit n * w.count + (119987 - month_index w.at)) keeps 3652060 (from t) v d e in
      let f = on-dated e in
      omega (arith, k, mul-zero (months_in p.unit n), index_to v.at (date-yes v.at f), index_to t (date-yes t d))
    where
      keeps : (w x : Walked) → is_date w.at ≡ true → turn_on p limit w ≡ given x → (is_date x.at ≡ true) × (months_in p.unit n * x.count + (119987 - month_index x.at) ≤ months_in p.unit n * w.count + (119987 - month_index w.at))
      keeps w x d e =
          let t = turn_on_leads p limit above w x d e in
          let i = on_index w.at x.at d (before_on limit w x e) in
          let m = index_to x.at (date-yes x.at t.dated) in
          (t.dated, omega (arith, times (months_in p.unit n) x.count w.count t.counted))

      on-dated : walk 3652060 (λ u. is_before u limit) (turn_on p limit) (from t) ≡ given v → is_date v.at ≡ true
      on-dated e = (walk_ends (λ u. is_before u limit) (turn_on p limit) (left true) (turn_on_leads p limit above) 3652060 (from t) v d e).dated

  long_size : (start end base : Date) (x : Parts) → is_date start ≡ true → is_date end ≡ true → is_date base ≡ true → is_before base start ≡ false → is_before end base ≡ false
      → long_parts p (negated p) start end base ≡ given x → PartsSize (months_in p.unit n) x
  unfolding long_parts to_first to_end to_last
  long_size start end base x ds de db h k e =
      let q = negated p in
      let b = then_given (walk_back q start base) (to_first p q start end base) x e in
      let f = then_given (first_part p start b.0.at) (to_end p q end base b.0.count) x b.2 in
      let v = then_given (walk_on p end base) (to_last q end f.0 b.0.count) x f.2 in
      let l = then_given (last_part q end v.0.at) (λ last. given (Long f.0 last (b.0.count + v.0.count))) x v.2 in
      let c = back_counts start base b.0 db b.1 in
      let d = on_counts end base v.0 db v.1 in
      let i = index_to v.0.at (date-yes v.0.at (on_ends p end base v.0 db above v.1).0.dated) in
      subst (PartsSize (months_in p.unit n)) (given_injective l.2) (
        first-size start base b.0 f.0 ds db h b.1 f.1,
        last-size end base v.0 l.0 de db k v.1 l.1,
        omega (arith, mul-add (months_in p.unit n) b.0.count v.0.count),
      )

  base_there : (start end roll : Date) (b : Walked) → is_date roll ≡ true → base_from p (negated p) start end roll ≡ given b → (is_date b.at ≡ true) × (is_before end b.at ≡ false)
  unfolding base_from
  base_there start end roll b dr w =
      let r = then_given (walk_on p start roll) (λ a. walk_back (negated p) end a.at) b w in
      let a = on_ends p start roll r.0 dr above r.1 in
      let s = back_ends (negated p) end r.0.at b a.0.dated below r.2 in
      (s.0.dated, s.1)

  -- every part that a walk gives is of this size
  pub parts_size : (start end roll : Date) (x : Parts) → is_date start ≡ true → is_date end ≡ true → is_date roll ≡ true → icma_parts p start end roll ≡ given x → PartsSize (months_in p.unit n) x
  unfolding icma_parts parts_from
  parts_size start end roll x ds de dr e =
      let g = then_given (base_from p (negated p) start end roll) (parts_from p (negated p) start end) x e in
      by g.0 g.1 (is_before g.0.at start) refl g.2
    where
      by : (b : Walked) → base_from p (negated p) start end roll ≡ given b → (c : Bool) → is_before b.at start ≡ c → pick c (short_parts p start end b.at) (long_parts p (negated p) start end b.at) ≡ given x → PartsSize (months_in p.unit n) x
      by b w true h e = short_size start end roll b x ds de dr h w e
      by b w false h e =
          let r = base_there start end roll b dr w in
          long_size start end b.at x ds de r.0 h r.1 e
