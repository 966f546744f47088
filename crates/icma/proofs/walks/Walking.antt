-- A walk ends: each turn leads nearer to an end of the calendar, so the steps allowed are never
-- used up.
use Prim.Native.Nat.{ℕ, ◌+◌, ◌≤◌, ◌<◌}
use mathlib.Core.Path.{◌≡◌, refl, sym, ◌∙◌, ap}
use mathlib.Core.Bool.{Bool, true, false}
use native.Mathlib.Omega.{arith}
use lib.IntN.{pos}
use lib.Signed.{lt_z}
use Rattle.outcome.proofs.Walks.{enough, walk_turn, walk_all}
use Rattle.outcome.specs.Outcome.{Outcome, given, pick}
use Rattle.outcome.proofs.Outcomes.{given_injective, then_given}
use Rattle.calendar.specs.dates.Dates.{is_date, is_before}
use Rattle.calendar.specs.declared.dates.Date.{Date}
use Rattle.calendar.proofs.dates.Dates.{date-yes, date_is, number-to}
use Rattle.time_period.specs.steps.Steps.{absent}
use Rattle.icma.specs.walks.Ways.{leads, is_past, left, turned, walk_from}
use Rattle.icma.specs.walks.Walks.{step, walk, from, turn_on, walk_on, turn_back, walk_back}
use Rattle.time_period.specs.declared.steps.TimePeriod.{TimePeriod}
use Rattle.icma.specs.declared.walks.Walked.{Walked}
use Rattle.time_period.proofs.steps.Steps.{step_leads}

-- what a turn leads to: a date of the calendar, nearer to the end by φ, and at most one more in the
-- count
pub record Turned (φ : Date → ℕ) (w v : Walked) : Type 0 where
  pub dated : is_date v.at ≡ true
  pub nearer : φ v.at < φ w.at
  pub counted : v.count ≤ w.count + 1

-- where a walk ends: a date of the calendar, with no more to go, and no more counted than steps
-- were made
pub record Ended (φ : Date → ℕ) (more : Date → Bool) (w v : Walked) : Type 0 where
  pub dated : is_date v.at ≡ true
  pub there : more v.at ≡ false
  pub counted : v.count + φ v.at ≤ w.count + φ w.at

module _ (more : Date → Bool) (turn : Walked → Outcome Walked) (φ : Date → ℕ) (nears : (w v : Walked) → is_date w.at ≡ true → turn w ≡ given v → Turned φ w v) where
  -- a turn leaves the same walk to be made
  pub walk_on_turn : (k : ℕ) (w v : Walked) → is_date w.at ≡ true → φ w.at < k → more w.at ≡ true → turn w ≡ given v → walk k more turn v ≡ walk k more turn w
  walk_on_turn =
      walk_turn (λ w. more w.at) turn (λ w. is_date w.at ≡ true) (λ w. φ w.at)
      (λ w v d h e. let t = nears w v d e in (t.dated, t.nearer))

  pub walk_ends : (k : ℕ) (w v : Walked) → is_date w.at ≡ true → walk k more turn w ≡ given v → Ended φ more w v
  walk_ends =
      walk_all (λ w. more w.at) turn (λ w. is_date w.at ≡ true) (Ended φ more)
      (λ w d h. record { dated = d; there = h; counted = omega arith })
      (λ w x v d h e. let t = nears w x d e in (t.dated, λ s. record { dated = s.dated; there = s.there; counted = omega (arith, s.counted, t.nearer, t.counted) }))

-- one turn of each walk
picked_more : (b : Bool) (n : ℕ) → pick b n (n + 1) ≤ n + 1
picked_more true n = omega arith
picked_more false n = omega arith

pub turn_on_leads : (p : TimePeriod) (limit : Date) → lt_z (pos 0) p.num ≡ true → (w v : Walked) → is_date w.at ≡ true → turn_on p limit w ≡ given v → Turned (left true) w v
unfolding turn_on
turn_on_leads p limit h w v d e =
    let g = then_given (step p w.at) (λ u. given (record { at = u; count = pick (is_before limit u) w.count (w.count + 1) })) v e in
    let s = step_leads p absent w.at g.0 d g.1 in
    let q : ◌≡◌ {A = Walked} (record { at = g.0; count = pick (is_before limit g.0) w.count (w.count + 1) }) v = given_injective g.2 in
    let l = s.later h in
    let n = number-to g.0 s.dated in
    rw (sym q) (record { dated = date_is g.0 s.dated; nearer = omega arith; counted = picked_more (is_before limit g.0) w.count })

pub turn_back_leads : (q : TimePeriod) (limit : Date) → lt_z q.num (pos 0) ≡ true → (w v : Walked) → is_date w.at ≡ true → turn_back q limit w ≡ given v → Turned (left false) w v
unfolding turn_back
turn_back_leads p limit h w v d e =
    let g = then_given (step p w.at) (λ u. given (record { at = u; count = pick (is_before u limit) w.count (w.count + 1) })) v e in
    let s = step_leads p absent w.at g.0 d g.1 in
    let q : ◌≡◌ {A = Walked} (record { at = g.0; count = pick (is_before g.0 limit) w.count (w.count + 1) }) v = given_injective g.2 in
    rw (sym q) (record { dated = date_is g.0 s.dated; nearer = s.earlier h; counted = picked_more (is_before g.0 limit) w.count })

-- and of either
pub turned_leads : (way : Bool) (p : TimePeriod) (limit : Date) → leads way p.num ≡ true → (w v : Walked) → is_date w.at ≡ true → turned way p limit w ≡ given v → Turned (left way) w v
turned_leads true p limit h = turn_on_leads p limit h
turned_leads false p limit h = turn_back_leads p limit h

-- any date is less than 3652060 days from either end
pub near : (way : Bool) (u : Date) → is_date u ≡ true → left way u < 3652060
near true u h = omega (arith, number-to u (date-yes u h))
near false u h = omega (arith, number-to u (date-yes u h))

-- the 3652060 looks of each walk are never used up: more would change nothing
pub on_enough : (p : TimePeriod) (limit t : Date) (k : ℕ) → is_date t ≡ true → lt_z (pos 0) p.num ≡ true → 3652060 ≤ k → walk k (λ u. is_before u limit) (turn_on p limit) (from t) ≡ walk_on p limit t
unfolding walk_on
on_enough p limit t k d h l =
    enough (λ w. is_before w.at limit) (turn_on p limit) (λ w. is_date w.at ≡ true) (λ w. left true w.at) (λ w v e m q. let s = turn_on_leads p limit h w v e q in (s.dated, s.nearer)) k 3652060 (from t) d (omega arith) (omega arith)

pub back_enough : (q : TimePeriod) (limit t : Date) (k : ℕ) → is_date t ≡ true → lt_z q.num (pos 0) ≡ true → 3652060 ≤ k → walk k (λ u. is_before limit u) (turn_back q limit) (from t) ≡ walk_back q limit t
unfolding walk_back
back_enough q limit t k d h l =
    enough (λ w. is_before limit w.at) (turn_back q limit) (λ w. is_date w.at ≡ true) (λ w. left false w.at) (λ w v e m u. let s = turn_back_leads q limit h w v e u in (s.dated, s.nearer)) k 3652060 (from t) d (omega (arith, number-to t (date-yes t d))) (omega (arith, number-to t (date-yes t d)))

-- where each walk ends
pub record End (w : Walked) : Type 0 where
  pub dated : is_date w.at ≡ true
  pub few : w.count ≤ 3652059

pub on_ends : (p : TimePeriod) (limit t : Date) (w : Walked) → is_date t ≡ true → lt_z (pos 0) p.num ≡ true → walk_on p limit t ≡ given w → End w × (is_before w.at limit ≡ false)
unfolding walk_on
on_ends p limit t w d h e =
    let s = walk_ends (λ u. is_before u limit) (turn_on p limit) (left true) (turn_on_leads p limit h) 3652060 (from t) w d e in
    (record { dated = s.dated; few = omega (arith, s.counted) }, s.there)

pub back_ends : (q : TimePeriod) (limit t : Date) (w : Walked) → is_date t ≡ true → lt_z q.num (pos 0) ≡ true → walk_back q limit t ≡ given w → End w × (is_before limit w.at ≡ false)
unfolding walk_back
back_ends q limit t w d h e =
    let s = walk_ends (λ u. is_before limit u) (turn_back q limit) (left false) (turn_back_leads q limit h) 3652060 (from t) w d e in
    (record { dated = s.dated; few = omega (arith, s.counted, number-to t (date-yes t d)) }, s.there)

-- either walk
pub walk_from_is : (way : Bool) (p : TimePeriod) (limit t : Date) → walk 3652060 (λ u. is_past way limit u) (turned way p limit) (from t) ≡ walk_from way p limit t
unfolding walk_on walk_back
walk_from_is true p limit t = refl
walk_from_is false p limit t = refl

pub from_ends : (way : Bool) (p : TimePeriod) (limit t : Date) (w : Walked) → is_date t ≡ true → leads way p.num ≡ true → walk_from way p limit t ≡ given w → End w
from_ends true p limit t w d h e = (on_ends p limit t w d h e).0
from_ends false p limit t w d h e = (back_ends p limit t w d h e).0

-- the last turn of a walk: none was made, or the walk stood at x with more to go
pub data LastTurn (more : Date → Bool) (turn : Walked → Outcome Walked) (w v : Walked) : Type 0 where
  none_made : w ≡ v → LastTurn more turn w v
  made : (x : Walked) → is_date x.at ≡ true → more x.at ≡ true → turn x ≡ given v → LastTurn more turn w v

pub last_turn : (more : Date → Bool) (turn : Walked → Outcome Walked) (φ : Date → ℕ) → ((w v : Walked) → is_date w.at ≡ true → turn w ≡ given v → Turned φ w v) → (k : ℕ) (w v : Walked) → is_date w.at ≡ true → walk k more turn w ≡ given v → LastTurn more turn w v
last_turn more turn φ nears =
    walk_all (λ w. more w.at) turn (λ w. is_date w.at ≡ true) (LastTurn more turn)
    (λ w d h. none_made refl)
    (λ w x v d h e. ((nears w x d e).dated, on w x v d h e))
  where
    on : (w x v : Walked) → is_date w.at ≡ true → more w.at ≡ true → turn w ≡ given x → LastTurn more turn x v → LastTurn more turn w v
    on w x v d h t (none_made q) = made w d h (t ∙ ap given q)
    on w x v d h t (made y i j l) = made y i j l

-- what a walk adds up: where each turn keeps m times the count and ψ from rising together, so does
-- the walk
pub walk_keeps : (more : Date → Bool) (turn : Walked → Outcome Walked) (ψ : Walked → ℕ) → ((w v : Walked) → is_date w.at ≡ true → turn w ≡ given v → (is_date v.at ≡ true) × (ψ v ≤ ψ w)) → (k : ℕ) (w v : Walked) → is_date w.at ≡ true → walk k more turn w ≡ given v → ψ v ≤ ψ w
walk_keeps more turn ψ keeps =
    walk_all (λ w. more w.at) turn (λ w. is_date w.at ≡ true) (λ w v. ψ v ≤ ψ w)
    (λ w d h. omega arith)
    (λ w x v d h e. let s = keeps w x d e in (s.0, λ l. omega (arith, s.1)))
