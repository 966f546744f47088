-- The walk over a note's periods ends: each end lies later, so the steps allowed are never used up;
-- and where it stops, a period has begun.
use Prim.Native.Nat.{ℕ, ◌-◌, ◌<◌}
use mathlib.Core.Path.{◌≡◌, subst}
use mathlib.Core.Bool.{true, false}
use native.Mathlib.Omega.{arith}
use lib.IntN.{pos}
use lib.Signed.{lt_z}
use Rattle.outcome.proofs.Walks.{walk_turn, walk_refused, walk-done, walk_all}
use Rattle.outcome.specs.Outcome.{given, refused}
use Rattle.outcome.proofs.Outcomes.{given_injective, then_given, both_true}
use Rattle.calendar.specs.dates.Dates.{is_date, is_before, day_number}
use Rattle.calendar.specs.declared.dates.Date.{Date}
use Rattle.calendar.proofs.dates.Dates.{date-yes, date_is, number-to}
use Rattle.calendar.proofs.dates.Order.{before-days, not-before}
use Rattle.time_period.specs.steps.Steps.{absent, stepped}
use Rattle.time_period.proofs.steps.Steps.{step_leads}
use Rattle.bond.specs.note.Notes.{first_coupon_end}
use Rattle.bond.specs.declared.note.Note.{Note}
use Rattle.bond.proofs.note.Ends.{first_end_later}
use Rattle.accrued_interest.specs.period.PeriodInterest.{Begun}
use Rattle.accrued_interest.specs.note.Accrued.{running, next_period, goes_on, period_holding}
use Rattle.accrued_interest.specs.declared.period.CouponPeriod.{CouponPeriod}

-- how far a period's end is from the calendar's
pub ahead : CouponPeriod → ℕ
ahead p = 3652059 - day_number p.end

pub ahead_below : (p : CouponPeriod) → ahead p < 3652060
unfolding ahead
ahead_below p = omega arith

-- the first period has begun where today is not before the issue
pub first_begun : (n : Note) (today end : Date) → is_date n.issue_date ≡ true → is_date today ≡ true → is_before today n.issue_date ≡ false → first_coupon_end n ≡ given end → Begun today (running n.issue_date end)
first_begun n today end di dt h e =
    let l = first_end_later n end di e in
    record { started = di; ended = l.0; forward = l.1; reached = not-before today n.issue_date (date-yes today dt) (date-yes n.issue_date di) h }

-- the next period, where its end is given and where it is refused
pub next-given : (n : Note) (p : CouponPeriod) (end : Date) → stepped n.period absent p.end ≡ given end → next_period n p ≡ given (running p.end end)
unfolding next_period
next-given n p end e = rw e

pub next-refused : (n : Note) (p : CouponPeriod) (k : ℕ) → stepped n.period absent p.end ≡ refused k → next_period n p ≡ refused k
unfolding next_period
next-refused n p k e = rw e

module _ (n : Note) (today : Date) where
  module _ (above : lt_z (pos 0) n.period.num ≡ true) (dt : is_date today ≡ true) where
    -- the next period has begun too, and ends nearer to the calendar's end
    pub next_begun : (p q : CouponPeriod) → Begun today p → goes_on n today p ≡ true → next_period n p ≡ given q → Begun today q × (ahead q < ahead p)
    unfolding next_period goes_on ahead
    next_begun p q b g e =
        let t = then_given (stepped n.period absent p.end) (λ end. given (running p.end end)) q e in
        let s = step_leads n.period absent p.end t.0 b.ended t.1 in
        let l = s.later above in
        let i = before-days p.end today (date-yes p.end b.ended) (date-yes today dt) (both_true (is_before p.end today) _ g).0 in
        let m = number-to t.0 s.dated in
        subst (λ (r : CouponPeriod). Begun today r × (3652059 - day_number r.end < 3652059 - day_number p.end)) (given_injective t.2)
        (record { started = b.ended; ended = date_is t.0 s.dated; forward = l; reached = omega arith }, omega arith)

    -- a turn leaves the same walk to be made
    pub holding_next : (p q : CouponPeriod) → Begun today p → goes_on n today p ≡ true → next_period n p ≡ given q → period_holding n today q ≡ period_holding n today p
    unfolding period_holding
    holding_next p q b = walk_turn (goes_on n today) (next_period n) (Begun today) ahead next_begun 3652060 p q b (ahead_below p)

    pub holding_refused : (p : CouponPeriod) (m : ℕ) → goes_on n today p ≡ true → next_period n p ≡ refused m → refused m ≡ period_holding n today p
    unfolding period_holding
    holding_refused p m = walk_refused (goes_on n today) (next_period n) 3652060 m p (omega arith)

    pub holding_there : (p : CouponPeriod) → goes_on n today p ≡ false → given p ≡ period_holding n today p
    unfolding period_holding
    holding_there p = walk-done (goes_on n today) (next_period n) 3652060 p (omega arith)

    -- where it stops, the period has begun, and the walk does not go on
    pub holding_stops : (p q : CouponPeriod) → Begun today p → period_holding n today p ≡ given q → Begun today q × (goes_on n today q ≡ false)
    unfolding period_holding
    holding_stops =
        walk_all (goes_on n today) (next_period n) (Begun today) (λ p q. Begun today q × (goes_on n today q ≡ false))
        (λ p b g. (b, g))
        (λ p x q b g e. ((next_begun p x b g e).0, λ r. r))
        3652060
