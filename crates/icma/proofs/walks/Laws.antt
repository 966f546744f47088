-- What later layers count on: a later date is not before an earlier one, and steps that do not clip
-- add up.
use Prim.Native.Nat.{ℕ, zero, suc, ◌+◌, ◌*◌, ◌/◌, ◌%◌, ◌≤◌}
use mathlib.Core.Path.{◌≡◌, refl, ◌∙◌, ap₂}
use mathlib.Core.Bool.{true}
use native.Mathlib.Omega.{arith}
use native.Mathlib.Nat.{suc-mul}
use lib.IntN.{pos}
use Rattle.outcome.specs.Outcome.{Outcome, given, and_then}
use Rattle.calendar.proofs.gregorian.Months.{at_least}
use Rattle.calendar.specs.dates.Dates.{is_date, month_index, month_date}
use Rattle.calendar.specs.declared.dates.Date.{Date}
use Rattle.calendar.proofs.dates.Dates.{date-yes, date_is}
use Rattle.calendar.proofs.dates.Order.{month_date_lem}
use Rattle.date_step.specs.Steps.{months_later}
use Rattle.date_step.proofs.Steps.{months-to}

-- k steps, one after another
pub steps : ℕ → (Date → Outcome Date) → Date → Outcome Date
steps zero go t = given t
steps (suc k) go t = and_then (go t) (steps k go)

-- a day that no month cuts
pub uncut : (i d : ℕ) → 1 ≤ d → d ≤ 28 → i ≤ 119987 → (month_date i d).day ≡ d
unfolding month_date
uncut i d h k l = omega (arith, at_least (i / 12 + 1) (i % 12 + 1) (omega arith) (omega arith))

one_uncut : (n : ℕ) (t : Date) → month_index t + n ≤ 119987 → months_later t (pos n) ≡ given (month_date (month_index t + n) t.day)
one_uncut n t h = months-to t (pos n) (month_index t + n) refl h

-- where steps do not clip, the walk's dates are the roll date plus k periods
pub uncut_steps : (n k : ℕ) (t : Date) → is_date t ≡ true → t.day ≤ 28 → month_index t + suc k * n ≤ 119987 → steps (suc k) (λ u. months_later u (pos n)) t ≡ given (month_date (month_index t + suc k * n) t.day)
unfolding steps
uncut_steps n zero t d h l =
    let q : suc zero * n ≡ n = omega (arith, suc-mul 0 n) in
    rw q (rw (one_uncut n t (omega arith)))
uncut_steps n (suc k) t d h l =
    let i = month_index t + n in
    let m = suc-mul (suc k) n in
    let s = month_date_lem i t.day (date-yes t d).day-from (omega (arith, m)) in
    let u = month_date i t.day in
    let c = uncut i t.day (date-yes t d).day-from h (omega (arith, m)) in
    let r = uncut_steps n k u (date_is u s.dated) (omega arith) (omega (arith, m, s.index)) in
    let a : month_index u + suc k * n ≡ month_index t + suc (suc k) * n = omega (arith, m, s.index) in
    rw (one_uncut n t (omega (arith, m))) (r ∙ ap₂ (λ (x y : ℕ). given (month_date x y)) a c)
