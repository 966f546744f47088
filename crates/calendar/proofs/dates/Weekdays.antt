-- The days of the week come in their order.
use Prim.Native.Nat.{ℕ, ◌+◌, ◌%◌, ◌<◌}
use mathlib.Core.Path.{◌≡◌, sym, ap}
use native.Mathlib.Omega.{arith}
use borrow.Author.Tests.{le-leb}
use Rattle.outcome.specs.Outcome.{given}
use Rattle.outcome.proofs.Outcomes.{given_injective, unless-given}
use Rattle.calendar.specs.dates.Dates.{is_day}
use Rattle.calendar.specs.serial.Answers.{weekday_of}

-- the next day has the next weekday, and Monday, 1, comes after Sunday, 7
pub next_weekday : (n w : ℕ) → n < 3652059 → weekday_of (record { 0 = n }) ≡ given w → weekday_of (record { 0 = n + 1 }) ≡ given (w % 7 + 1)
unfolding is_day weekday_of
next_weekday n w h e =
    let u = unless-given (is_day (record { 0 = n })) 1 (given ((n + 6) % 7 + 1)) w e in
    let k : w ≡ (n + 6) % 7 + 1 = sym (given_injective u.1) in
    simp (le-leb 1 (n + 1) (omega arith), le-leb (n + 1) 3652059 (omega arith)) (ap given (omega (arith, k)))
