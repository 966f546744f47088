-- The laws of adjustment: none leaves every date, and what the other rules give is a business day
-- on its side.
use Prim.Native.Nat.{ℕ, ◌<◌, ◌≤◌}
use native.Mathlib.Omega.{arith}
use mathlib.Core.Path.{◌≡◌, refl, sym, ◌∙◌, ap, subst}
use mathlib.Core.Bool.{Bool, true, false}
use mathlib.Core.List.{List}
use lib.Dec.{eqb}
use Rattle.outcome.specs.Outcome.{Outcome, given, and_then, pick}
use Rattle.outcome.proofs.Outcomes.{given_injective, then_given}
use Rattle.calendar.specs.dates.Dates.{is_date, day_number, the_date}
use Rattle.calendar.specs.serial.Answers.{date_of}
use Rattle.calendar.specs.declared.dates.Date.{Date}
use Rattle.calendar.specs.declared.dates.Day.{Day}
use Rattle.calendar.proofs.dates.Dates.{IsDate, date-yes}
use Rattle.calendar.proofs.dates.Inverse.{on-day, date_on-day}
use Rattle.business_days.specs.table.Business.{is_business, next_from, prev_from}
use Rattle.day_adjust.specs.Adjustment.{next_date, prev_date, modified_date, moved_date, adjusted}
use Rattle.day_adjust.specs.declared.DayAdjust.{DayAdjust}
use Rattle.day_adjust.specs.declared.DayAdjust.TheVariants as rule
use Rattle.business_days.proofs.table.Days.{next_gives, prev_gives}

pub none_stays : (t : Date) (table : List ℕ) → adjusted rule.None t table ≡ given t
unfolding adjusted
none_stays t table = by (is_business table (day_number t))
  where
    by : (b : Bool) → pick b (given t) (given t) ≡ given t
    by true = refl
    by false = refl

-- a business day stays, and any other moves
module _ (t : Date) (n : ℕ) (table : List ℕ) (own : n ≡ day_number t) where
  pub open_stays : (r : DayAdjust) → is_business table n ≡ true → given t ≡ adjusted r t table
  unfolding adjusted
  open_stays r b = rw (ap (is_business table) (sym own) ∙ b)

  pub shut_moves : (r : DayAdjust) → is_business table n ≡ false → moved_date r t n table ≡ adjusted r t table
  unfolding adjusted
  shut_moves r b = rw (ap (is_business table) (sym own) ∙ b) (ap (λ (x : ℕ). moved_date r t x table) own)

-- a day that a search gives is one of the calendar, and its date is what is asked for
module _ (table : List ℕ) (n : ℕ) (d : Day) where
  pub next_dated : 1 ≤ n → given d ≡ next_from table n → (1 ≤ d.0) × (d.0 ≤ 3652059)
  next_dated from found = let g = next_gives table n d (sym found) in (omega arith, omega arith)

  pub prev_dated : n ≤ 3652059 → given d ≡ prev_from table n → (1 ≤ d.0) × (d.0 ≤ 3652059)
  prev_dated to found = let g = prev_gives table n d (sym found) in (omega arith, omega arith)

  pub on_next : (u : Date) → 1 ≤ n → given d ≡ next_from table n → u ≡ the_date d.0 → given u ≡ next_date table n
  unfolding next_date
  on_next u from found e =
      let c = next_dated from found in
      ap given e ∙ date_on-day d c.0 c.1 ∙ ap (λ (o : Outcome Day). and_then o date_of) found

  pub on_prev : (u : Date) → n ≤ 3652059 → given d ≡ prev_from table n → u ≡ the_date d.0 → given u ≡ prev_date table n
  unfolding prev_date
  on_prev u to found e =
      let c = prev_dated to found in
      ap given e ∙ date_on-day d c.0 c.1 ∙ ap (λ (o : Outcome Day). and_then o date_of) found

-- what a search gives is the date of the business day it found
pub record Moved (table : List ℕ) (u : Date) : Type 0 where
  pub dated : IsDate u
  pub business : is_business table (day_number u) ≡ true

module _ (table : List ℕ) (n : ℕ) (u : Date) where
  pub next_date_gives : next_date table n ≡ given u → Moved table u × (n < day_number u)
  unfolding next_date
  next_date_gives e =
      let g = then_given (next_from table n) date_of u e in
      let d = on-day g.0 u g.2 in
      let l = next_gives table n g.0 g.1 in
      (record { dated = d.0; business = ap (is_business table) d.1 ∙ l.business }, subst (λ (x : ℕ). n < x) (sym d.1) l.later)

  pub prev_date_gives : prev_date table n ≡ given u → Moved table u × (day_number u < n)
  unfolding prev_date
  prev_date_gives e =
      let g = then_given (prev_from table n) date_of u e in
      let d = on-day g.0 u g.2 in
      let l = prev_gives table n g.0 g.1 in
      (record { dated = d.0; business = ap (is_business table) d.1 ∙ l.business }, subst (λ (x : ℕ). x < n) (sym d.1) l.earlier)

-- modified gives a business day: one ahead in a month of the same number, or one back
pub modified_gives : (table : List ℕ) (n m : ℕ) (u : Date) → modified_date table n m ≡ given u → Moved table u
unfolding modified_date
modified_gives table n m u e =
    let g = then_given (next_date table n) (λ v. pick (eqb v.month m) (given v) (prev_date table n)) u e in
    by (eqb g.0.month m) g.0 g.1 g.2
  where
    by : (b : Bool) (v : Date) → next_date table n ≡ given v → pick b (given v) (prev_date table n) ≡ given u → Moved table u
    by true v f q = (next_date_gives table n u (f ∙ q)).0
    by false v f q = (prev_date_gives table n u q).0

-- under every rule but none what is given is a business day of the calendar
pub moved_gives : (r : DayAdjust) (t : Date) (n : ℕ) (table : List ℕ) (u : Date) → (r ≡ rule.None → ⊥) → moved_date r t n table ≡ given u → Moved table u
moved_gives rule.None t n table u x e = absurd (x refl)
moved_gives rule.Following t n table u x e = (next_date_gives table n u e).0
moved_gives rule.Preceding t n table u x e = (prev_date_gives table n u e).0
moved_gives rule.Modified t n table u x e = modified_gives table n t.month u e

pub adjusted_gives : (r : DayAdjust) (t : Date) (table : List ℕ) (u : Date) → is_date t ≡ true → (r ≡ rule.None → ⊥) → adjusted r t table ≡ given u → Moved table u
unfolding adjusted
adjusted_gives r t table u d x e = by (is_business table (day_number t)) refl e
  where
    by : (b : Bool) → is_business table (day_number t) ≡ b → pick b (given t) (moved_date r t (day_number t) table) ≡ given u → Moved table u
    by true q f = let s : t ≡ u = given_injective f in subst (Moved table) s (record { dated = date-yes t d; business = q })
    by false q f = moved_gives r t (day_number t) table u x f
