-- What an accepted note has, and where its coupons end.
use Prim.Native.Nat.{ℕ, ◌+◌, ◌≤◌, ◌<◌}
use mathlib.Core.Path.{◌≡◌, refl, sym, ◌∙◌, ap}
use mathlib.Core.Bool.{Bool, true, false, not}
use native.Mathlib.Omega.{arith}
use lib.Dec.{ltb}
use lib.IntN.{pos}
use lib.Signed.{lt_z, le_z}
use borrow.Author.Tests.{lt-leb, le-leb, ltb-true, not-true}
use Rattle.outcome.specs.Outcome.{given, refused, pick, both}
use Rattle.outcome.proofs.Outcomes.{given_injective, unless-given, then_given, both_true}
use Rattle.calendar.specs.dates.Dates.{is_date, day_number}
use Rattle.calendar.specs.declared.dates.Date.{Date}
use Rattle.calendar.proofs.dates.Dates.{date-yes}
use Rattle.calendar.proofs.dates.Order.{month_order}
use Rattle.date_step.specs.Steps.{existing_date}
use Rattle.time_period.specs.steps.Steps.{needs_table}
use Rattle.day_count_conv.proofs.conventions.Numbers.{above_one}
use Rattle.coupon_date.specs.Coupons.{coupon_date_of}
use Rattle.coupon_date.proofs.Coupons.{coupon-yes}
use Rattle.coupon_date.specs.declared.CouponDate.{CouponDate}
use Rattle.cash_flow.specs.currency.Amounts.{is_currency}
use Rattle.bond.specs.limits.Limits.{is_note_number, is_coupon_rate}
use Rattle.bond.specs.note.Notes.{period_checks, term_checks, note_checks, in_year_of, first_coupon_end}
use Rattle.bond.specs.declared.note.Note.{Note}

-- the year after the last has no dates
pub past_the_last : (y : ℕ) (c : CouponDate) → 9999 ≤ y → refused 1 ≡ in_year_of (y + 1) c
unfolding in_year_of existing_date is_date
past_the_last y c h = rw (le-leb 1 (y + 1) (omega arith), lt-leb (y + 1) 9999 (omega arith))

-- what an accepted note has, whoever takes a position and a table
pub record Accepted (n : Note) : Type 0 where
  pub number : is_note_number n.number ≡ true
  pub rate : is_coupon_rate n.rate ≡ true
  pub currency : is_currency n.currency ≡ true
  pub issued : is_date n.issue_date ≡ true
  pub matures : is_date n.maturity ≡ true
  pub coupon : coupon_date_of n.coupon_date.day n.coupon_date.month ≡ given n.coupon_date
  pub period : lt_z (pos 0) n.period.num ≡ true
  pub unit : needs_table n.period.unit ≡ false

-- a coupon date that is given is the pair that was judged
coupon_itself : (c x : CouponDate) → coupon_date_of c.day c.month ≡ given x → coupon_date_of c.day c.month ≡ given c
coupon_itself c x e = e ∙ ap given (coupon-yes c.day c.month x e).itself

module _ (position table : Bool) (n m : Note) (e : note_checks position table n ≡ given m) where
  -- the checks give the note that was judged, a position within its limits and a table that is
  -- taken
  pub record Passed : Type 0 where
    pub itself : n ≡ m
    pub note : Accepted n
    pub position_in : position ≡ true
    pub table_taken : table ≡ true

  pub passed : Passed
  unfolding note_checks term_checks period_checks
  passed =
      let a = unless-given (is_note_number n.number) 18 _ m e in
      let b = unless-given (both (is_coupon_rate n.rate) position) 15 _ m a.1 in
      let c = unless-given (is_currency n.currency) 17 _ m b.1 in
      let d = unless-given (both (is_date n.issue_date) (is_date n.maturity)) 1 _ m c.1 in
      let f = then_given (coupon_date_of n.coupon_date.day n.coupon_date.month) (λ x. period_checks table n) m d.1 in
      let g = unless-given table 13 _ m f.2 in
      let h = unless-given (le_z (pos 1) n.period.num) 14 _ m g.1 in
      let i = unless-given (not (needs_table n.period.unit)) 12 (given n) m h.1 in
      record {
        itself = given_injective i.1;
        note = record {
          number = a.0;
          rate = (both_true (is_coupon_rate n.rate) position b.0).0;
          currency = c.0;
          issued = (both_true (is_date n.issue_date) (is_date n.maturity) d.0).0;
          matures = (both_true (is_date n.issue_date) (is_date n.maturity) d.0).1;
          coupon = coupon_itself n.coupon_date f.0 f.1;
          period = above_one n.period.num h.0;
          unit = not-true (needs_table n.period.unit) i.0;
        };
        position_in = (both_true (is_coupon_rate n.rate) position b.0).1;
        table_taken = g.0;
      }

-- a date in a year, where there is one
pub in_year_is : (y : ℕ) (c : CouponDate) (t : Date) → in_year_of y c ≡ given t → (is_date t ≡ true) × (t.year ≡ y) × (t.month ≡ c.month) × (t.day ≡ c.day)
unfolding in_year_of existing_date
in_year_is y c t e =
    let g = unless-given (is_date (record { year = y; month = c.month; day = c.day })) 1 _ t e in
    let q : record { year = y; month = c.month; day = c.day } ≡ t = given_injective g.1 in
    (ap is_date (sym q) ∙ g.0, ap (λ (u : Date). u.year) (sym q), ap (λ (u : Date). u.month) (sym q), ap (λ (u : Date). u.day) (sym q))

-- the first coupon ends on a date of the calendar, after the issue
pub first_end_later : (n : Note) (t : Date) → is_date n.issue_date ≡ true → first_coupon_end n ≡ given t → (is_date t ≡ true) × (day_number n.issue_date < day_number t)
unfolding first_coupon_end
first_end_later n t d e = by (ltb n.issue_date.month n.coupon_date.month) refl e
  where
    by : (b : Bool) → ltb n.issue_date.month n.coupon_date.month ≡ b → in_year_of (pick b n.issue_date.year (n.issue_date.year + 1)) n.coupon_date ≡ given t → (is_date t ≡ true) × (day_number n.issue_date < day_number t)
    by true l q =
        let s = in_year_is n.issue_date.year n.coupon_date t q in
        let h = date-yes n.issue_date d in
        let k = date-yes t s.0 in
        (s.0, month_order n.issue_date t h k (omega (arith, s.1, s.2, ltb-true n.issue_date.month n.coupon_date.month l, h.month_from, k.month_from)))
    by false l q =
        let s = in_year_is (n.issue_date.year + 1) n.coupon_date t q in
        let h = date-yes n.issue_date d in
        let k = date-yes t s.0 in
        (s.0, month_order n.issue_date t h k (omega (arith, s.1, h.month_to, h.month_from, h.year_from)))
