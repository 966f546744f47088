-- What an accepted note has, so that its numbers fit their bits.
use Prim.Native.Nat.{ℕ, ◌^◌, ◌≤◌, ◌<◌}
use mathlib.Core.Path.{◌≡◌, sym, subst}
use mathlib.Core.Bool.{true, not, false≢true}
use mathlib.Core.List.{[], ◌∷◌}
use native.Mathlib.Omega.{arith}
use borrow.Author.Tests.{leb-true, ltb-true}
use lib.Dec.{T, leb, ltb}
use lib.IntN.{ℤ, pos, nat_abs}
use lib.Signed.{le_z, lt_z}
use lib.Ieee.{Float, nan, inf, fin, binary64, fits, is_nan}
use lib.Ieee.Bits.{to_bits-lt}
use Rattle.outcome.specs.Outcome.{given, both}
use Rattle.outcome.proofs.Numbers.{between}
use Rattle.outcome.proofs.Outcomes.{both_true}
use Rattle.calendar.proofs.gregorian.Months.{at_most}
use Rattle.calendar.specs.dates.Dates.{is_date}
use Rattle.calendar.specs.declared.dates.Date.{Date}
use Rattle.calendar.proofs.dates.Dates.{date-yes}
use Rattle.coupon_date.specs.Coupons.{coupon_date_of}
use Rattle.coupon_date.proofs.Coupons.{coupon-yes}
use Rattle.coupon_date.specs.declared.CouponDate.{CouponDate}
use Rattle.cash_flow.specs.currency.Amounts.{is_capital, is_currency}
use Rattle.cash_flow.specs.declared.currency.Currency.{Currency}
use Rattle.time_period.specs.declared.steps.TimePeriodUnit.{TimePeriodUnit}
use Rattle.day_adjust.specs.declared.DayAdjust.{DayAdjust}
use Rattle.day_count_conv.specs.declared.conventions.DayCountConv.{DayCountConv}
use Rattle.bond.specs.limits.Limits.{is_note_number, is_coupon_rate}
use Rattle.bond.specs.declared.note.Note.{Note}
use Rattle.bond.specs.declared.limits.NoteNumber.{NoteNumber}
use Rattle.bond.proofs.note.Ends.{Accepted, passed}
use Rattle.packed_codes.specs.Codes.{units, code_of_unit, conventions, code_of_convention, adjustments, code_of_adjustment}
use Rattle.packed_codes.proofs.Codes.{place-below, unit_back, convention_back, adjustment_back}
use Rattle.packed_layout.specs.NoteLayout.{Name, NumbersFit}
use Rattle.packed_write.specs.numbers.Numbers.{number_of, numbers_of}
use Rattle.packed_write.specs.numbers.Packable.{Packable}
use Rattle.time_period.proofs.steps.Signs.{above}
use Rattle.packed_write.proofs.numbers.Codes.{places-below}

-- ---- a rate is no NaN

pub rate_no_nan : (x : Float) → is_coupon_rate x ≡ true → T (not (is_nan x))
unfolding is_coupon_rate is_nan
rate_no_nan nan e = absurd (false≢true e)
rate_no_nan (inf s) e = tt
rate_no_nan (fin s m d) e = tt

-- ---- letters

pub record Capitals (c : Currency) : Type 0 where
  pub first : (65 ≤ c.first) × (c.first ≤ 90)
  pub second : (65 ≤ c.second) × (c.second ≤ 90)
  pub third : (65 ≤ c.third) × (c.third ≤ 90)

capital : (b : ℕ) → is_capital b ≡ true → (65 ≤ b) × (b ≤ 90)
unfolding is_capital
capital b e = between 65 b 90 e

pub capitals : (c : Currency) → is_currency c ≡ true → Capitals c
unfolding is_currency
capitals c e =
    let p = both_true (is_capital c.first) (both (is_capital c.second) (is_capital c.third)) e in
    let q = both_true (is_capital c.second) (is_capital c.third) p.1 in
    record { first = capital c.first p.0; second = capital c.second q.0; third = capital c.third q.1 }

-- ---- dates

pub record DateBits (t : Date) : Type 0 where
  pub year : t.year < 16384
  pub month : t.month < 16
  pub day : t.day < 32

date-bits : (t : Date) → is_date t ≡ true → DateBits t
date-bits t e = let h = date-yes t e in record { year = omega (arith, h.year_to); month = omega (arith, h.month_to); day = omega (arith, h.day-to, at_most t.year t.month) }

coupon-bits : (c : CouponDate) → coupon_date_of c.day c.month ≡ given c → (c.day < 32) × (c.month < 16)
coupon-bits c e = let h = coupon-yes c.day c.month c e in (omega (arith, h.day-to, at_most 2019 c.month), omega (arith, h.month_to))

-- ---- terms: a code that is read back is one that there is

unit-below : (u : TimePeriodUnit) → code_of_unit u < 5
unit-below u = place-below units (code_of_unit u) u (unit_back u)

convention_below : (c : DayCountConv) → code_of_convention c < 6
convention_below c = place-below conventions (code_of_convention c) c (convention_back c)

adjustment-below : (a : DayAdjust) → code_of_adjustment a < 4
adjustment-below a = place-below adjustments (code_of_adjustment a) a (adjustment_back a)

-- a period from 1 to 4,095
pub in_twelve : (z : ℤ) → lt_z (pos 0) z ≡ true → le_z z (pos 4095) ≡ true → (nat_abs z ≤ 4095) × (pos (nat_abs z) ≡ z)
in_twelve z h l = let a = (above z h).0 in (leb-true (nat_abs z) 4095 (subst (λ (w : ℤ). le_z w (pos 4095) ≡ true) a l), sym a)

-- ---- the number

pub record Digits (n : NoteNumber) : Type 0 where
  pub from : 1 ≤ n.count
  pub to : n.count ≤ 10
  pub below : n.digits < 10 ^ n.count

pub digits_known : (n : NoteNumber) → is_note_number n ≡ true → Digits n
unfolding is_note_number
digits_known n e =
    let p = both_true (both (leb 1 n.count) (leb n.count 10)) (ltb n.digits (10 ^ n.count)) e in
    let q = between 1 n.count 10 p.0 in
    record { from = q.0; to = q.1; below = ltb-true n.digits (10 ^ n.count) p.1 }

-- ---- all of them

-- each from its part
pub numbers_are : (n : Note) {n0 n1 n2 n3 n4 n5 n6 n7 n8 n9 n10 n11 n12 n13 n14 n15 n16 n17 n18 : ℕ} → n0 ≡ number_of n Name.digit_count → n1 ≡ number_of n Name.digits → n2 ≡ number_of n Name.issue_year → n3 ≡ number_of n Name.issue_month → n4 ≡ number_of n Name.issue_day → n5 ≡ number_of n Name.maturity_year → n6 ≡ number_of n Name.maturity_month → n7 ≡ number_of n Name.maturity_day → n8 ≡ number_of n Name.coupon_day → n9 ≡ number_of n Name.coupon_month → n10 ≡ number_of n Name.unit → n11 ≡ number_of n Name.number → n12 ≡ number_of n Name.day_count → n13 ≡ number_of n Name.adjustment → n14 ≡ number_of n Name.denomination → n15 ≡ number_of n Name.rate → n16 ≡ number_of n Name.first_letter → n17 ≡ number_of n Name.second_letter → n18 ≡ number_of n Name.third_letter
    → n0 ∷ n1 ∷ n2 ∷ n3 ∷ n4 ∷ n5 ∷ n6 ∷ n7 ∷ n8 ∷ n9 ∷ n10 ∷ n11 ∷ n12 ∷ n13 ∷ n14 ∷ n15 ∷ n16 ∷ n17 ∷ n18 ∷ 0 ∷ [] ≡ numbers_of n
numbers_are n e0 e1 e2 e3 e4 e5 e6 e7 e8 e9 e10 e11 e12 e13 e14 e15 e16 e17 e18 = rw (e0, e1, e2, e3, e4, e5, e6, e7, e8, e9, e10, e11, e12, e13, e14, e15, e16, e17, e18)

pub accepted : (n : Note) → Packable n → Accepted n
accepted n h = (passed true true n n h.1).note

pub numbers_fit : (n : Note) → Packable n → n.denomination < 2 ^ 32 → T (fits binary64 n.rate) → NumbersFit (numbers_of n)
numbers_fit n h d f =
    let a = accepted n h in
    let i = date-bits n.issue_date a.issued in
    let m = date-bits n.maturity a.matures in
    let c = coupon-bits n.coupon_date a.coupon in
    let l = capitals n.currency a.currency in
    (omega (arith, (digits_known n.number a.number).to), (places-below n.number.count 10 n.number.digits, (i.year, (i.month, (i.day, (m.year, (m.month, (m.day, (c.0, (c.1, (omega (arith, unit-below n.period.unit), (omega (arith, (in_twelve n.period.num a.period h.0).0), (omega (arith, convention_below n.day_count_convention), (adjustment-below n.business_day_rule, (d, (to_bits-lt binary64 n.rate f, (omega (arith, l.first), (omega (arith, l.second), (omega (arith, l.third), (omega arith, omega arith))))))))))))))))))))
