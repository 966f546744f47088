-- Accrued interest on a denomination up to 1,000,000 is within 1 / 100,000 of the exact amount; and
-- what is refused is refused alike.
use Rattle.std.specs.Prelude.{Result}
use Prim.Native.Nat.{ℕ, ◌+◌, ◌*◌, ◌≤◌, zero-le}
use mathlib.Core.Path.{◌≡◌, refl, sym, ◌∙◌, subst}
use mathlib.Core.Bool.{Bool, true, false}
use native.Mathlib.Omega.{arith}
use native.Mathlib.Nat.{mul-pos}
use lib.Dec.{T, lit<, lit≤}
use lib.IntN.{pos, ◌*ℤ◌}
use lib.Ieee.{Float, binary64, mul, fits, of_bits}
use Rattle.outcome.specs.Outcome.{Outcome, given, both}
use Rattle.outcome.specs.Refusals.{outcome_of}
use Rattle.outcome.specs.declared.Refusal.{Refusal}
use Rattle.rounding.proofs.Algebra.{ring}
use Rattle.rounding.proofs.Integers.{plus, minus, of_int_lem, diff_mul}
use Rattle.rounding.proofs.Near.{near_int}
use Rattle.rounding.proofs.Product.{near_mul, mul_turned}
use Rattle.rounding.proofs.Quotient.{near_div}
use Rattle.rounding.proofs.CloseLaws.{near_close}
use Rattle.calendar.specs.dates.Dates.{is_date, is_before, day_number}
use Rattle.calendar.specs.declared.dates.Date.{Date}
use Rattle.calendar.proofs.dates.Dates.{date-yes, number-to}
use Rattle.calendar.proofs.dates.Order.{not-before}
use Rattle.day_fraction.specs.Exact.{Exact}
use Rattle.day_fraction.specs.Fractions.{whole, quotient}
use Rattle.day_fraction.proofs.Bounds.{NearTo}
use Rattle.day_count_conv.specs.conventions.Conventions.{year_fraction, Agree, fractions_exactly, fractions_in_f64}
use Rattle.day_count_conv.proofs.conventions.Agreement.{unless_agree, pick_agree, then_agree, given_agree}
use Rattle.day_count_conv.proofs.conventions.Bounds.{year_near}
use Rattle.bond.specs.note.Notes.{note_checks, first_coupon_end, interest_on, exact_interest}
use Rattle.bond.specs.declared.note.Note.{Note}
use Rattle.bond.proofs.note.Ends.{Accepted, passed}
use Rattle.bond.proofs.note.AmountBound.{AmountNear, interest_near}
use Rattle.accrued_interest.specs.period.PeriodInterest.{Begun, elapsed_days, period_days, rolled, due_bits, due_exact}
use Rattle.accrued_interest.specs.note.Accrued.{running, goes_on, period_holding, amount_due, accrued_in, accrued_from, accrued_on, accrued, amounts_in_f64, amounts_exactly, CloseAmount, AccruedPromise}
use Rattle.accrued_interest.specs.declared.period.CouponPeriod.{CouponPeriod}
use Rattle.accrued_interest.proofs.note.Walk.{first_begun, holding_stops}

-- nothing is 0
nothing-close : Agree CloseAmount (given amounts_in_f64.nothing) (given amounts_exactly.nothing)
unfolding of_bits
nothing-close = (lit≤ tt, (tt, lit≤ tt))

-- the two sides of one fraction
sides : (e p m c d : ℕ) → (e * p + 0 * m) * (c * d) + (p * 0 + m * e) * (1 * d * c) ≡ (p * e + m * 0) * (1 * d * c) + (e * m + 0 * p) * (c * d)
sides e p m c d = simp ring (omega arith)

-- an amount, times elapsed days over period days
part_close : (x : Float) (q : Exact) (elapsed days : ℕ) → elapsed ≤ days → 1 ≤ days → days ≤ 3652059 → AmountNear x q → CloseAmount (mul binary64 x (quotient (pos elapsed) days)) (record { num = q.num *ℤ pos elapsed; den = q.den * days })
part_close x q elapsed days h k l A =
    let E = near_div (near_int (pos elapsed) elapsed (omega arith) (omega arith)) days 1 0 1 (omega arith) (omega arith) (omega arith) zero-le (lit≤ tt) (omega arith) (lit< tt) in
    let M = near_mul E A 35 (lit≤ tt) (lit≤ tt) (lit< tt) (lit< tt) in
    subst (λ (y : Float). CloseAmount y (record { num = q.num *ℤ pos elapsed; den = q.den * days })) (mul_turned binary64 (quotient (pos elapsed) days) x)
    (near_close M (diff_mul (of_int_lem q.num) (of_int_lem (pos elapsed))) _ (q.den * days) (sides elapsed (plus q.num) (minus q.num) q.den days) (lit≤ tt))

module _ (n : Note) (today : Date) (few : n.denomination ≤ 1000000) (held : T (fits binary64 n.rate)) (a : Accepted n) (dt : is_date today ≡ true) where
  -- what is due in a period that today does not lie past
  due_agrees : (p : CouponPeriod) → Begun today p → day_number today ≤ day_number p.end → Agree CloseAmount (amount_due amounts_in_f64 n today p) (amount_due amounts_exactly n today p)
  unfolding amount_due
  due_agrees p b l =
      given_agree NearTo CloseAmount (year_fraction fractions_in_f64 n.day_count_convention p.start p.end (rolled n p)) (year_fraction fractions_exactly n.day_count_convention p.start p.end (rolled n p))
      (λ x. due_bits n x (elapsed_days p today) (period_days p)) (λ q. due_exact n q (elapsed_days p today) (period_days p))
      (year_near n.day_count_convention p.start p.end (rolled n p))
      (λ x q N.
      let A = interest_near n.denomination n.rate x q few held a.rate N in
      let days : 1 ≤ period_days p = omega (arith, b.forward) in
      (mul-pos A.den days, part_close (interest_on (whole (pos n.denomination)) n.rate x) (exact_interest n.denomination n.rate q) (elapsed_days p today) (period_days p) (omega (arith, b.reached)) days (omega (arith, number-to p.end (date-yes p.end b.ended))) A))

  -- where the walk stops and the end is before maturity, today is not past the end
  not-past : (p : CouponPeriod) → Begun today p → goes_on n today p ≡ false → is_before p.end n.maturity ≡ true → day_number today ≤ day_number p.end
  unfolding goes_on
  not-past p b g h = not-before p.end today (date-yes p.end b.ended) (date-yes today dt) (by (is_before p.end today) (is_before p.end n.maturity) g h)
    where
      by : (c d : Bool) → both c d ≡ false → d ≡ true → c ≡ false
      by true d g h = sym h ∙ g
      by false d g h = refl

  in_agrees : (p : CouponPeriod) → Begun today p → goes_on n today p ≡ false → Agree CloseAmount (accrued_in amounts_in_f64 n today p) (accrued_in amounts_exactly n today p)
  unfolding accrued_in
  in_agrees p b g = pick_agree CloseAmount (is_before p.end n.maturity) _ _ _ _ (λ h. due_agrees p b (not-past p b g h)) (λ h. nothing-close)

  from_agrees : (p : CouponPeriod) → Begun today p → Agree CloseAmount (accrued_from amounts_in_f64 n today p) (accrued_from amounts_exactly n today p)
  unfolding accrued_from
  from_agrees p b =
      then_agree CloseAmount (period_holding n today p) (accrued_in amounts_in_f64 n today) (accrued_in amounts_exactly n today)
      (λ q e. let s = holding_stops n today a.period dt p q b e in in_agrees q s.0 s.1)

on_agrees : (n : Note) (today : Date) → n.denomination ≤ 1000000 → T (fits binary64 n.rate) → Accepted n → Agree CloseAmount (accrued_on amounts_in_f64 n today) (accrued_on amounts_exactly n today)
unfolding accrued_on
on_agrees n today few held a =
    unless_agree CloseAmount (is_date today) 1 _ _
    (λ dt. pick_agree CloseAmount (is_before today n.issue_date) _ _ _ _ (λ h. nothing-close)
    (λ h. then_agree CloseAmount (first_coupon_end n) _ _ (λ end e. from_agrees n today few held a dt (running n.issue_date end) (first_begun n today end a.issued dt h e))))

-- the bound, on every note and every day
pub accrued_agrees : (n : Note) (today : Date) → n.denomination ≤ 1000000 → T (fits binary64 n.rate) → Agree CloseAmount (accrued amounts_in_f64 n today) (accrued amounts_exactly n today)
unfolding accrued
accrued_agrees n today few held =
    then_agree CloseAmount (note_checks true true n) (λ m. accrued_on amounts_in_f64 m today) (λ m. accrued_on amounts_exactly m today)
    (λ m e. let k = passed true true n m e in subst (λ (o : Note). Agree CloseAmount (accrued_on amounts_in_f64 o today) (accrued_on amounts_exactly o today)) k.itself (on_agrees n today few held k.note))

-- the bits of a result are all that is left to show
pub promised : (n : Note) (today : Date) (r : Result Float Refusal) → T (fits binary64 n.rate) → outcome_of r ≡ accrued amounts_in_f64 n today → AccruedPromise n today r
promised n today r held e =
    (e, λ few. subst (λ (o : Outcome Float). Agree CloseAmount o (accrued amounts_exactly n today)) (sym e) (accrued_agrees n today (omega (arith, few)) held))
