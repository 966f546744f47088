-- The bound of an amount, for coupons and for accrued interest: denomination x rate / 100 x
-- fraction as f64 beside the same over fractions.
use Prim.Native.Nat.{ℕ, ◌*◌, ◌^◌, ◌≤◌}
use mathlib.Core.Path.{◌≡◌, refl, sym, ◌∙◌, ap, subst}
use mathlib.Core.Bool.{true, false, false≢true}
use native.Mathlib.Omega.{arith}
use native.Mathlib.Nat.{one-mul}
use lib.Dec.{T, lit<, lit≤}
use lib.IntN.{pos}
use lib.Ieee.{Float, nan, inf, fin, up, down, binary64, fits}
use borrow.Author.Tests.{leb-true}
use Rattle.rounding.specs.Close.{numerator, denominator, Close}
use Rattle.rounding.proofs.Integers.{plus, minus, of_int_lem, diff_mul}
use Rattle.rounding.proofs.Near.{Near, near_int, near_signed, near_weaken}
use Rattle.rounding.proofs.Product.{near_mul, whole-mul}
use Rattle.rounding.proofs.Quotient.{near_div}
use Rattle.rounding.proofs.CloseLaws.{near_own, near_close}
use Rattle.day_fraction.specs.Exact.{Exact}
use Rattle.day_fraction.specs.Fractions.{whole}
use Rattle.day_fraction.proofs.Bounds.{NearTo}
use Rattle.bond.specs.limits.Limits.{is_coupon_rate}
use Rattle.bond.specs.note.Notes.{interest_on, exact_interest, coupon_amount}
use Rattle.bond.specs.declared.note.Note.{Note}

-- a rate is exactly the fraction that it means, at most 100
pub rate_near : (x : Float) → T (fits binary64 x) → is_coupon_rate x ≡ true → Near x (plus (numerator x)) (minus (numerator x)) (denominator x) 100 0
unfolding is_coupon_rate
rate_near nan f h = absurd (false≢true h)
rate_near (inf true) f h = absurd (false≢true h)
rate_near (inf false) f h = absurd (false≢true h)
rate_near (fin true m e) f h = absurd (false≢true h)
rate_near (fin false m e) f h = near_own (fin false m e) 100 f tt (omega (arith, leb-true (m * up e) (100 * down e) h))

-- an amount is at most 1,000,000 x 10150, and within 1,750,000 / 2^38 of the exact one, which is
-- less than 1 / 157,000
abbrev pub AmountNear : Float → Exact → Type 0
AmountNear x q = Near x (plus q.num) (minus q.num) q.den 10150000000 (1750000 * 2 ^ 62)

pub interest_near : (nominal : ℕ) (rate x : Float) (q : Exact) → nominal ≤ 1000000 → T (fits binary64 rate) → is_coupon_rate rate ≡ true → NearTo x q → AmountNear (interest_on (whole (pos nominal)) rate x) (exact_interest nominal rate q)
interest_near nominal rate x q h f r X =
    let R = rate_near rate f r in
    let P = near_mul (near_int (pos nominal) 1000000 (omega arith) (lit< tt)) R 27 (lit≤ tt) (lit≤ tt) (lit< tt) (lit< tt) in
    let Q = near_div P 100 1000000 (2 ^ 67) 20 (lit< tt) (lit< tt) (lit≤ tt) (lit≤ tt) (lit≤ tt) (lit< tt) (lit< tt) in
    let A = near_mul Q X 34 (lit≤ tt) (lit≤ tt) (lit< tt) (lit< tt) in
    let D = diff_mul (diff_mul (of_int_lem (pos nominal)) (of_int_lem (numerator rate))) (of_int_lem q.num) in
    near_weaken (near_signed A D (denominator rate * 100 * q.den) (ap (λ (z : ℕ). z * 100 * q.den) (one-mul (denominator rate)))) 10150000000 (1750000 * 2 ^ 62) (lit≤ tt) (lit≤ tt)

-- and so within 1 / 157,000 of it
pub interest_close : {x : Float} (q : Exact) → AmountNear x q → Close 157000 x q.num q.den
interest_close q N = near_close N (of_int_lem q.num) 157000 q.den refl (lit≤ tt)

-- a coupon at position 1 is that amount
pub coupon_near : (n : Note) (x : Float) (q : Exact) → n.denomination ≤ 1000000 → T (fits binary64 n.rate) → is_coupon_rate n.rate ≡ true → NearTo x q → AmountNear (coupon_amount (whole (pos 1)) n x) (exact_interest n.denomination n.rate q)
unfolding coupon_amount
coupon_near n x q h f r X =
    subst (λ (y : Float). AmountNear (interest_on y n.rate x) (exact_interest n.denomination n.rate q))
    (ap (λ (d : ℕ). whole (pos d)) (sym (one-mul n.denomination)) ∙ sym (whole-mul 1 n.denomination (lit< tt) (omega arith)))
    (interest_near n.denomination n.rate x q h f r X)
