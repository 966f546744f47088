-- The f64 of a walk's parts is near the exact fraction.
use Rattle.std.specs.Prelude.{Option, Some, None}
use Prim.Native.Nat.{ℕ, ◌+◌, ◌*◌, ◌^◌, ◌≤◌, ◌<◌, zero-le}
use mathlib.Core.Path.{◌≡◌, sym, ap₂, subst}
use native.Mathlib.Nat.{mul-pos, mul-le-mul_left, le-mul_of_pos_right}
use native.Mathlib.Omega.{arith}
use lib.Dec.{lit<, lit≤}
use lib.IntN.{ℤ, pos, nat_abs}
use lib.Ieee.{Float, binary64, div, of_int, of_bits}
use Rattle.rounding.proofs.Algebra.{ring}
use Rattle.rounding.proofs.Integers.{plus, minus, of_int_lem, diff_add, diff_scale, size_is}
use Rattle.rounding.proofs.Near.{Near, near_int, near_add, near_same, near_weaken}
use Rattle.rounding.proofs.Product.{whole-mul}
use Rattle.rounding.proofs.Quotient.{near_div}
use Rattle.day_fraction.specs.Fractions.{quotient}
use Rattle.day_fraction.proofs.Bounds.{NearTo, lands}
use Rattle.day_fraction.proofs.Written.{lit0}
use Rattle.day_count_conv.specs.conventions.Conventions.{part_added, parts_bits, part_exact, parts_exact}
use Rattle.time_period.specs.declared.steps.TimePeriodUnit.{TimePeriodUnit}
use Rattle.icma.specs.declared.parts.Part.{Part}
use Rattle.icma.specs.declared.parts.Parts.{Parts}
use Rattle.icma.specs.declared.parts.Parts.TheVariants.{Short, Long}
use Rattle.time_period.proofs.steps.Frequencies.{Regular, one_month, three_months, six_months, twelve_months, one_year, months_in, whole_year}
use Rattle.icma.proofs.parts.Sizes.{BrokenSize, PartsSize}

-- nothing to begin with
zero_near : Near (of_bits binary64 0) 0 0 1 0 0
zero_near = subst (λ (x : Float). Near x 0 0 1 0 0) (sym lit0) (near_int (pos 0) 0 (omega arith) (lit< tt))

-- days over a length that is not much less
part_near : (d : ℤ) (l : ℕ) → 1 ≤ l → l ≤ 3652059 → nat_abs d ≤ l + 30 → Near (quotient d l) (plus d) (minus d) l 32 (2 ^ 52)
part_near d l h k s =
    near_same (near_div (near_int d (nat_abs d) (omega (arith, size_is d)) (omega arith)) l 32 0 6 (omega arith) (omega arith) (omega arith) zero-le (lit≤ tt) (omega arith) (lit< tt))
    (plus d) (minus d) l (omega arith) (omega arith)

-- the first broken part, added to nothing
first_near : (x : Option Part) → BrokenSize x → Near (part_added (of_bits binary64 0) x) (plus (part_exact x).num) (minus (part_exact x).num) (part_exact x).den 32 (2 ^ 53)
first_near None s = near_weaken zero_near 32 (2 ^ 53) zero-le zero-le
first_near (Some x) s =
    near_same (near_add zero_near (part_near x.days x.length s.0 s.1 s.2) 6 (lit≤ tt) (lit< tt) (lit< tt)) (plus x.days) (minus x.days) x.length (omega arith) (omega arith)

-- the last, added to it
last_near : {y : Float} {a b d : ℕ} → Near y a b d 32 (2 ^ 53) → (x : Option Part) → BrokenSize x
    → Near (part_added y x) (a * (part_exact x).den + plus (part_exact x).num * d) (b * (part_exact x).den + minus (part_exact x).num * d) (d * (part_exact x).den) 64 (2 ^ 55)
last_near {y} {a} {b} {d} Y None s =
    near_weaken (near_same Y (a * 1 + 0 * d) (b * 1 + 0 * d) (d * 1) (let p = Y.den in omega arith) (omega arith)) 64 (2 ^ 55) (lit≤ tt) (lit≤ tt)
last_near Y (Some x) s = near_weaken (near_add Y (part_near x.days x.length s.0 s.1 s.2) 7 (lit≤ tt) (lit< tt) (lit< tt)) 64 (2 ^ 55) (lit≤ tt) (lit≤ tt)

-- the two sides of one fraction, multiplied out
sides : (a b c g d q n f : ℕ)
    → ((a * q + c * d) * 1 + n * (d * q)) * (f * (d * q)) + (b * q + g * d + 0) * (d * q * 1 * f) ≡ (a * q + c * d + n * (d * q)) * (d * q * 1 * f) + ((b * q + g * d) * 1 + 0 * (d * q)) * (f * (d * q))
sides a b c g d q n f = simp ring (omega arith)

-- (first + last + count) / frequency, for a count below 2 ^ t
long_near : (first last : Option Part) (n f t : ℕ) → BrokenSize first → BrokenSize last → 1 ≤ f → f ≤ 12 → t ≤ 900 → 64 + n < 2 ^ t → n < 2 ^ 53 → 64 + n ≤ f * 10150 → 2 ^ 55 + 0 + 2 ^ (46 + t) ≤ f * 2 ^ 61 → 2 ^ 55 + 0 + 2 ^ (46 + t) < 2 ^ 100
    → NearTo (parts_bits f (Long first last n)) (parts_exact f (Long first last n))
long_near first last n f t sf sl lf uf lt room few most err small =
    let p = part_exact first in
    let q = part_exact last in
    let S = last_near (first_near first sf) last sl in
    let N = near_add S (near_int (pos n) n (omega arith) few) t lt room (lit< tt) in
    let D = near_div N f 10150 (2 ^ 61) 14 (omega arith) (omega arith) most err (lit≤ tt) (omega arith) small in
    lands (parts_exact f (Long first last n)) D (diff_add (diff_add (diff_scale (of_int_lem p.num) q.den) (diff_scale (of_int_lem q.num) p.den)) (of_int_lem (pos (n * (p.den * q.den)))))
    (mul-pos (omega arith) S.den) (sides (plus p.num) (minus p.num) (plus q.num) (minus q.num) p.den q.den n f) (lit≤ tt) (lit≤ tt)

-- days / (length x frequency)
short_near : (days l f : ℕ) → 1 ≤ f → f ≤ 12 → 1 ≤ l → l ≤ 3652059 → days ≤ l + 30 → NearTo (parts_bits f (Short days l)) (parts_exact f (Short days l))
short_near days l f lf uf h k s =
    let q : l ≤ l * f = le-mul_of_pos_right l lf in
    let r : l * f ≤ l * 12 = mul-le-mul_left l uf in
    let X = near_div (near_int (pos days) days (omega arith) (omega arith)) (l * f) 32 0 6 (omega arith) (omega arith) (omega arith) zero-le (lit≤ tt) (omega arith) (lit< tt) in
    let Y = subst (λ (y : Float). Near (div binary64 (of_int binary64 (pos days)) y) days 0 (1 * (l * f)) 32 (0 + 2 ^ (46 + 6))) (sym (whole-mul l f (omega arith) (omega arith))) X in
    lands (parts_exact f (Short days l)) Y (of_int_lem (pos days)) (omega arith) (omega arith) (lit≤ tt) (lit≤ tt)

-- by the frequency: a count of n periods of m months is below the power of two that the frequency
-- allows
pub walk_near : (u : TimePeriodUnit) (n f : ℕ) (x : Parts) → Regular u n f → PartsSize (months_in u n) x → NearTo (parts_bits f x) (parts_exact f x)
walk_near u n f (Short days l) r s = let w = whole_year u n f r in short_near days l f w.from w.to s.0 s.1 s.2
walk_near u n f (Long first last c) (one_month a b d) s =
    let k : 1 * c ≤ 119987 = subst (λ (m : ℕ). m * c ≤ 119987) (ap₂ months_in a b) s.2 in
    rw d (long_near first last c 12 17 s.0 s.1 (lit≤ tt) (lit≤ tt) (lit≤ tt) (omega arith) (omega arith) (omega arith) (lit≤ tt) (lit< tt))
walk_near u n f (Long first last c) (three_months a b d) s =
    let k : 3 * c ≤ 119987 = subst (λ (m : ℕ). m * c ≤ 119987) (ap₂ months_in a b) s.2 in
    rw d (long_near first last c 4 16 s.0 s.1 (lit≤ tt) (lit≤ tt) (lit≤ tt) (omega arith) (omega arith) (omega arith) (lit≤ tt) (lit< tt))
walk_near u n f (Long first last c) (six_months a b d) s =
    let k : 6 * c ≤ 119987 = subst (λ (m : ℕ). m * c ≤ 119987) (ap₂ months_in a b) s.2 in
    rw d (long_near first last c 2 15 s.0 s.1 (lit≤ tt) (lit≤ tt) (lit≤ tt) (omega arith) (omega arith) (omega arith) (lit≤ tt) (lit< tt))
walk_near u n f (Long first last c) (twelve_months a b d) s =
    let k : 12 * c ≤ 119987 = subst (λ (m : ℕ). m * c ≤ 119987) (ap₂ months_in a b) s.2 in
    rw d (long_near first last c 1 14 s.0 s.1 (lit≤ tt) (lit≤ tt) (lit≤ tt) (omega arith) (omega arith) (omega arith) (lit≤ tt) (lit< tt))
walk_near u n f (Long first last c) (one_year a b d) s =
    let k : 12 * c ≤ 119987 = subst (λ (m : ℕ). m * c ≤ 119987) (ap₂ months_in a b) s.2 in
    rw d (long_near first last c 1 14 s.0 s.1 (lit≤ tt) (lit≤ tt) (lit≤ tt) (omega arith) (omega arith) (omega arith) (lit≤ tt) (lit< tt))
