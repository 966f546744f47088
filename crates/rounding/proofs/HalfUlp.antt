-- Rounding is within half an ulp, over whole numbers: in units of the format's
-- smallest value, 2 ^ -low.
use mathlib.Core.Path.{◌≡◌, sym, subst}
use Prim.Native.Nat.{ℕ, suc, ◌+◌, ◌-◌, ◌*◌, ◌/◌, ◌%◌, ◌^◌, ◌≤◌, ◌<◌, compare, Ordering}
use native.Mathlib.Nat.{lt_of_lt_of_le, mul_comm, add-mul, suc-mul, sub-le, two-pow-succ, mul-le-mul_right, mul-le-mul_left, lt_of_mul-lt-mul_right, mul-pos, div-add-mod', div-lt_iff_lt-mul, mod-lt}
use native.Mathlib.Omega.{arith}
use mathlib.Core.Bool.{Bool, not}
use lib.Dec.{T, is_le, compare_is_eq, leb→le, nleb→lt, eqb→eq}
use lib.Pow.{pow_pos, pow_mono}
use lib.Ieee.{Float, Format, prec, emax, low, size, nearest, round}
use lib.Ieee.Digits.{size-le}
use lib.Ieee.Fits.{round_is}
use lib.Ieee.Exact.{HasValue, units_val}
use lib.Ieee.Nearest.{closest}
use lib.Ieee.Order.{drop, kept}
use Rattle.rounding.proofs.Algebra.{ring, Apart}

-- the number is w * u + r; whichever way r * 2 compares with u, `nearest` is at most half of u away
near_multiple : (o : Ordering) (w u r n : ℕ) → (T (is_le o) → r * 2 ≤ u) → (T (not (is_le o)) → u < r * 2) → (T (compare_is_eq o) → r * 2 ≡ u) → r < u → w * u + r ≡ n
    → Apart (nearest w o * u * 2) (n * 2) u
near_multiple Ordering.lt w u r n le gt eq l e = let c : r * 2 ≤ u = le tt in omega arith
near_multiple Ordering.eq w u r n le gt eq l e =
    let c : r * 2 ≡ u = eq tt in
    let b : w % 2 * u ≤ 1 * u = mul-le-mul_right u (parity w) in
    let d : (w + w % 2) * u ≡ w * u + w % 2 * u = add-mul w (w % 2) u in
    omega arith
  where
    parity : (w : ℕ) → w % 2 ≤ 1
    parity w = omega arith
near_multiple Ordering.gt w u r n le gt eq l e = let c : u < r * 2 = gt tt in omega (arith, suc-mul w u)

-- twice the distance from n to the nearest multiple of u is at most u
pub closest_near : (n u : ℕ) → 0 < u → Apart (closest n u * u * 2) (n * 2) u
closest_near n u U =
    near_multiple (compare (n % u * 2) u) (n / u) u (n % u) n (leb→le (n % u * 2) u) (nleb→lt (n % u * 2) u) (eqb→eq (n % u * 2) u) (mod-lt n U) (div-add-mod' n u)

-- a finite x of `size` units with the sign s, and twice its distance from n / den units is at most
-- 2 ^ (j - prec)
pub record Rounded (f : Format) (x : Float) (s : Bool) (n den j : ℕ) : Type 0 where
  pub size : ℕ
  pub value : HasValue x s size (2 ^ low f)
  pub near : Apart (size * den * 2) (n * 2) (den * 2 ^ (j - prec f))

-- 2 r den ≤ 2 n + den 2^(j-p) and n < 2^j den give r < 2^(j+1)
below : (r den n j p : ℕ) → n < 2 ^ j * den → r * den * 2 ≤ n * 2 + den * 2 ^ (j - p) → r < 2 ^ suc j
below r den n j p h k =
    let a : den * 2 ^ (j - p) ≤ den * 2 ^ j = mul-le-mul_left den (pow_mono (sub-le j p)) in
    let d : (2 ^ j + 2 ^ j) * den ≡ 2 ^ j * den + 2 ^ j * den = add-mul (2 ^ j) (2 ^ j) den in
    rw two-pow-succ (lt_of_mul-lt-mul_right den (omega (arith, mul_comm den (2 ^ j))))

-- of a fraction below 2 ^ j units the rounded value is finite, and within half a unit in the last
-- place
pub round_near : (f : Format) (s : Bool) (num den j : ℕ) → 0 < den → num * 2 ^ low f < 2 ^ j * den → j < low f + suc (emax f)
    → Rounded f (round f s num den) s (num * 2 ^ low f) den j
round_near f s num den j D h top =
    let n = num * 2 ^ low f in
    let k = drop (prec f) n den in
    let q = kept (prec f) n den in
    let zs : size (n / den) ≤ j = size-le (n / den) j ((div-lt_iff_lt-mul D).1 h) in
    let ks : den * 2 ^ k ≤ den * 2 ^ (j - prec f) = mul-le-mul_left den (pow_mono (fewer (size (n / den)) (prec f) j zs)) in
    let w : Apart (q * (den * 2 ^ k) * 2) (n * 2) (den * 2 ^ k) = closest_near n (den * 2 ^ k) (mul-pos D (pow_pos k)) in
    let m : q * (den * 2 ^ k) ≡ q * 2 ^ k * den = simp ring in
    let v : Apart (q * 2 ^ k * den * 2) (n * 2) (den * 2 ^ (j - prec f)) = omega arith in
    let o : q * 2 ^ k < 2 ^ (low f + suc (emax f)) = lt_of_lt_of_le (below (q * 2 ^ k) den n j (prec f) h v.0) (pow_mono top) in
    record {
      size = q * 2 ^ k;
      value = subst (λ (x : Float). HasValue x s (q * 2 ^ k) (2 ^ low f)) (sym (round_is f s num den)) (units_val f s q k o);
      near = v;
    }
  where
    fewer : (z p j : ℕ) → z ≤ j → z - p ≤ j - p
    fewer z p j h = omega arith
