-- Laws of multiplying a number by its digits: from the last digit on, with a carry.
use Prim.Native.Nat.{ℕ, zero, suc, ◌+◌, ◌-◌, ◌*◌, ◌/◌, ◌%◌, ◌^◌, ◌≤◌, ◌<◌}
use mathlib.Core.Path.{◌≡◌, sym, ap, ◌∙◌, subst}
use mathlib.Core.List.{List, [], ◌∷◌, ◌++◌, append-nil}
use native.Mathlib.Nat.{mul_assoc, mul_right_comm, add-mul, sub_self, add-zero, div-one, mul-le-mul_right}
use native.Mathlib.Numerals.{add-one}
use native.Mathlib.Omega.{arith}
use lib.Pow.{pow-add}
use lib.ListN.{length, take, set, get_or}
use lib.Seq.{take-set-le, take-length, take_at, drop-length, get_or_at, get_or-take, take-take}
use Rattle.outcome.proofs.Numbers.{digits_apart}
use Rattle.number_text.specs.write.Writing.{digits, put, Puts}
use Rattle.number_text.specs.declared.write.Writer.{Writer}
use Rattle.number_text.proofs.length.Digits.{length_digits}
use Rattle.number_text.proofs.write.Putting.{put_last, put-none, put_front}
use Rattle.decimal.specs.big_digits.BigDigits.{Multiplied}

-- where the first suc j elements are the digits of v, element j is the last of them, and the first
-- j are those of v / 10
last_digit : (l : List ℕ) (j v : ℕ) → j < length l → take (suc j) l ≡ digits (suc j) v → get_or l j 0 ≡ 48 + v % 10
unfolding digits
last_digit l j v h e =
    sym (get_or-take (suc j) l j 0 (omega arith)) ∙ ap (λ (x : List ℕ). get_or x j 0) e ∙ get_or_at (digits j (v / 10)) (48 + v % 10) [] 0 j (length_digits j (v / 10))

first-digits : (l : List ℕ) (j v : ℕ) → take (suc j) l ≡ digits (suc j) v → take j l ≡ digits j (v / 10)
unfolding digits
first-digits l j v e =
    sym (take-take j (suc j) l (omega arith)) ∙ ap (take j) e ∙ take_at (digits j (v / 10)) ((48 + v % 10) ∷ []) j (length_digits j (v / 10))

-- half way: the first i elements of o are still the old digits, and with the new ones in their
-- place all is done; c is the carry
abbrev pub Half : ℕ → List ℕ → ℕ → ℕ → ℕ → ℕ → Type 0
Half m o i c k n = (take i o ≡ digits i (n / 10 ^ (k - i))) × (put o 0 (digits i (n / 10 ^ (k - i) * m + c)) ≡ digits k (n * m))

put_all : (d xs : List ℕ) → length xs ≡ length d → put d 0 xs ≡ xs
put_all d xs e = put_front d xs (length d) e ∙ rw (drop-length d) (append-nil xs)

pub half_start : (m : ℕ) (o : List ℕ) (n : ℕ) → o ≡ digits (length o) n → Half m o (length o) 0 (length o) n
half_start m o n e =
    rw (sub_self (length o), div-one n, add-zero (n * m)) (take-length o ∙ e, put_all o (digits (length o) (n * m)) (length_digits (length o) (n * m)))

-- one digit: v times m with the carry, cut into its last digit and the rest
carried : (m v d c : ℕ) → d ≡ 48 + v % 10 → v * m + c ≡ d % 16 * m + c + v / 10 * m * 10
carried m v d c e =
    let low : d % 16 ≡ v % 10 = omega arith in
    let whole : v ≡ v % 10 + v / 10 * 10 = omega arith in
    let parts : v * m ≡ v % 10 * m + v / 10 * m * 10 = ap (λ (x : ℕ). x * m) whole ∙ add-mul (v % 10) (v / 10 * 10) m ∙ ap (λ (x : ℕ). v % 10 * m + x) (mul_right_comm (v / 10) 10 m) in
    rw (low) (omega arith)

half_more : (m : ℕ) (o : List ℕ) (j c k n t : ℕ) → suc j ≤ k → length o ≡ k → t ≡ get_or o j 0 % 16 * m + c → Half m o (suc j) c k n → Half m (set o j (48 + t % 10)) j (t / 10) k n
unfolding digits
half_more m o j c k n t l e u h =
    let v : ℕ = n / 10 ^ (k - suc j) in
    let s : n / 10 ^ (k - j) ≡ v / 10 = sym (rw (add-one j) at (digits_apart 10 n k j l)) in
    let g : get_or o j 0 ≡ 48 + v % 10 = last_digit o j v (omega arith) h.0 in
    let w : v * m + c ≡ t + v / 10 * m * 10 = carried m v (get_or o j 0) c g ∙ ap (λ (x : ℕ). x + v / 10 * m * 10) (sym u) in
    let rest : v / 10 * m + t / 10 ≡ (v * m + c) / 10 = omega arith in
    let last : t % 10 ≡ (v * m + c) % 10 = omega arith in
    let xs : List ℕ = digits j (v / 10 * m + t / 10) in
    let len : length xs ≡ j = length_digits j (v / 10 * m + t / 10) in
    let put1 : put (set o (0 + length xs) (48 + t % 10)) 0 xs ≡ put o 0 (xs ++ ((48 + t % 10) ∷ [])) = put_last o 0 xs (48 + t % 10) (omega arith) in
    let place : 0 + length xs ≡ j = omega arith in
    rw (s) (
      take-set-le j o j (48 + t % 10) (omega arith) ∙ first-digits o j v h.0,
      subst (λ (p : ℕ). put (set o p (48 + t % 10)) 0 xs ≡ put o 0 (xs ++ ((48 + t % 10) ∷ []))) place put1 ∙ rw (rest, last) h.1,
    )

pub half_step : (m : ℕ) (o : List ℕ) (i c k n t : ℕ) → 1 ≤ i → i ≤ k → length o ≡ k → t ≡ get_or o (i - 1) 0 % 16 * m + c → Half m o i c k n → Half m (set o (i - 1) (48 + t % 10)) (i - 1) (t / 10) k n
half_step m o zero c k n t l h e f g = absurd (omega arith)
half_step m o (suc j) c k n t l h e f g =
    let p : suc j - 1 ≡ j = omega arith in
    rw (p) (half_more m o j c k n t h e (rw (p) at f) g)

pub half_end : (m : ℕ) (o : List ℕ) (i c k n : ℕ) → i ≤ 0 → Half m o i c k n → o ≡ digits k (n * m)
unfolding digits
half_end m o zero c k n l h = sym (put-none o 0) ∙ h.1
half_end m o (suc i) c k n l h = absurd (omega arith)

-- the digit's product fits, and so does what is carried
pub product_small : (d m : ℕ) → m ≤ 2 ^ 48 → d % 16 * m ≤ 15 * m
product_small d m h = mul-le-mul_right m (omega arith)

-- ---- so many factors two, and then so many more

pub scaled_start : (d o : List ℕ) (v w : Writer) (n : ℕ) → v.out.now ≡ d → v.at ≡ 0 → Puts v w (digits (length d) n) → o ≡ w.out.now → (length o ≡ length d) × (o ≡ digits (length d) (n * 1))
scaled_start d o v w n e f p q =
    let all : o ≡ digits (length d) n = q ∙ p.bytes ∙ rw (e, f) (put_all d (digits (length d) n) (length_digits (length d) n)) in
    (ap length all ∙ length_digits (length d) n, all ∙ ap (digits (length d)) (omega arith))

pub scaled_more : (o p : List ℕ) (k n m i j l : ℕ) → length o ≡ k → o ≡ digits k (n * 2 ^ i) → m ≡ 2 ^ j → i + j ≡ l → Multiplied m o p → p ≡ digits k (n * 2 ^ l)
scaled_more o p k n m i j l len e q s f =
    let r : p ≡ digits (length o) (n * 2 ^ i * m) = f (n * 2 ^ i) (rw (len) e) in
    let twos : 2 ^ i * 2 ^ j ≡ 2 ^ l = sym (pow-add 2 i j) ∙ ap (λ (x : ℕ). 2 ^ x) s in
    r ∙ rw (len, q) (ap (digits k) (mul_assoc n (2 ^ i) (2 ^ j) ∙ ap (λ (x : ℕ). n * x) twos))
