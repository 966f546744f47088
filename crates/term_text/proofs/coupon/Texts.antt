-- The text of a coupon date: its length, and that it reads back.
use Prim.Native.Nat.{ℕ, ◌+◌, ◌≤◌, ◌<◌}
use mathlib.Core.Path.{◌≡◌, refl, ◌∙◌, ap, ap₂}
use mathlib.Core.Bool.{true, false}
use mathlib.Core.List.{List, [], ◌∷◌, ◌++◌}
use native.Mathlib.Omega.{arith}
use lib.Dec.{eqb}
use lib.ListN.{length, length-append}
use borrow.Author.Tests.{ne_eqb, lt-leb, le-leb}
use Rattle.outcome.specs.Lists.{Every, all_of}
use Rattle.outcome.specs.Outcome.{given}
use Rattle.outcome.proofs.Lists.{every_append}
use Rattle.outcome.proofs.Outcomes.{both_true}
use Rattle.number_text.specs.read.Reading.{is_digit, all_digits}
use Rattle.number_text.specs.write.Writing.{padded_text}
use Rattle.number_text.proofs.read.Decimals.{digit_bounds}
use Rattle.number_text.proofs.length.Digits.{length_padded, places_least, digits_all}
use Rattle.number_text.proofs.length.RoundTrips.{padded_back}
use Rattle.term_text.specs.coupon.CouponTexts.{is_blank, trim_start, part_before, trim_end, trimmed, has_dot, up_to_dot, after_dot, month_part, day_part, coupon_text, coupon_date_text}
use Rattle.coupon_date.specs.Coupons.{coupon_date_of}
use Rattle.coupon_date.specs.declared.CouponDate.{CouponDate}
use Rattle.coupon_date.proofs.Coupons.{coupon-yes}
use Rattle.calendar.proofs.gregorian.Months.{at_most}

pub text_length : (c : CouponDate) → length (coupon_date_text c) ≡ length (padded_text 2 c.day) + 1 + length (padded_text 2 c.month)
unfolding coupon_date_text
text_length c = omega (arith, length-append (padded_text 2 c.day) (46 ∷ padded_text 2 c.month))

-- two digits, or up to the ten of a 32-bit number
pub padded_most : (n : ℕ) → n < 4294967296 → length (padded_text 2 n) ≤ 10
padded_most n h = omega (arith, length_padded 2 n, places_least 10 n (omega arith) (omega arith))

-- a digit is neither a blank nor a dot
digit_visible : (b : ℕ) → is_digit b ≡ true → is_blank b ≡ false
unfolding is_blank
digit_visible b h =
    let k = digit_bounds b h in
    rw (ne_eqb b 32 (λ e. omega arith), le-leb 9 b (omega arith), lt-leb b 13 (omega arith))

dot_visible : is_blank 46 ≡ false
unfolding is_blank
dot_visible = refl

digit_no_dot : (b : ℕ) → is_digit b ≡ true → eqb b 46 ≡ false
digit_no_dot b h = let k = digit_bounds b h in ne_eqb b 46 (λ e. omega arith)

-- no byte is a blank: nothing is trimmed
abbrev Visible : List ℕ → Type 0
Visible s = Every (λ b. is_blank b ≡ false) s

digits_visible : (s : List ℕ) → all_digits s ≡ true → Visible s
unfolding all_of
digits_visible [] h = omega arith
digits_visible (b ∷ s) h = let k = both_true (is_digit b) (all_digits s) h in (digit_visible b k.0, digits_visible s k.1)

start_visible : (s : List ℕ) → Visible s → trim_start s ≡ s
unfolding trim_start
start_visible [] v = refl
start_visible (b ∷ s) v = rw v.0

end_visible : (s : List ℕ) → Visible s → trim_end s ≡ s
unfolding trim_end part_before
end_visible [] v = refl
end_visible (b ∷ []) v = rw v.0
end_visible (b ∷ c ∷ s) v = ap (part_before b) (end_visible (c ∷ s) v.1)

-- the parts of a text of digits, with a dot and without
module _ (t : List ℕ) where
  up_to_dot_lem : (s : List ℕ) → all_digits s ≡ true → up_to_dot (s ++ (46 ∷ t)) ≡ s
  unfolding up_to_dot all_of
  up_to_dot_lem [] h = refl
  up_to_dot_lem (b ∷ s) h = let k = both_true (is_digit b) (all_digits s) h in rw (digit_no_dot b k.0) (ap (λ (r : List ℕ). b ∷ r) (up_to_dot_lem s k.1))

  has_dot_lem : (s : List ℕ) → all_digits s ≡ true → has_dot (s ++ (46 ∷ t)) ≡ true
  unfolding has_dot all_of
  has_dot_lem [] h = refl
  has_dot_lem (b ∷ s) h = let k = both_true (is_digit b) (all_digits s) h in rw (digit_no_dot b k.0) (has_dot_lem s k.1)

  after_dot_lem : (s : List ℕ) → all_digits s ≡ true → after_dot (s ++ (46 ∷ t)) ≡ t
  unfolding after_dot all_of
  after_dot_lem [] h = refl
  after_dot_lem (b ∷ s) h = let k = both_true (is_digit b) (all_digits s) h in rw (digit_no_dot b k.0) (after_dot_lem s k.1)

no_dot : (s : List ℕ) → all_digits s ≡ true → up_to_dot s ≡ s
unfolding up_to_dot all_of
no_dot [] h = refl
no_dot (b ∷ s) h = let k = both_true (is_digit b) (all_digits s) h in rw (digit_no_dot b k.0) (ap (λ (r : List ℕ). b ∷ r) (no_dot s k.1))

padded_all : (n : ℕ) → all_digits (padded_text 2 n) ≡ true
unfolding padded_text
padded_all n = digits_all _ n

-- a coupon date's text reads back as the same pair, judged again
pub text_back : (c : CouponDate) → c.day < 4294967296 → c.month < 4294967296 → coupon_text (coupon_date_text c) ≡ coupon_date_of c.day c.month
unfolding coupon_text trimmed coupon_date_text day_part month_part
text_back c d m =
    let s = padded_text 2 c.day in
    let t = padded_text 2 c.month in
    let ds = padded_all c.day in
    let dt = padded_all c.month in
    let v = every_append (λ b. is_blank b ≡ false) s (46 ∷ t) (digits_visible s ds) (dot_visible, digits_visible t dt) in
    ap day_part (ap trim_end (start_visible (s ++ (46 ∷ t)) v) ∙ end_visible (s ++ (46 ∷ t)) v)
    ∙ rw (has_dot_lem t s ds, up_to_dot_lem t s ds, after_dot_lem t s ds, padded_back 6 2 c.day d, no_dot t dt, padded_back 6 2 c.month m)

-- every accepted coupon date is read back from its text
pub round_trip : (d m : ℕ) (c : CouponDate) → coupon_date_of d m ≡ given c → coupon_text (coupon_date_text c) ≡ given c
round_trip d m c e =
    let k = coupon-yes d m c e in
    let day : c.day ≡ d = ap (λ (x : CouponDate). x.day) k.itself in
    let month : c.month ≡ m = ap (λ (x : CouponDate). x.month) k.itself in
    text_back c (omega (arith, k.day-to, at_most 2019 m)) (omega (arith, k.month_to)) ∙ ap₂ coupon_date_of day month ∙ e
