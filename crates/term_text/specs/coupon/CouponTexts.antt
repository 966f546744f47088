-- Coupon dates as dd.mm text.
use Rattle.std.specs.Prelude.{ℕ, ◌+◌, ◌<◌, ◌≡◌, Bool, true, false, List, [], ◌∷◌, ◌++◌, leb, eqb, length, take, drop, Option, Some, None, Result}
use Rattle.outcome.specs.Outcome.{Outcome, unless, and_then, pick, both}
use Rattle.outcome.specs.Refusals.{outcome_of}
use Rattle.outcome.specs.declared.Refusal.{Refusal}
use Rattle.number_text.specs.read.Reading.{unsigned_number}
use Rattle.number_text.specs.write.Writing.{padded_text}
use Rattle.coupon_date.specs.Coupons.{coupon_date_of}
use Rattle.coupon_date.specs.declared.CouponDate.{CouponDate}

-- ASCII blanks: 9 to 13 and 32
unfoldable pub is_blank : ℕ → Bool
is_blank b = pick (eqb b 32) true (both (leb 9 b) (leb b 13))

-- blanks are trimmed at both ends
unfoldable pub trim_start : List ℕ → List ℕ
trim_start [] = []
trim_start (b ∷ s) = pick (is_blank b) (trim_start s) (b ∷ s)

unfoldable pub part_before : ℕ → List ℕ → List ℕ
part_before b [] = pick (is_blank b) [] (b ∷ [])
part_before b (c ∷ s) = b ∷ c ∷ s

unfoldable pub trim_end : List ℕ → List ℕ
trim_end [] = []
trim_end (b ∷ s) = part_before b (trim_end s)

unfoldable pub trimmed : List ℕ → List ℕ
trimmed s = trim_end (trim_start s)

-- split at the first dot (46): is there one, what stands before it, what stands behind it
unfoldable pub has_dot : List ℕ → Bool
has_dot [] = false
has_dot (b ∷ s) = pick (eqb b 46) true (has_dot s)

unfoldable pub up_to_dot : List ℕ → List ℕ
up_to_dot [] = []
up_to_dot (b ∷ s) = pick (eqb b 46) [] (b ∷ up_to_dot s)

unfoldable pub after_dot : List ℕ → List ℕ
after_dot [] = []
after_dot (b ∷ s) = pick (eqb b 46) s (after_dot s)

-- the first two parts are u32 decimals, else 6; later parts are ignored
unfoldable pub month_part : ℕ → List ℕ → Outcome CouponDate
month_part d s = and_then (unsigned_number 6 (up_to_dot s)) (λ m. coupon_date_of d m)

unfoldable pub day_part : List ℕ → Outcome CouponDate
day_part s = unless (has_dot s) 6 (and_then (unsigned_number 6 (up_to_dot s)) (λ d. month_part d (after_dot s)))

unfoldable pub coupon_text : List ℕ → Outcome CouponDate
coupon_text s = day_part (trimmed s)

-- written back as dd.mm, two digits each
unfoldable pub coupon_date_text : CouponDate → List ℕ
coupon_date_text c = padded_text 2 c.day ++ (46 ∷ padded_text 2 c.month)

-- what the entry point promises of its result r
abbrev pub ReadCouponPromise : List ℕ → Result CouponDate Refusal → Type 0
ReadCouponPromise s r = outcome_of r ≡ coupon_text s

-- i is the place of the first dot of s, if there is one
abbrev pub DotAt : List ℕ → Option ℕ → Type 0
DotAt s None = (has_dot s ≡ false) × (up_to_dot s ≡ s)
DotAt s (Some i) = (i < length s) × (has_dot s ≡ true) × (take i s ≡ up_to_dot s) × (drop (i + 1) s ≡ after_dot s)
