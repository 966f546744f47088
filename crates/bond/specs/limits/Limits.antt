-- The limits of a note's number and of its rate.
use Rattle.std.specs.Prelude.{◌^◌, ◌≡◌, Bool, not, leb, ltb, Float}
use Rattle.outcome.specs.Outcome.{both}
use Rattle.rounding.specs.Close.{sign_bit}
use Rattle.cash_flow.specs.currency.Amounts.{up_to}
use Rattle.bond.specs.declared.limits.NoteNumber.{NoteNumber}

-- number: 1 to 10 digits
unfoldable pub is_note_number : NoteNumber → Bool
is_note_number n = both (both (leb 1 n.count) (leb n.count 10)) (ltb n.digits (10 ^ n.count))

-- rate in percent: finite, 0 to 100, a zero with its sign bit set refused
unfoldable pub is_coupon_rate : Float → Bool
is_coupon_rate x = both (not (sign_bit x)) (up_to 100 x)

-- what the entry points promise of their result r
abbrev pub NoteNumberPromise : NoteNumber → Bool → Type 0
NoteNumberPromise n r = r ≡ is_note_number n

abbrev pub CouponRatePromise : Float → Bool → Type 0
CouponRatePromise x r = r ≡ is_coupon_rate x
