-- Texts of coupon dates that the paper and the lists of slips name, as theorems about the
-- definitions.
use mathlib.Core.Path.{◌≡◌, refl}
use mathlib.Core.List.{[], ◌∷◌}
use Rattle.outcome.specs.Lists.{all_of}
use Rattle.outcome.specs.Outcome.{given, refused}
use Rattle.number_text.specs.read.Reading.{is_digit, is_decimal, continued, decimal_number, begins, after_plus, unsigned_number}
use Rattle.number_text.specs.write.Writing.{digits, places_within, places, padded_text}
use Rattle.calendar.specs.gregorian.Gregorian.{leap, length_in, month_length}
use Rattle.term_text.specs.coupon.CouponTexts.{is_blank, trim_start, part_before, trim_end, trimmed, has_dot, up_to_dot, after_dot, month_part, day_part, coupon_text, coupon_date_text}
use Rattle.coupon_date.specs.Coupons.{coupon_date_of}
use Rattle.coupon_date.proofs.Examples.{on}

-- `15.07`, ` +5.+6.zz ` (later parts ignored), `15` (no dot), `-0.5`, `(5).6`
pub record Texts : Type 0 where
  pub plain : coupon_text (49 ∷ 53 ∷ 46 ∷ 48 ∷ 55 ∷ []) ≡ given (on 15 7)
  pub signs_and_blanks : coupon_text (32 ∷ 43 ∷ 53 ∷ 46 ∷ 43 ∷ 54 ∷ 46 ∷ 122 ∷ 122 ∷ 32 ∷ []) ≡ given (on 5 6)
  pub no_dot : coupon_text (49 ∷ 53 ∷ []) ≡ refused 6
  pub minus : coupon_text (45 ∷ 48 ∷ 46 ∷ 53 ∷ []) ≡ refused 6
  pub inner_blank : coupon_text (53 ∷ 32 ∷ 46 ∷ 54 ∷ []) ≡ refused 6
  pub day_257 : coupon_text (50 ∷ 53 ∷ 55 ∷ 46 ∷ 49 ∷ []) ≡ refused 8
  pub unicode_blank : coupon_text (194 ∷ 160 ∷ 49 ∷ 53 ∷ 46 ∷ 48 ∷ 55 ∷ []) ≡ refused 6
  pub empty : coupon_text [] ≡ refused 6
  pub written : coupon_date_text (on 5 7) ≡ 48 ∷ 53 ∷ 46 ∷ 48 ∷ 55 ∷ []

pub texts : Texts
unfolding coupon_date_of leap length_in month_length is_digit all_of is_decimal continued decimal_number begins after_plus unsigned_number digits places_within places padded_text is_blank trim_start part_before trim_end trimmed has_dot up_to_dot after_dot month_part day_part coupon_text coupon_date_text
texts =
    record {
      plain = refl;
      signs_and_blanks = refl;
      no_dot = refl;
      minus = refl;
      inner_blank = refl;
      day_257 = refl;
      unicode_blank = refl;
      empty = refl;
      written = refl;
    }
