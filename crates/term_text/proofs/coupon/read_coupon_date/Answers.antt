-- `term_text::read_coupon_date` meets its contract: the parts of the text without its blanks.
use mathlib.Core.Path.{◌≡◌, ◌∙◌, ap}
use mathlib.Core.List.{List}
use Prim.Native.Nat.{ℕ, ◌+◌}
use Rattle.outcome.specs.Refusals.{number_of}
use Rattle.outcome.proofs.Lists.{part_from}
use Rattle.outcome.proofs.Refusals.{handed_on}
use Rattle.number_text.specs.read.Reading.{unsigned_number}
use Rattle.term_text.specs.coupon.CouponTexts.{trim_end, trimmed, up_to_dot, month_part, day_part, coupon_text}
use Rattle.term_text.proofs.coupon.read_coupon_date.Goals as goal
use Rattle.term_text.proofs.coupon.read_coupon_date.Goals.{After-trim_end-s, In-Some}

-- the text without its blanks, its day's and its month's part
bare : (c : After-trim_end-s) → c.trim_end-s.result.now ≡ trimmed c.args.s.now
unfolding trimmed
bare c = c.trim_end-s.ensures ∙ ap trim_end c.trim_start.ensures

pub returns-in_default : goal.returns-in_default
unfolding coupon_text day_part
returns-in_default c = rw (← bare (goal.at.returns-in_default c).After-trim_end-s, c.in_default.ensures.0)

pub returns-in_err-day : goal.returns-in_err-day
unfolding coupon_text day_part
returns-in_err-day c =
    rw (← bare (goal.at.returns-in_err-day c).After-trim_end-s, c.in-Some.ensures.1)
    (handed_on _ _ _ c.from_residual.ensures.1 (c.in_err-day.ensures number_of ∙ ap (unsigned_number 6) c.in-Some.ensures.2))

pub returns-in_err-month : goal.returns-in_err-month
unfolding coupon_text day_part month_part
returns-in_err-month c =
    let s = c.trim_end-s.result.now in
    let day = c.in_ok-day.ensures number_of ∙ ap (unsigned_number 6) c.in-Some.ensures.2 in
    let behind = part_from s (c.in-Some.dot + 1) ∙ c.in-Some.ensures.3 in
    rw (← bare (goal.at.returns-in_err-month c).After-trim_end-s, c.in-Some.ensures.1, ← day)
    (handed_on _ _ _ c.from_residual-in_err-month.ensures.1 (c.in_err-month.ensures ∙ ap (λ (t : List ℕ). unsigned_number 6 (up_to_dot t)) behind))

pub returns : goal.returns
unfolding coupon_text day_part month_part
returns c =
    let s = c.trim_end-s.result.now in
    let day = c.in_ok-day.ensures number_of ∙ ap (unsigned_number 6) c.in-Some.ensures.2 in
    let behind = part_from s (c.in-Some.dot + 1) ∙ c.in-Some.ensures.3 in
    let month = c.in_ok-month.ensures ∙ ap (λ (t : List ℕ). unsigned_number 6 (up_to_dot t)) behind in
    rw (← bare (goal.at.returns c).After-trim_end-s, c.in-Some.ensures.1, ← day, ← month) c.new_coupon_date.ensures
