use mathlib.Core.Path.{◌≡◌}
use lib.ListN.{length}
use Rattle.term_text.specs.coupon.CouponTexts.{trim_start}
use Rattle.term_text.proofs.coupon.trim_start.Given as goal

abbrev pub invariant-loop-s : goal.invariant-loop-s
invariant-loop-s l = trim_start l.s ≡ trim_start l.initial.s

abbrev pub decreases-loop-s : goal.decreases-loop-s
decreases-loop-s l = length l.s
