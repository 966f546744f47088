use mathlib.Core.Path.{◌≡◌}
use lib.ListN.{length}
use Rattle.term_text.specs.coupon.CouponTexts.{trim_end}
use Rattle.term_text.proofs.coupon.trim_end.Given as goal

abbrev pub invariant-loop-s : goal.invariant-loop-s
invariant-loop-s l = trim_end l.s ≡ trim_end l.initial.s

abbrev pub decreases-loop-s : goal.decreases-loop-s
decreases-loop-s l = length l.s
