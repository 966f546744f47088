-- `term_text::trim_start` meets its contract: each blank passed leaves the same text to trim. Laws
-- of Parts.
use mathlib.Core.Path.{sym, ◌∙◌, ap}
use Rattle.outcome.proofs.Lists.{part_from}
use Rattle.term_text.specs.coupon.CouponTexts.{trim_start}
use Rattle.term_text.proofs.coupon.Parts.{start_less, start_here, start_none}
use Rattle.term_text.proofs.coupon.trim_start.Goals as goal

pub loop-s-preserved : goal.loop-s-preserved
loop-s-preserved c = ap trim_start (part_from c.loop-s.s.now 1) ∙ start_less c.loop-s.s.now 0 _ c.loop-s.invariant c.in-len1-up.len_at_least (sym c.is_blank.ensures ∙ c.if-not-is_blank.false)

pub returns-in_default : goal.returns-in_default
returns-in_default c = start_none _ _ c.loop-s.invariant c.in_default.len_below

pub returns-then-not-is_blank : goal.returns-then-not-is_blank
returns-then-not-is_blank c = start_here _ 0 _ c.loop-s.invariant c.in-len1-up.len_at_least (sym c.is_blank.ensures ∙ c.if-not-is_blank.true)
