-- `term_text::trim_end` meets its contract: each blank passed leaves the same text to trim. Laws of
-- Parts.
use mathlib.Core.Path.{sym, ◌∙◌}
use Rattle.term_text.proofs.coupon.Parts.{end_less, end_here, end_none}
use Rattle.term_text.proofs.coupon.trim_end.Goals as goal

pub loop-s-preserved : goal.loop-s-preserved
loop-s-preserved c = end_less c.loop-s.s.now 0 _ c.loop-s.invariant c.in-len1-up.len_at_least (sym c.is_blank.ensures ∙ c.if-not-is_blank.false)

pub returns-in_default : goal.returns-in_default
returns-in_default c = end_none _ _ c.loop-s.invariant c.in_default.len_below

pub returns-then-not-is_blank : goal.returns-then-not-is_blank
returns-then-not-is_blank c = end_here _ 0 _ c.loop-s.invariant c.in-len1-up.len_at_least (sym c.is_blank.ensures ∙ c.if-not-is_blank.true)
