-- `term_text::dot_at` meets its contract: the first byte that is a dot. A law of Parts.
use mathlib.Core.Path.{◌≡◌}
use Rattle.std.proofs.Common.{rules, tests}
use Rattle.std.proofs.lemmas.Iterator.{IsFirst-from_position, YieldsList-from_slice}
use Rattle.term_text.proofs.coupon.Parts.{first_dot}
use Rattle.term_text.proofs.coupon.dot_at.Goals as goal

pub returns : goal.returns
returns c = first_dot _ _ (IsFirst-from_position _ _ _ (λ b. b ≡ 46) (λ b. b ≡ 46 → ⊥) c.position.ensures.ran (YieldsList-from_slice _ c.iter.ensures.rest) (λ x q k. search (rules, tests)) (λ x q k. search (rules, tests)))
