-- `decimal::leading_zeros` meets its contract: the first byte that is not a zero. Laws of Zeros.
use mathlib.Core.Path.{◌≡◌, sym, ◌∙◌}
use Rattle.std.proofs.Common.{rules, tests}
use Rattle.std.proofs.lemmas.Iterator.{IsFirst-from_position, YieldsList-from_slice, index_from_first}
use Rattle.decimal.specs.big_digits.BigDigits.{zeros_leading}
use Rattle.decimal.proofs.big_digits.Zeros.{zeros_none, zero-first, other_first}
use Rattle.decimal.proofs.big_digits.leading_zeros.Goals as goal

pub returns : goal.returns
returns c =
    let first = IsFirst-from_position _ _ _ (λ b. b ≡ 48 → ⊥) (λ b. b ≡ 48) c.position.ensures.ran (YieldsList-from_slice _ c.iter.ensures.rest) (λ x q k. search (rules, tests)) (λ x q k. search (rules, tests)) in
    c.unwrap_or.ensures ∙ sym (index_from_first zeros_leading (λ b. b ≡ 48 → ⊥) (λ b. b ≡ 48) zeros_none other_first zero-first c.args.s.now _ first)
