-- What stands first, and what is left without it: a law of Decimals.
use mathlib.Core.Path.{refl, ap, ◌∙◌}
use denote.Ref.{Bor}
use mathlib.Core.List.{List}
use Prim.Native.Nat.{ℕ}
use Rattle.number_text.proofs.read.Decimals.{plus_cut}
use Rattle.number_text.proofs.read.after_plus.Goals as goal

pub returns : goal.returns
returns c = ap (λ (b : Bor (List ℕ)). b.now) c.unwrap_or.ensures ∙ plus_cut _ _ _ c.strip_prefix.ensures.cases refl
