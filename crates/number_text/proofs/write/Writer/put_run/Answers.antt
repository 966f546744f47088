-- A part replaced: a law of Putting.
use native.Mathlib.Omega.{arith}
use mathlib.Core.Path.{ap, ◌∙◌}
use Prim.Native.Nat.{ℕ}
use lib.ListN.{replicate, length-replicate, length-take, length-drop}
use Rattle.number_text.proofs.write.Putting.{puts_part}
use Rattle.number_text.proofs.write.Writer.put_run.Goals as goal

pub returns : goal.returns
returns c =
    let long = length-replicate c.args.count c.args.b in
    puts_part _ _ _ _ _ c.requires (c.fill.ensures.after (λ y e. e) ∙ ap (λ (n : ℕ). replicate n c.args.b) (simp (length-take, length-drop) (omega arith))) (omega arith) (omega arith)
