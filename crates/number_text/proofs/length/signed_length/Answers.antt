-- The sign and the digits: laws of Signs.
use mathlib.Core.Path.{◌≡◌, ◌∙◌}
use Prim.Native.Nat.{◌+◌}
use native.Mathlib.Omega.{arith}
use lib.ListN.{length}
use mir.Facts.{to_z-of_z}
use mir.Syntax.{w32}
use Rattle.outcome.proofs.Signs.{below_flag}
use Rattle.number_text.specs.length.NumberTexts.{signed_text}
use Rattle.number_text.proofs.length.Signs.{sign-bytes, signed_length_is, signed-within}
use Rattle.number_text.proofs.length.signed_length.Goals as goal
use Rattle.number_text.proofs.length.signed_length.Goals.{After-decimal_length}

sum : (c : After-decimal_length) → c.from.result + c.decimal_length.result ≡ length (signed_text c.args.n)
sum c =
    let size = rw (to_z-of_z {w = w32} c.ranges.n) at c.magnitude.ensures in
    rw (c.from.ensures, sign-bytes) (signed_length_is c.args.n _ _ _ (below_flag c.args.n c.ranges.n) (c.from-2.ensures ∙ size) c.decimal_length.ensures)

pub overflow_add-result : goal.overflow_add-result
overflow_add-result c = record { fits = omega (arith, sum (goal.at.overflow_add-result c).After-decimal_length, signed-within c.args.n c.ranges.n) }

pub returns : goal.returns
returns c = sum (goal.at.returns c).After-decimal_length
