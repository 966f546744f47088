-- The larger of the width and the length of the shortest decimal: laws of Digits.
use native.Mathlib.Omega.{arith}
use Rattle.number_text.proofs.length.Digits.{length_decimal, length_padded}
use Rattle.number_text.proofs.length.padded_length.Goals as goal

pub returns : goal.returns
returns c = omega (arith, c.max.ensures, c.decimal_length.ensures, length_decimal c.args.n, length_padded c.args.width c.args.n)
