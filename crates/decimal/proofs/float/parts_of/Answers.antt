-- `decimal::parts_of` meets its contract: a number other than itself is a NaN; any other is the
-- number of its bits.
use mathlib.Core.Path.{sym, subst}
use lib.Ieee.Bits.{of_bits-to_bits}
use lib.Ieee.Compare.{differs_from_itself}
use lib.Ieee.{Float, binary64}
use lib.Dec.{T}
use borrow.Author.Rules.{rules}
use Rattle.decimal.specs.float.Parts.{PartsOf}
use Rattle.outcome.proofs.Numbers.{not-nan}
use Rattle.decimal.proofs.float.parts_of.Goals as goal

pub returns-then-x : goal.returns-then-x
returns-then-x c = rw (differs_from_itself _ (subst T (sym c.if-x.true) tt))

pub float_to_bits-x : goal.float_to_bits-x
float_to_bits-x c = not-nan _ c.if-x.false

pub returns : goal.returns
returns c = subst (λ (x : Float). PartsOf x c.parts_of_bits.result) (of_bits-to_bits binary64 _ (search rules)) c.parts_of_bits.ensures
