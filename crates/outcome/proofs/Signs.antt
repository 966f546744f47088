-- Laws of the sign of a number, as code compares it.
use mathlib.Core.Path.{◌≡◌, refl}
use native.Mathlib.Omega.{arith}
use lib.IntN.{ℤ, pos, negsuc}
use lib.Signed.{lt_z}
use mir.Syntax.{w32}
use mir.Val.{SFits, to_z, of_z}
use mir.Facts.{to_z-of_z}
use borrow.Author.Tests.{le-ltb}
use Rattle.outcome.specs.Signs.{is_negative}

pub below_negative : (z : ℤ) → lt_z z (pos 0) ≡ is_negative z
below_negative (pos n) = le-ltb n 0 (omega arith)
below_negative (negsuc n) = refl

-- the test of a number against zero, as code has it
pub below_flag : (z : ℤ) → SFits w32 z → lt_z (to_z w32 (of_z w32 z)) (pos 0) ≡ is_negative z
below_flag z f = rw (to_z-of_z f) (below_negative z)
