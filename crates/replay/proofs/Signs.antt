-- A magnitude taken from zero fits the width whose positive numbers have it.
use Prim.Native.Nat.{ℕ, ◌<◌, ◌^◌}
use native.Mathlib.Omega.{arith}
use lib.IntN.{pos, ◌-ℤ◌}
use mir.Syntax.{Width}
use mir.Val.{SFits, hbits, to_z}
use Rattle.outcome.proofs.Numbers.{taken_from_zero, mag_minus}

pub below-fits : (w : Width) (m : ℕ) → m < 2 ^ hbits w → SFits w (pos 0 -ℤ to_z w m)
below-fits w m h = rw (taken_from_zero w m h) (record { sfits = mag_minus m (2 ^ hbits w) (omega arith) (omega arith) })
