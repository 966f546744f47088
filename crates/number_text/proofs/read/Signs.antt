-- Laws of numbers below zero: a magnitude taken from zero.
use Prim.Native.Nat.{ℕ, ◌≤◌}
use mathlib.Core.Path.{◌≡◌}
use native.Mathlib.Omega.{arith}
use lib.IntN.{ℤ, pos, neg_ℤ}
use mir.Syntax.{w32}
use mir.Val.{to_z, of_z}
use mir.Facts.{to_z-of_z}
use Rattle.outcome.proofs.Numbers.{mag_minus}

-- a magnitude taken from zero, read back from 32 bits
pub minus_back : (z : ℤ) (v : ℕ) → z ≡ neg_ℤ (pos v) → v ≤ 2147483648 → to_z w32 (of_z w32 z) ≡ neg_ℤ (pos v)
minus_back z v e h = rw (e) (to_z-of_z {w = w32} (record { sfits = mag_minus v 2147483648 (omega arith) h }))
