use mathlib.Core.Path.{◌≡◌}
use lib.ListN.{take}
use Rattle.bit_fields.specs.Bits.{bits_number, bits_of}
use Rattle.bit_fields.proofs.bytes_number.Given as goal

abbrev pub invariant-loop-b : goal.invariant-loop-b
invariant-loop-b l = l.n ≡ bits_number (bits_of (take l.b-index l.s))
