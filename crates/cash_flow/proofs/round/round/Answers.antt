-- `cash_flow::round` meets its contract: it is the number of its bits. Laws of Fields.
use Prim.Native.Nat.{◌/◌, ◌%◌, ◌≤◌}
use native.Mathlib.Omega.{arith}
use lib.Dec.{T}
use lib.Ieee.{binary64, to_bits, fits}
use borrow.Author.Rules.{rules}
use Rattle.cash_flow.proofs.round.Fields.{from_bits, whole-fits, bits_below, bits_plus, bits_minus}
use Rattle.cash_flow.proofs.round.round.Goals as goal
use Rattle.cash_flow.proofs.round.round.Goals.{Start}

-- the number is an f64, and its field is that of one below 2 ^ 52
fitting : (s : Start) → T (fits binary64 s.args.y)
fitting s = search rules

field : (s : Start) → to_bits binary64 s.args.y % 9223372036854775808 / 4503599627370496 ≤ 1074
field s = bits_below s.args.y (fitting s) s.requires.below_2_52.0 s.requires.below_2_52.1

pub nearest_whole-whole-requires : goal.nearest_whole-whole-requires
nearest_whole-whole-requires c = record { field_bound = field c; mantissa_bound = omega arith }

pub int_to_float-whole : goal.int_to_float-whole
int_to_float-whole c = whole-fits _ c.nearest_whole-whole.ensures.1

pub returns-then-b-ge9223372036854775808 : goal.returns-then-b-ge9223372036854775808
returns-then-b-ge9223372036854775808 c = from_bits _ _ (fitting c.before.before.before) (bits_minus _ _ (field c.before.before.before) c.if-b-ge9223372036854775808.true c.nearest_whole-whole.ensures.0)

pub returns-else-b-ge9223372036854775808 : goal.returns-else-b-ge9223372036854775808
returns-else-b-ge9223372036854775808 c = from_bits _ _ (fitting c.before.before.before) (bits_plus _ _ (field c.before.before.before) c.if-b-ge9223372036854775808.false c.nearest_whole-whole.ensures.0)
