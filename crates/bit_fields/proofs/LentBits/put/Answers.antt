-- `LentBits::put` meets its contract: one part, or two.
use Prim.Native.Nat.{◌-◌, ◌+◌}
use mathlib.Core.Path.{◌≡◌}
use lib.Pow.{shr_lt}
use native.Mathlib.Omega.{arith}
use Rattle.bit_fields.proofs.BitWriters.{put_in_two}
use Rattle.bit_fields.proofs.LentBits.put.Goals as goal

pub put_part-requires-2 : goal.put_part-requires-2
put_part-requires-2 c =
    let e : c.args.width - 32 + 32 ≡ c.args.width = omega arith in
    (omega arith, shr_lt (c.args.width - 32) 32 (rw (e) c.requires.1), omega arith)

pub returns : goal.returns
returns c = put_in_two c.args.width c.args.x (omega arith) c.put_part-2.ensures c.put_part-3.ensures
