-- `decimal::large_length` meets its contract: the digits are enough for the number. Laws of Texts.
use Prim.Native.Nat.{◌*◌, ◌^◌}
use mathlib.Core.Path.{sym, refl}
use native.Mathlib.Omega.{arith}
use lib.Seq.{length-take-le}
use lib.ListN.{replicate}
use Rattle.decimal.proofs.four_decimals.Texts.{part_enough, signed_long}
use Rattle.decimal.proofs.four_decimals.large_length.Goals as goal

pub slice_bounds-size_by_digits-end : goal.slice_bounds-size_by_digits-end
slice_bounds-size_by_digits-end c = sym (length-take-le _ _ (omega (arith, c.digits_enough-count.ensures)))

pub size_by_digits-requires : goal.size_by_digits-requires
size_by_digits-requires c =
    let enough = part_enough (replicate 347 48) c.digits_enough-count.result c.args.n c.args.twos refl c.digits_enough-count.ensures c.requires.twos_bound c.requires.n_bound in
    record { in_bounds = enough.0; twos_bound = enough.1 }

pub columns-requires : goal.columns-requires
columns-requires c = omega (arith, c.size_by_digits.ensures.1)

pub returns : goal.returns
returns c =
    omega (arith, c.columns.ensures, c.size_by_digits.ensures.0, signed_long c.args.negative (c.args.n * 2 ^ c.args.twos))
