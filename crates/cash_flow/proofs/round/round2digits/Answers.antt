-- `cash_flow::round2digits` meets its contract: within the limits the product is below 2 ^ 52.
use mathlib.Core.Path.{sym, ◌∙◌}
use mir.Facts.{to_z-of_z}
use Rattle.cash_flow.proofs.round.Meaning.{rounding_means, product_finite, finite_not_nan}
use Rattle.cash_flow.proofs.round.round2digits.Goals as goal

-- the digits are read back from their bits
pub round-requires : goal.round-requires
round-requires c =
    let r = sym (rw (to_z-of_z c.ranges.digits) at c.before.is_roundable.ensures) ∙ c.before.if-not-is_roundable.false in
    let f = product_finite c.args.x c.args.digits r in
    rw (rw (to_z-of_z c.ranges.digits) at c.ten_to-power.ensures)
    (record { no_nan = finite_not_nan _ f; below_2_52 = (f, (rounding_means c.args.x c.args.digits r).small) })
