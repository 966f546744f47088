-- The sign and then the magnitude: laws of Putting.
use mathlib.Core.Path.{◌≡◌, ◌∙◌}
use mir.Facts.{to_z-of_z}
use mir.Syntax.{w32}
use lib.IntN.{nat_abs}
use Rattle.outcome.proofs.Signs.{below_flag}
use Rattle.number_text.specs.length.NumberTexts.{signed_text}
use Rattle.number_text.proofs.write.Putting.{puts_then, room_first, room_then}
use Rattle.number_text.proofs.write.Writer.put_signed.Goals as goal

pub put_sign-requires : goal.put_sign-requires
unfolding signed_text
put_sign-requires c = rw (below_flag c.args.n c.ranges.n) (room_first c.args.self.now _ _ c.requires)

pub put_decimal-requires : goal.put_decimal-requires
unfolding signed_text
put_decimal-requires c =
    let size : c.from.result ≡ nat_abs c.args.n = c.from.ensures ∙ (rw (to_z-of_z {w = w32} c.ranges.n) at c.magnitude.ensures) in
    rw (size) (room_then _ _ _ _ (rw (below_flag c.args.n c.ranges.n) at c.put_sign.ensures) c.requires)

pub returns : goal.returns
unfolding signed_text
returns c =
    let size : c.from.result ≡ nat_abs c.args.n = c.from.ensures ∙ (rw (to_z-of_z {w = w32} c.ranges.n) at c.magnitude.ensures) in
    puts_then _ _ _ _ _ (rw (below_flag c.args.n c.ranges.n) at c.put_sign.ensures) (rw (size) at c.put_decimal.ensures) c.requires
