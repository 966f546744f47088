-- `decimal::put_front` meets its contract: the blanks, and the sign behind them.
use Prim.Native.Nat.{◌+◌, ◌-◌}
use mathlib.Core.Path.{◌≡◌}
use native.Mathlib.Omega.{arith}
use lib.ListN.{length}
use Rattle.number_text.specs.write.Writing.{sign_text}
use Rattle.number_text.proofs.length.Signs.{sign-bytes}
use Rattle.number_text.proofs.write.Putting.{puts_then}
use Rattle.decimal.proofs.four_decimals.put_front.Goals as goal

pub returns : goal.returns
returns c =
    let k : c.saturating_sub-blanks.result ≡ 16 - (length (sign_text c.args.negative) + c.args.size) = omega (arith, c.saturating_sub-blanks.ensures, c.saturating_sub.ensures, c.from.ensures, sign-bytes c.args.negative) in
    puts_then _ _ _ _ _ (rw (k) at c.put_run.ensures) c.put_sign.ensures c.requires
