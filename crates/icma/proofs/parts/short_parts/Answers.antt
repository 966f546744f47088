-- `icma::short_parts` meets its contract: the period from the base leads later.
use mathlib.Core.Path.{sym}
use native.Mathlib.Omega.{arith}
use Rattle.time_period.proofs.steps.Steps.{step-later}
use Rattle.icma.proofs.parts.short_parts.Goals as goal

pub length-requires-2 : goal.length-requires-2
length-requires-2 c =
    let k = step-later c.args.p c.args.base c.in_ok-u.u c.requires.0 c.requires.1 (sym c.in_ok-u.ensures) in
    (c.requires.0, k.0, omega (arith, k.1))
