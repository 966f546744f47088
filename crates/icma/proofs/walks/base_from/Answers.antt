-- `icma::base_from` meets its contract: the two walks, one after the other.
use Rattle.std.proofs.Common.{rules}
use mathlib.Core.Path.{sym}
use Rattle.outcome.proofs.Refusals.{handed_on}
use Rattle.icma.specs.walks.Walks.{walk_back, base_from}
use Rattle.icma.proofs.walks.Walking.{on_ends}
use Rattle.icma.proofs.walks.base_from.Goals as goal

pub returns-in_err-a : goal.returns-in_err-a
unfolding base_from
returns-in_err-a c = handed_on _ _ (λ a. walk_back c.args.q c.args.span.end a.at) c.from_residual.ensures.1 c.in_err-a.ensures

pub walk_far-requires-2 : goal.walk_far-requires-2
walk_far-requires-2 c =
    let a = on_ends c.args.p c.args.span.start c.args.roll c.in_ok-a.a c.requires.0 c.requires.1 (sym c.in_ok-a.ensures) in
    (a.0.dated, search rules, c.requires.2)

pub returns : goal.returns
unfolding base_from
returns c = rw (← c.in_ok-a.ensures) c.walk_far-2.ensures
