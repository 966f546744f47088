-- `note_listing::line_length` meets its contract: one byte more than the flow.
use native.Mathlib.Omega.{arith}
use borrow.Author.Rules.{rules}
use Rattle.outcome.proofs.Refusals.{refused_on}
use Rattle.note_listing.proofs.lines.Lines.{line_takes, line_takes_none}
use Rattle.note_listing.proofs.lines.line_length.Goals as goal

pub returns-in_err-cash_flow_length-clause-takes : goal.returns-in_err-cash_flow_length-clause-takes
returns-in_err-cash_flow_length-clause-takes c = rw (refused_on _ _ c.from_residual.ensures.1) (line_takes_none c.args.flow _ c.in_err-cash_flow_length.ensures)

pub overflow_add-result : goal.overflow_add-result
overflow_add-result c = omega (arith, (line_takes c.args.flow _ (search rules) c.in_ok-cash_flow_length.ensures).1)

pub returns-clause-takes : goal.returns-clause-takes
returns-clause-takes c = (line_takes c.args.flow _ (search rules) c.in_ok-cash_flow_length.ensures).0

pub returns-clause-short : goal.returns-clause-short
returns-clause-short c = (line_takes c.args.flow _ (search rules) c.in_ok-cash_flow_length.ensures).1
