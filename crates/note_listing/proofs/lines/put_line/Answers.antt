-- `note_listing::put_line` meets its contract: the flow, and the line feed behind it.
use mathlib.Core.Path.{sym}
use mathlib.Core.List.{[], ◌∷◌}
use native.Mathlib.Omega.{arith}
use lib.ListN.{length, length-append}
use Rattle.flow_text.specs.flow.Texts.{flow_text}
use Rattle.number_text.proofs.write.Putting.{puts_is, puts_then}
use Rattle.note_listing.proofs.lines.Lines.{line_fitting}
use Rattle.note_listing.proofs.lines.put_line.Goals as goal

pub put_cash_flow_at-requires-clause-amount_finite : goal.put_cash_flow_at-requires-clause-amount_finite
put_cash_flow_at-requires-clause-amount_finite c = (line_fitting _ _ _ c.requires).shown.0

pub put_cash_flow_at-requires-clause-date_exists : goal.put_cash_flow_at-requires-clause-date_exists
put_cash_flow_at-requires-clause-date_exists c = (line_fitting _ _ _ c.requires).shown.1

pub put_cash_flow_at-requires-clause-room : goal.put_cash_flow_at-requires-clause-room
put_cash_flow_at-requires-clause-room c = omega (arith, (line_fitting c.args.flow (length c.args.w.now.out.now) c.args.w.now.at c.requires).room)

pub put-requires : goal.put-requires
put-requires c = omega (arith, (line_fitting c.args.flow (length c.args.w.now.out.now) c.args.w.now.at c.requires).room, c.put_cash_flow_at.ensures.at, c.put_cash_flow_at.ensures.size)

pub returns : goal.returns
returns c =
    let f = line_fitting c.args.flow (length c.args.w.now.out.now) c.args.w.now.at c.requires in
    puts_is _ _ _ _ (puts_then _ _ _ (flow_text c.args.flow) (10 ∷ []) c.put_cash_flow_at.ensures c.put.ensures (omega (arith, f.room, length-append (flow_text c.args.flow) (10 ∷ [])))) (sym f.text)
