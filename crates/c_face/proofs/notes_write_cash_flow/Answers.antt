-- `c_face::notes_write_cash_flow` meets its contract: what the entry point answers is handed over.
use Rattle.std.proofs.Common.{◌≡◌}
use Rattle.flow_text.specs.flow.Texts.{flow_shown}
use Rattle.c_values.specs.arguments.Numbers.{date, currency, flow}
use Rattle.c_face.proofs.Rooms.{shown_handed}
use Rattle.c_face.proofs.notes_write_cash_flow.Goals as goal

pub returns : goal.returns
returns c =
    let is_flow : c.flow_of-flow.result ≡ flow (date c.args.year c.args.month c.args.day) (currency c.args.c1 c.args.c2 c.args.c3) c.args.amount = cc in
    rw (← is_flow) (shown_handed c.args.out.now _ _ _ _ _ c.hand_over.ensures (flow_shown c.flow_of-flow.result) c.write_cash_flow.ensures.0 c.write_cash_flow.ensures.1)
