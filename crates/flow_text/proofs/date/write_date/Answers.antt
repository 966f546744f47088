-- `flow_text::write_date` meets its contract: 1, 16, or the whole text.
use mathlib.Core.Path.{sym, ap, ◌∙◌}
use lib.ListN.{length}
use Rattle.std.proofs.Common.{rules}
use native.Mathlib.Omega.{arith}
use Rattle.flow_text.specs.date.DateTexts.{date_shown, date_text}
use Rattle.number_text.proofs.write.Shown.{shown_by, writes_short, writes_none}
use Rattle.flow_text.proofs.date.Dates.{date-given, date-refused, date_long}
use Rattle.flow_text.proofs.date.write_date.Goals as goal

pub returns-then-not-is_date : goal.returns-then-not-is_date
returns-then-not-is_date c = writes_none (date_shown c.args.t) c.args.out.now 1 (date-refused c.args.t (sym c.is_date.ensures ∙ c.if-not-is_date.true))

pub returns-then-out-lt-DATE_LENGTH : goal.returns-then-out-lt-DATE_LENGTH
returns-then-out-lt-DATE_LENGTH c =
    let is = sym c.is_date.ensures ∙ c.if-not-is_date.false in
    writes_short (date_shown c.args.t) c.args.out.now (date_text c.args.t) (date-given c.args.t is) (omega (arith, date_long c.args.t is, c.if-out-lt-DATE_LENGTH.true))

pub put_date-requires : goal.put_date-requires
put_date-requires c =
    let is = sym c.is_date.ensures ∙ c.if-not-is_date.false in
    record { t_exists = is; room = omega (arith, date_long c.args.t is, c.if-out-lt-DATE_LENGTH.false, c.new-w.ensures.at, ap length c.new-w.ensures.bytes) }

pub returns : goal.returns
returns c =
    let is = sym c.is_date.ensures ∙ c.if-not-is_date.false in
    shown_by (date_shown c.args.t) c.args.out.now (date_text c.args.t) _ _ _ (date-given c.args.t is) c.new-w.ensures.bytes c.new-w.ensures.at c.put_date.ensures (omega (arith, date_long c.args.t is, c.if-out-lt-DATE_LENGTH.false)) (search rules)
