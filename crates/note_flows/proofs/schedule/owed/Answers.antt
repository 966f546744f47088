-- `note_flows::owed` meets its contract: a coupon's dates are in order, and the date it rolls from
-- exists.
use mathlib.Core.Path.{sym, refl}
use Rattle.day_count_conv.proofs.conventions.Judged.{roll_dated_lem}
use Rattle.note_flows.proofs.schedule.Spans.{accepted_note, first_span, next_span}
use Rattle.note_flows.proofs.schedule.owed.Goals as goal

pub fraction_judged-requires : goal.fraction_judged-requires
fraction_judged-requires c =
    let s = first_span c.args.note (accepted_note c.args.note c.requires.accepted) c.in_ok-end-in-First.end (sym c.in_ok-end-in-First.ensures) in
    (s, rw c.rolled_from-terms.ensures (roll_dated_lem c.args.note.day_count_convention c.in_ok-end-in-First.end s.last))

pub fraction_of_period-requires : goal.fraction_of_period-requires
fraction_of_period-requires c =
    let e = sym c.in-Ok.ensures in
    (next_span c.args.note (accepted_note c.args.note c.requires.accepted) c.in-After.start c.in-Ok.field-0 (rw c.in-After.is at c.requires.dated) e, e)

pub returns-in_ok-fraction-in-Ok : goal.returns-in_ok-fraction-in-Ok
returns-in_ok-fraction-in-Ok c = rw (c.in-After.is, ← c.is_before.ensures, c.if-is_before.true, ← c.in-Ok.ensures, ← c.in_ok-fraction-in-Ok.ensures, c.coupon-in-Ok.ensures) refl
