-- `note_listing::list_flows` meets its contract: too few places, all lines, or a refusal.
use Prim.Native.Nat.{ℕ}
use mathlib.Core.Path.{◌≡◌, refl, sym, ap, ◌∙◌}
use mathlib.Core.List.{List}
use Rattle.std.proofs.Common.{rules}
use lib.ListN.{length}
use Rattle.outcome.specs.Outcome.{passed_as}
use Rattle.number_text.specs.write.Writing.{put}
use Rattle.note_listing.specs.lines.Lines.{answer_text}
use Rattle.note_listing.specs.lines.Inner.{text_of}
use Rattle.note_listing.proofs.lines.Lines.{all_written, none_written, lines_short, refusal_written}
use Rattle.note_listing.proofs.note.list_flows.Goals as goal

pub returns-then-out-list : goal.returns-then-out-list
returns-then-out-list c =
    let m = c.in-Ok.ensures in
    let length-is = m.bytes ∙ ap (passed_as length) (sym m.lines) in
    (none_written _ c.args.out.now _ length-is c.if-out-list.true, lines_short _ _ length-is m.short)

pub put_lines-requires : goal.put_lines-requires
put_lines-requires c =
    let m = c.in-Ok.ensures in
    let fits = (all_written _ c.args.out.now _ (m.bytes ∙ ap (passed_as length) (sym m.lines)) c.if-out-list.false).0 in
    rw (c.new-w.ensures.bytes, c.new-w.ensures.at, ← m.lines) fits

pub returns-else-out-list : goal.returns-else-out-list
returns-else-out-list c =
    let m = c.in-Ok.ensures in
    let length-is = m.bytes ∙ ap (passed_as length) (sym m.lines) in
    let w = (all_written _ c.args.out.now _ length-is c.if-out-list.false).1 in
    let placed : (d e t u : List ℕ) (at : ℕ) → d ≡ e → at ≡ 0 → t ≡ u → put d at t ≡ put e 0 u = λ d e t u at b a l. rw (b, a, l) refl in
    ((w.0, search rules ∙ c.put_lines.ensures.bytes ∙ placed _ _ _ _ _ c.new-w.ensures.bytes c.new-w.ensures.at (ap text_of (sym m.lines)) ∙ w.1), lines_short _ _ length-is m.short)

pub returns-in-Err : goal.returns-in-Err
returns-in-Err c = refusal_written _ _ _ _ _ (ap answer_text (sym c.in-Err.ensures)) (rw (c.number.ensures) at c.write_refusal.ensures)
