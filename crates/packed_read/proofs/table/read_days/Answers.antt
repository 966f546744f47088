-- `packed_read::read_days` meets its contract: the days so far stand in front, and what is left of
-- them decides.
use mathlib.Core.Logic.{inl, inr}
use mathlib.Core.Path.{sym}
use mathlib.Core.Bool.{true≢false}
use native.Mathlib.Omega.{arith}
use Rattle.packed_read.proofs.table.Tables.{left_early, left_late, left-more, left-none, days-more, days_end}
use Rattle.packed_read.proofs.table.read_days.Goals as goal

pub returns-then-d-low : goal.returns-then-d-low
returns-then-d-low c =
    let l = c.loop-i in
    let a = c.args in
    let d = c.day_at-d.ensures in (
      elim c.then-d-low.either [ inl e ↦ left_early a.s.now l.low l.i a.n _ _ l.invariant.1 (omega arith) d e | inr e ↦ left_late a.s.now l.low l.i a.n _ _ l.invariant.1 (omega arith) d e.0 e.1 ],
      λ e. absurd (true≢false (sym e)),
    )

pub loop-i-preserved : goal.loop-i-preserved
loop-i-preserved c =
    let l = c.loop-i in
    let a = c.args in
    let d = c.day_at-d.ensures in
    (omega arith, left-more a.s.now l.low l.i a.n _ _ l.invariant.1 (omega arith) d (omega arith) (omega arith), days-more a.s.now a.days.now a.n l.i _ l.days (omega arith) (rw l.invariant.2.same_length (omega arith)) d l.invariant.2)

pub returns : goal.returns
returns c =
    let l = c.loop-i in
    let a = c.args in
    (left-none a.s.now l.low l.i a.n _ l.invariant.1 (omega arith), λ _. days_end a.s.now a.days.now a.n l.i l.days (omega arith) l.invariant.2)
