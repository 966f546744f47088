use Prim.Native.Nat.{◌+◌, ◌≤◌}
use mathlib.Core.Path.{◌≡◌}
use mathlib.Core.Bool.{true}
use denote.Param.{number}
use Rattle.calendar.specs.dates.Dates.{is_date}
use Rattle.icma.specs.walks.Walks.{walk}
use Rattle.icma.specs.walks.Ways.{is_past, left, turned}
use Rattle.icma.specs.contracts.walks.walk.{WAY-type}
use Rattle.icma.proofs.walks.walk.Given as goal

abbrev pub invariant-loop-p : goal.invariant-loop-p
invariant-loop-p g l =
    let way = WAY-type (number g.row.WAY) in
    (is_date l.w.at ≡ true)
    × (l.w.count + left way l.w.at ≤ l.initial.w.count + left way l.initial.w.at)
    × (walk 3652060 (λ u. is_past way l.limit u) (turned way l.p l.limit) l.w ≡ walk 3652060 (λ u. is_past way l.limit u) (turned way l.p l.limit) l.initial.w)

abbrev pub decreases-loop-p : goal.decreases-loop-p
decreases-loop-p g l = left (WAY-type (number g.row.WAY)) l.w.at
