-- `calendar::first_of_year` meets its contract: the cycles before the year, and its place in its
-- own.
use Prim.Native.Nat.{ℕ, suc, ◌+◌, ◌-◌, ◌*◌, ◌/◌, ◌%◌, ◌≤◌}
use mathlib.Core.Path.{◌≡◌}
use native.Mathlib.Omega.{arith}
use Rattle.calendar.specs.gregorian.Gregorian.{year_length, before_year}
use Rattle.calendar.proofs.gregorian.Counting.{before_mono}
use Rattle.calendar.proofs.gregorian.Years.{cycle, whole}
use Rattle.calendar.proofs.gregorian.first_of_year.Goals as goal

in-cycle : (y : ℕ) → 1 ≤ y → (y - 1) / 400 * 146097 + (before_year (suc ((y - 1) % 400)) + 1) ≡ before_year y + 1
in-cycle y h =
    let q = (y - 1) / 400 in
    let r = (y - 1) % 400 in
    let e : 400 * q + suc r ≡ y = omega arith in
    omega (arith, rw e at (cycle q r))

pub overflow_add-result : goal.overflow_add-result
overflow_add-result c =
    let r = (c.args.year - 1) % 400 in
    omega (arith, c.first_of_years-first.ensures r (omega arith), whole, before_mono year_length (suc r) 401 (omega arith))

pub returns : goal.returns
returns c =
    let r = (c.args.year - 1) % 400 in
    omega (arith, c.first_of_years-first.ensures r (omega arith), in-cycle c.args.year (omega arith))
