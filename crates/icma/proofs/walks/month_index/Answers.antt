-- `icma::month_index` meets its contract: nothing goes below 0, and the number fits.
use native.Mathlib.Omega.{arith}
use Rattle.calendar.proofs.dates.Dates.{IsDate, date-yes}
use Rattle.icma.proofs.walks.month_index.Goals as goal

pub overflow_sub-result : goal.overflow_sub-result
overflow_sub-result c =
    let dated : IsDate c.args.t = date-yes c.args.t c.requires in
    dated.year_from

pub overflow_mul-result : goal.overflow_mul-result
overflow_mul-result c =
    let dated : IsDate c.args.t = date-yes c.args.t c.requires in
    let h = dated in omega (arith, h.year_to)

pub overflow_sub-result-2 : goal.overflow_sub-result-2
overflow_sub-result-2 c =
    let dated : IsDate c.args.t = date-yes c.args.t c.requires in
    dated.month_from

pub overflow_add-result : goal.overflow_add-result
overflow_add-result c =
    let dated : IsDate c.args.t = date-yes c.args.t c.requires in
    let h = dated in omega (arith, h.year_to, h.month_to)
