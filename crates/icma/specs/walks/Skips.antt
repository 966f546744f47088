-- What the inner functions say of many steps at once; no promise of an entry point rests on this.
use Rattle.std.specs.Prelude.{ℕ, ◌+◌, ◌-◌, ◌*◌, ◌/◌, Bool, true, false, eqb, leb, nat_abs}
use Rattle.outcome.specs.Outcome.{pick, both}
use Rattle.calendar.specs.dates.Dates.{month_index, month_date}
use Rattle.calendar.specs.declared.dates.Date.{Date}
use Rattle.time_period.specs.declared.steps.TimePeriod.{TimePeriod}
use Rattle.time_period.specs.declared.steps.TimePeriodUnit.{TimePeriodUnit}
use Rattle.time_period.specs.declared.steps.TimePeriodUnit.TheVariants.{Daily, BusinessDaily, Weekly, Monthly, Annual}
use Rattle.icma.specs.walks.Walks.{from}
use Rattle.icma.specs.declared.walks.Walked.{Walked}

-- steps that cut no day: months, from a day that every month has
abbrev pub is_months : TimePeriodUnit → Bool
is_months Daily = false
is_months BusinessDaily = false
is_months Weekly = false
is_months Monthly = true
is_months Annual = false

abbrev pub is_uncut : TimePeriod → Date → Bool
is_uncut p t = both (is_months p.unit) (leb t.day 28)

-- the months from one to another that lies on the way (`true`) or back (`false`), and else 0
abbrev pub gap : Bool → ℕ → ℕ → ℕ
gap true from to = to - from
gap false from to = from - to

abbrev pub moved : Bool → ℕ → ℕ → ℕ
moved true from months = from + months
moved false from months = from - months

-- many of them at once: as many as lead to a month before the limit's, or back to one after it
unfoldable pub leap : Bool → TimePeriod → Date → Date → Walked
leap way p limit t =
    let n = nat_abs p.num in
    let g = gap way (month_index t) (month_index limit) in
    let k = (g - 1) / n in
    pick (is_uncut p t)
    (pick (eqb g 0) (from t) (record { at = month_date (moved way (month_index t) (k * n)) t.day; count = k }))
    (from t)
