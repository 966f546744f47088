-- The flows of a note, one after another.
use Rattle.std.specs.Prelude.{ℕ, zero, suc, true, false, List, [], ◌∷◌, Float}
use Rattle.outcome.specs.Outcome.{Outcome, given, refused, and_then}
use Rattle.calendar.specs.dates.Dates.{is_before, day_number}
use Rattle.calendar.specs.declared.dates.Date.{Date}
use Rattle.business_days.specs.table.Table.{is_table}
use Rattle.day_adjust.specs.Adjustment.{adjusted}
use Rattle.time_period.specs.steps.Steps.{absent, stepped}
use Rattle.day_count_conv.specs.conventions.Conventions.{fractions_in_f64, rolled_from, year_fraction}
use Rattle.cash_flow.specs.declared.flow.CashFlow.{CashFlow}
use Rattle.bond.specs.note.Notes.{is_position, note_checks, first_coupon_end, nominal_of, coupon_amount}
use Rattle.bond.specs.declared.note.Note.{Note}

-- an amount is paid on the adjusted date
unfoldable pub paid : Note → List ℕ → Date → Float → Outcome CashFlow
paid n table t x = and_then (adjusted n.business_day_rule t table) (λ u. given (record { date = u; currency = n.currency; amount = x }))

-- a coupon from start to end: its fraction, of unadjusted dates, the note's period and a roll date;
-- then its payment date
unfoldable pub coupon_flow : Note → Float → List ℕ → Date → Date → Date → Outcome CashFlow
coupon_flow n position table start end roll =
    and_then (year_fraction fractions_in_f64 n.day_count_convention start end (rolled_from roll n.period))
    (λ fraction. paid n table end (coupon_amount position n fraction))

-- a flow and those behind it: the first refusal ends it
abbrev pub followed : Outcome CashFlow → Outcome (List CashFlow) → Outcome (List CashFlow)
followed flow others = and_then flow (λ x. and_then others (λ l. given (x ∷ l)))

-- behind a coupon: while its end is before maturity, the next one, which rolls from its start; then
-- the nominal at adjusted maturity.
-- Each ends later than the one before it, and the calendar has 3652059 days
unfoldable pub later_flows : ℕ → Note → Float → List ℕ → Date → Outcome (List CashFlow)
later_flows zero n position table end = refused 1
later_flows (suc left) n position table end =
    elim (is_before end n.maturity) [
      | true ↦ and_then (stepped n.period absent end) (λ next. followed (coupon_flow n position table end next end) (later_flows left n position table next))
      | false ↦ followed (paid n table n.maturity (nominal_of position n)) (given [])
    ]

-- coupons, at least one: the first fraction rolls from its end
unfoldable pub note_flows : Note → Float → List ℕ → Outcome (List CashFlow)
note_flows n position table =
    and_then (first_coupon_end n)
    (λ end. followed (coupon_flow n position table n.issue_date end end) (later_flows 3652059 n position table end))

-- the note's checks, then flow by flow
unfoldable pub cash_flows : Note → Float → List ℕ → Outcome (List CashFlow)
cash_flows n position table = and_then (note_checks (is_position position) (is_table table) n) (λ m. note_flows m position table)

-- the serial day that a flow is paid on, and its amount
abbrev pub flow_day : CashFlow → ℕ
flow_day x = day_number x.date

abbrev pub amount_of : CashFlow → Float
amount_of x = x.amount
