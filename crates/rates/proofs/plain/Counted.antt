-- Under a rule that counts days a flow is valued by its serial day: no date is taken.
use Prim.Native.Nat.{ℕ, ◌-◌, ◌≤◌}
use mathlib.Core.Path.{◌≡◌, refl, sym, ap, ◌∙◌}
use mathlib.Core.Bool.{Bool, true, false, ◌&&◌, false≢true}
use native.Mathlib.Omega.{arith}
use lib.Dec.{leb, eqb}
use lib.IntN.{ℤ, pos}
use lib.Ieee.{Float, binary64, mul}
use lib.Ieee.Scale.{finite}
use borrow.Author.Tests.{leb-true, eq-eqb, eqb-true}
use Rattle.std.specs.Prelude.{Some, None}
use Rattle.outcome.specs.Outcome.{given, value, both, pick}
use Rattle.outcome.proofs.Outcomes.{both_true}
use Rattle.calendar.specs.dates.Dates.{is_date, day_number, the_date}
use Rattle.calendar.specs.serial.Answers.{date_zero}
use Rattle.calendar.specs.declared.dates.Date.{Date}
use Rattle.calendar.proofs.dates.Dates.{date-yes, date_is, number-from, number_found, the_date_is}
use Rattle.calendar.proofs.dates.Inverse.{date_on-day}
use Rattle.cash_flow.specs.currency.Amounts.{is_currency, is_same_currency}
use Rattle.cash_flow.specs.declared.currency.Currency.{Currency}
use Rattle.cash_flow.specs.flow.Flows.{date_on}
use Rattle.day_fraction.specs.Fractions.{Span, quotient, days, bits, impossible}
use Rattle.day_fraction.proofs.Differences.{diff_of, diff_pos}
use Rattle.day_count_conv.specs.conventions.Conventions.{fractions_in_f64, no_terms, simple_fraction}
use Rattle.day_count_conv.specs.declared.conventions.DayCountConv.{DayCountConv}
use Rattle.day_count_conv.specs.declared.conventions.DayCountConv.TheVariants as conv
use Rattle.day_count_conv.proofs.conventions.Judged.{span_fraction}
use Rattle.rates.specs.factors.Factors.{factor_of}
use Rattle.rates.specs.simple.Rates.{fraction_to, is_one_currency, flow_value}
use Rattle.rates.specs.declared.simple.FlatRate.{FlatRate}
use Rattle.rates.specs.plain.Counted.{year_days, counted_from}

-- a currency is the same as itself
itself : (a : Currency) → is_same_currency a a ≡ true
unfolding is_same_currency
itself a = rw (eq-eqb a.first a.first refl, eq-eqb a.second a.second refl, eq-eqb a.third a.third refl)

date-on : (n : ℕ) → 1 ≤ n → n ≤ 3652059 → date_on n ≡ the_date n
unfolding date_on
date-on n h k = ap (value date_zero) (sym (date_on-day (record { 0 = n }) h k))

days-over : (rule : DayCountConv) (s e : Date) → 1 ≤ year_days rule → Span s e → fraction_to rule s e ≡ given (quotient (days s e) (year_days rule))
unfolding fraction_to simple_fraction impossible bits
days-over conv.Act365 s e h p = span_fraction fractions_in_f64 conv.Act365 s e no_terms p refl
days-over conv.Act360 s e h p = span_fraction fractions_in_f64 conv.Act360 s e no_terms p refl
days-over conv.Act365l s e h p = absurd (omega arith)
days-over conv.D30_360 s e h p = absurd (omega arith)
days-over conv.D30E360 s e h p = absurd (omega arith)
days-over conv.ActActICMA s e h p = absurd (omega arith)

and_true : (a b : Bool) → (a && b) ≡ true → (a ≡ true) × (b ≡ true)
and_true true b e = (refl, e)
and_true false b e = absurd (false≢true e)

same_day : {m n : ℕ} → Some m ≡ Some n → n ≡ m
same_day e = cc

no_day : {m : ℕ} → Some m ≡ None → ⊥
no_day e = cc

-- two currencies whose letters are equal are one
pub equal_currency : (a b : Currency) → (eqb a.first b.first && (eqb a.second b.second && eqb a.third b.third)) ≡ true → a ≡ b
equal_currency a b e =
    let h = and_true _ _ e in
    let k = and_true _ _ h.1 in
    let x : a.first ≡ b.first = eqb-true _ _ h.0 in
    let y : a.second ≡ b.second = eqb-true _ _ k.0 in
    let z : a.third ≡ b.third = eqb-true _ _ k.1 in
    λ i. record { first = x i; second = y i; third = z i }

-- a day is given only where days are enough, and it is today's
counted_is : (rate : FlatRate) (today : Date) (from : ℕ) → Some from ≡ counted_from rate today → (1 ≤ year_days rate.day_count_conv) × (is_currency rate.currency ≡ true) × (is_date today ≡ true) × (day_number today ≡ from)
unfolding counted_from
counted_is rate today from e = go _ refl e
  where
    go : (b : Bool) → both (leb 1 (year_days rate.day_count_conv)) (both (is_currency rate.currency) (is_date today)) ≡ b → Some from ≡ pick b (Some (day_number today)) None → (1 ≤ year_days rate.day_count_conv) × (is_currency rate.currency ≡ true) × (is_date today ≡ true) × (day_number today ≡ from)
    go true p q =
        let x = both_true _ _ p in
        let y = both_true _ _ x.1 in
        (leb-true _ _ x.0, y.0, y.1, same_day q)
    go false p q = absurd (no_day q)

module _ (rate : FlatRate) (today : Date) (from day : ℕ) (c : Some from ≡ counted_from rate today) (h : from ≤ day) (k : day ≤ 3652059) where
  fraction_counted : fraction_to rate.day_count_conv today (date_on day) ≡ given (quotient (pos (day - from)) (year_days rate.day_count_conv))
  fraction_counted =
      let j = counted_is rate today from c in
      let l : 1 ≤ day = omega (arith, number-from today (date-yes today j.2), j.3) in
      let n = number_found day l k in
      let s : Span today (the_date day) = record { first = j.2; last = date_is (the_date day) (the_date_is day l k); order = omega (arith, n, j.3) } in
      let d : days today (the_date day) ≡ pos (day - from) = diff_pos (diff_of (day_number (the_date day)) (day_number today)) s.order ∙ ap pos (omega (arith, n, j.3)) in
      rw (date-on day l k) (days-over rate.day_count_conv today (the_date day) j.0 s ∙ ap (λ (z : ℤ). given (quotient z (year_days rate.day_count_conv))) d)

  -- there, a flow of a finite amount in the rate's currency is not refused, and this is its value
  pub flow-counted : (currency : Currency) (amount : Float) → currency ≡ rate.currency → finite amount ≡ true
      → flow_value rate today (record { date = date_on day; currency = currency; amount = amount }) ≡ given (mul binary64 (factor_of rate.rate (quotient (pos (day - from)) (year_days rate.day_count_conv))) amount)
  unfolding flow_value is_one_currency
  flow-counted currency amount e f =
      let own : is_currency rate.currency ≡ true = (counted_is rate today from c).1 in
      rw (e, f, own, itself rate.currency, fraction_counted)
