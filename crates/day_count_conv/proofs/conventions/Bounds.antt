-- Each fraction given is within 1 / 2 ^ 38 of the exact one, by every rule; and where one is
-- refused, so is the other, with one number.
use Rattle.std.specs.Prelude.{Option, Some, None}
use Prim.Native.Nat.{ℕ, ◌≤◌}
use mathlib.Core.Path.{◌≡◌, refl, sym, subst}
use mathlib.Core.Bool.{true, not}
use lib.IntN.{pos}
use lib.Signed.{le_z}
use lib.Ieee.{Float}
use Rattle.outcome.specs.Outcome.{Outcome, given, both}
use Rattle.outcome.proofs.Outcomes.{both_true}
use Rattle.calendar.specs.dates.Dates.{is_date, is_before}
use Rattle.calendar.specs.declared.dates.Date.{Date}
use Rattle.calendar.proofs.dates.Dates.{date-yes}
use Rattle.time_period.specs.steps.Periods.{frequency_of}
use Rattle.day_fraction.specs.Exact.{CloseTo}
use Rattle.day_fraction.specs.Fractions.{bits, exact_fraction, impossible}
use Rattle.icma.specs.parts.Walk.{icma_parts}
use Rattle.day_count_conv.specs.conventions.Conventions.{parts_bits, parts_exact, simple_fraction, walked_fraction, frequent_fraction, icma_fraction, by_rule, roll_date_exists, roll_dated, year_fraction, fractions_in_f64, fractions_exactly, Agree, FractionWithin}
use Rattle.time_period.specs.declared.steps.TimePeriodUnit.{TimePeriodUnit}
use Rattle.time_period.specs.declared.steps.TimePeriod.{TimePeriod}
use Rattle.day_fraction.specs.declared.SimpleRule.{SimpleRule}
use Rattle.day_count_conv.specs.declared.conventions.DayCountConv.{DayCountConv}
use Rattle.day_count_conv.specs.declared.conventions.DayCountConv.TheVariants as conv
use Rattle.day_count_conv.specs.declared.conventions.NoteTerms.{NoteTerms}
use Rattle.time_period.proofs.steps.Frequencies.{WholeYear, regular_period, whole_year, months_in}
use Rattle.day_fraction.proofs.Bounds.{NearTo, near_to_close, near}
use Rattle.icma.proofs.parts.Sizes.{parts_size}
use Rattle.outcome.proofs.Numbers.{not-below}
use Rattle.day_count_conv.proofs.conventions.Numbers.{above_one, positive_months}
use Rattle.day_count_conv.proofs.conventions.Walks.{walk_near}
use Rattle.day_count_conv.proofs.conventions.Agreement.{unless_agree, then_agree, agree_still}

module _ (start end : Date) (ds : is_date start ≡ true) (de : is_date end ≡ true) where
  simple_near : (rule : SimpleRule) → Agree NearTo (simple_fraction fractions_in_f64 rule start end) (simple_fraction fractions_exactly rule start end)
  unfolding simple_fraction
  simple_near rule =
      unless_agree NearTo (not (impossible rule start end)) 9 (given (bits rule start end)) (given (exact_fraction rule start end))
      (λ h. let N = near start end (date-yes start ds) (date-yes end de) rule in (N.den, N))

  walked_near : (p : TimePeriod) (roll : Date) (f : ℕ) → is_date roll ≡ true → frequency_of p ≡ given f → Agree NearTo (walked_fraction fractions_in_f64 p start end roll f) (walked_fraction fractions_exactly p start end roll f)
  unfolding walked_fraction
  walked_near p roll f dr e =
      unless_agree NearTo (le_z (pos 1) p.num) 14 _ _
      (λ h.
      let l = not-below p.num (pos 1) h in
      let r = regular_period p f l e in
      let w = whole_year p.unit r.0 f r.2 in
      then_agree NearTo (icma_parts p start end roll) (λ x. given (parts_bits f x)) (λ x. given (parts_exact f x))
      (λ x g.
      let s = parts_size p r.0 r.1 (some w) (above_one p.num h) start end roll x ds de dr g in
      let N = walk_near p.unit r.0 f x r.2 s in
      (N.den, N)))
    where
      some : {u : TimePeriodUnit} {n f : ℕ} → WholeYear u n f → 1 ≤ months_in u n
      some {u} {n} {f} w = positive_months f (months_in u n) w.months

  frequent_near : (p : TimePeriod) (roll : Date) → is_date roll ≡ true → Agree NearTo (frequent_fraction fractions_in_f64 p start end roll) (frequent_fraction fractions_exactly p start end roll)
  unfolding frequent_fraction
  frequent_near p roll dr =
      then_agree NearTo (frequency_of p) (walked_fraction fractions_in_f64 p start end roll) (walked_fraction fractions_exactly p start end roll) (λ f e. walked_near p roll f dr e)

  icma_near : (r : Option Date) (p : Option TimePeriod) → roll_date_exists r ≡ true → Agree NearTo (icma_fraction fractions_in_f64 r p start end) (icma_fraction fractions_exactly r p start end)
  icma_near (Some roll) (Some p) h = frequent_near p roll h
  icma_near (Some roll) None h = refl
  icma_near None p h = refl

  rule_near : (rule : DayCountConv) (x : NoteTerms) → roll_dated rule x.roll ≡ true → Agree NearTo (by_rule fractions_in_f64 rule start end x) (by_rule fractions_exactly rule start end x)
  rule_near conv.Act365 x h = simple_near _
  rule_near conv.Act360 x h = simple_near _
  rule_near conv.Act365l x h = simple_near _
  rule_near conv.D30_360 x h = simple_near _
  rule_near conv.D30E360 x h = simple_near _
  rule_near conv.ActActICMA x h = icma_near x.roll x.period h

-- over all rules and on every input
pub year_near : (rule : DayCountConv) (start end : Date) (x : NoteTerms) → Agree NearTo (year_fraction fractions_in_f64 rule start end x) (year_fraction fractions_exactly rule start end x)
unfolding year_fraction
year_near rule start end x =
    unless_agree NearTo (both (is_date start) (both (is_date end) (roll_dated rule x.roll))) 1 _ _
    (λ h.
    let a = both_true (is_date start) _ h in
    let b = both_true (is_date end) _ a.1 in
    unless_agree NearTo (not (is_before end start)) 19 _ _ (λ k. rule_near start end a.0 b.0 rule x b.1))

-- the bound
pub year_within : (rule : DayCountConv) (start end : Date) (x : NoteTerms) → FractionWithin (year_fraction fractions_in_f64 rule start end x) (year_fraction fractions_exactly rule start end x)
year_within rule start end x =
    agree_still NearTo CloseTo (year_fraction fractions_in_f64 rule start end x) (year_fraction fractions_exactly rule start end x) (year_near rule start end x) (λ y q. near_to_close q)

-- the bits of a result are all that is left to show
pub promised : (rule : DayCountConv) (start end : Date) (x : NoteTerms) (o : Outcome Float) → o ≡ year_fraction fractions_in_f64 rule start end x → (o ≡ year_fraction fractions_in_f64 rule start end x) × FractionWithin o (year_fraction fractions_exactly rule start end x)
promised rule start end x o e = (e, subst (λ (p : Outcome Float). FractionWithin p (year_fraction fractions_exactly rule start end x)) (sym e) (year_within rule start end x))
