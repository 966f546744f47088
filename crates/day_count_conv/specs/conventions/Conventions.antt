-- The year fraction by six rules: its refusals in their order, and its f64.
use Rattle.std.specs.Prelude.{ℕ, ◌*◌, ◌≤◌, ◌≡◌, Bool, true, not, pos, ◌+ℤ◌, ◌*ℤ◌, Float, Result, Option, Some, None}
use Rattle.std.specs.Int.Signed.{le_z}
use Rattle.std.specs.Float.{binary64}
use Rattle.std.specs.Float.Ieee.{add, mul, div, of_bits}
use Rattle.outcome.specs.Outcome.{Outcome, given, refused, returned, plus_zero, unless, and_then, both}
use Rattle.outcome.specs.Refusals.{outcome_of}
use Rattle.outcome.specs.declared.Refusal.{Refusal}
use Rattle.calendar.specs.dates.Dates.{is_date, is_before}
use Rattle.calendar.specs.declared.dates.Date.{Date}
use Rattle.time_period.specs.steps.Periods.{frequency_of}
use Rattle.time_period.specs.declared.steps.TimePeriod.{TimePeriod}
use Rattle.day_fraction.specs.Exact.{Exact, CloseTo}
use Rattle.day_fraction.specs.Fractions.{whole, quotient, bits, exact_fraction, impossible}
use Rattle.day_fraction.specs.declared.SimpleRule.{SimpleRule}
use Rattle.day_fraction.specs.declared.SimpleRule.TheVariants as simple
use Rattle.icma.specs.parts.Walk.{icma_parts}
use Rattle.icma.specs.declared.parts.Part.{Part}
use Rattle.icma.specs.declared.parts.Parts.{Parts}
use Rattle.icma.specs.declared.parts.Parts.TheVariants.{Short, Long}
use Rattle.day_count_conv.specs.declared.conventions.DayCountConv.{DayCountConv}
use Rattle.day_count_conv.specs.declared.conventions.DayCountConv.TheVariants as conv
use Rattle.day_count_conv.specs.declared.conventions.NoteTerms.{NoteTerms}

-- what is returned of it; the zero is +0.0
abbrev pub fraction_returned : Result Float Refusal → ℕ × Float
fraction_returned r = returned plus_zero (outcome_of r)

-- ICMA: a broken part is added to the sum
abbrev pub part_added : Float → Option Part → Float
part_added x (Some p) = add binary64 x (quotient p.days p.length)
part_added x None = x

-- days / (length x frequency); or (first + last + count) / frequency
abbrev pub parts_bits : ℕ → Parts → Float
parts_bits f (Short days length) = div binary64 (whole (pos days)) (mul binary64 (whole (pos length)) (whole (pos f)))
parts_bits f (Long first last count) =
    div binary64 (add binary64 (part_added (part_added (of_bits binary64 0) first) last) (whole (pos count))) (whole (pos f))

-- the same exactly: a broken part that is not there is 0
abbrev pub part_exact : Option Part → Exact
part_exact (Some p) = record { num = p.days; den = p.length }
part_exact None = record { num = pos 0; den = 1 }

abbrev pub sum_exact : Exact → Exact → ℕ → ℕ → Exact
sum_exact p q count f =
    record { num = p.num *ℤ pos q.den +ℤ q.num *ℤ pos p.den +ℤ pos (count * (p.den * q.den)); den = f * (p.den * q.den) }

abbrev pub parts_exact : ℕ → Parts → Exact
parts_exact f (Short days length) = record { num = pos days; den = length * f }
parts_exact f (Long first last count) = sum_exact (part_exact first) (part_exact last) count f

-- what a rule gives: a value of two dates, or of the walk's parts and the frequency
pub record Values (A : Type 0) : Type 0 where
  pub simple : SimpleRule → Date → Date → A
  pub walked : ℕ → Parts → A

-- the five rules that two dates decide; 9: 30/360 or 30E/360 is zero on two different dates
unfoldable pub simple_fraction : {A : Type 0} → Values A → SimpleRule → Date → Date → Outcome A
simple_fraction v rule start end = unless (not (impossible rule start end)) 9 (given (v.simple rule start end))

-- 14: a period below 1; then the walk
unfoldable pub walked_fraction : {A : Type 0} → Values A → TimePeriod → Date → Date → Date → ℕ → Outcome A
walked_fraction v p start end roll f = unless (le_z (pos 1) p.num) 14 (and_then (icma_parts p start end roll) (λ parts. given (v.walked f parts)))

-- 5: no frequency
unfoldable pub frequent_fraction : {A : Type 0} → Values A → TimePeriod → Date → Date → Date → Outcome A
frequent_fraction v p start end roll = and_then (frequency_of p) (walked_fraction v p start end roll)

-- 11: no period
abbrev pub period_fraction : {A : Type 0} → Values A → Option TimePeriod → Date → Date → Date → Outcome A
period_fraction v (Some p) start end roll = frequent_fraction v p start end roll
period_fraction v None start end roll = refused 11

-- 10: no roll date
abbrev pub icma_fraction : {A : Type 0} → Values A → Option Date → Option TimePeriod → Date → Date → Outcome A
icma_fraction v (Some roll) period start end = period_fraction v period start end roll
icma_fraction v None period start end = refused 10

-- under the other rules a roll date and a period are ignored
abbrev pub by_rule : {A : Type 0} → Values A → DayCountConv → Date → Date → NoteTerms → Outcome A
by_rule v conv.Act365 start end x = simple_fraction v simple.Act365 start end
by_rule v conv.Act360 start end x = simple_fraction v simple.Act360 start end
by_rule v conv.Act365l start end x = simple_fraction v simple.Act365l start end
by_rule v conv.D30_360 start end x = simple_fraction v simple.D30_360 start end
by_rule v conv.D30E360 start end x = simple_fraction v simple.D30E360 start end
by_rule v conv.ActActICMA start end x = icma_fraction v x.roll x.period start end

-- neither a roll date nor a period
abbrev pub no_terms : NoteTerms
no_terms = record { roll = None; period = None }

-- a period that rolls from a date
abbrev pub rolled_from : Date → TimePeriod → NoteTerms
rolled_from t p = record { roll = Some t; period = Some p }

-- under ICMA a roll date that is given exists
abbrev pub roll_date_exists : Option Date → Bool
roll_date_exists (Some t) = is_date t
roll_date_exists None = true

abbrev pub roll_dated : DayCountConv → Option Date → Bool
roll_dated conv.Act365 r = true
roll_dated conv.Act360 r = true
roll_dated conv.Act365l r = true
roll_dated conv.D30_360 r = true
roll_dated conv.D30E360 r = true
roll_dated conv.ActActICMA r = roll_date_exists r

-- order: 1 (start, end and, under ICMA only, a roll date given), 19, then 10, 11, 5, 14, the walk
-- or 9
unfoldable pub year_fraction : {A : Type 0} → Values A → DayCountConv → Date → Date → NoteTerms → Outcome A
year_fraction v rule start end x =
    unless (both (is_date start) (both (is_date end) (roll_dated rule x.roll))) 1
    (unless (not (is_before end start)) 19
    (by_rule v rule start end x))

-- the f64, by finql's operations in its order; and the exact fraction, a signed whole number over a
-- positive one
abbrev pub fractions_in_f64 : Values Float
fractions_in_f64 = record { simple = bits; walked = parts_bits }

abbrev pub fractions_exactly : Values Exact
fractions_exactly = record { simple = exact_fraction; walked = parts_exact }

-- two outcomes agree: the f64 given is close to the exact value given, whose lower number is above
-- 0; or the same is refused
abbrev pub Agree : (Float → Exact → Type 0) → Outcome Float → Outcome Exact → Type 0
Agree Near (given x) (given q) = (1 ≤ q.den) × Near x q
Agree Near (given x) (refused n) = ⊥
Agree Near (refused n) (given q) = ⊥
Agree Near (refused m) (refused n) = m ≡ n

-- a fraction given is within 1 / 2^38 of the exact one, and the same is refused
abbrev pub FractionWithin : Outcome Float → Outcome Exact → Type 0
FractionWithin o p = Agree CloseTo o p

-- what the entry point promises of its result r: its bits, and how far off it is
abbrev pub FractionPromise : DayCountConv → Date → Date → NoteTerms → Result Float Refusal → Type 0
FractionPromise rule start end x r = (outcome_of r ≡ year_fraction fractions_in_f64 rule start end x) × FractionWithin (outcome_of r) (year_fraction fractions_exactly rule start end x)
