-- The text of a period, read and written.
use Rattle.std.specs.Prelude.{ℕ, ◌-◌, ◌≡◌, List, [], ◌∷◌, ◌++◌, leb, eqb, length, take, get_or, Result}
use Rattle.outcome.specs.Outcome.{Outcome, given, refused, unless, and_then, pick}
use Rattle.outcome.specs.Refusals.{outcome_of}
use Rattle.outcome.specs.declared.Refusal.{Refusal}
use Rattle.number_text.specs.read.Reading.{signed_number}
use Rattle.number_text.specs.write.Writing.{signed_text}
use Rattle.time_period.specs.declared.steps.TimePeriodUnit.{TimePeriodUnit}
use Rattle.time_period.specs.declared.steps.TimePeriodUnit.TheVariants.{Daily, BusinessDaily, Weekly, Monthly, Annual}
use Rattle.time_period.specs.declared.steps.TimePeriod.{TimePeriod}

-- the last byte is D (68), B (66), W (87), M (77) or Y (89), else 3
unfoldable pub unit_of_letter : ℕ → Outcome TimePeriodUnit
unit_of_letter b =
    pick (eqb b 68) (given Daily)
    (pick (eqb b 66) (given BusinessDaily)
    (pick (eqb b 87) (given Weekly)
    (pick (eqb b 77) (given Monthly)
    (pick (eqb b 89) (given Annual)
    (refused 3)))))

-- before it a signed 32-bit decimal, `+` allowed, else 4
unfoldable pub number_part : List ℕ → TimePeriodUnit → Outcome TimePeriod
number_part s u = and_then (signed_number 4 s) (λ n. given (record { num = n; unit = u }))

-- at least 2 bytes, else 2; checks in order: 2, 3, 4
unfoldable pub period_read : List ℕ → Outcome TimePeriod
period_read s =
    unless (leb 2 (length s)) 2
    (and_then (unit_of_letter (get_or s (length s - 1) 0))
    (number_part (take (length s - 1) s)))

-- written back: the number, then the unit's letter
abbrev pub letter_of : TimePeriodUnit → ℕ
letter_of Daily = 68
letter_of BusinessDaily = 66
letter_of Weekly = 87
letter_of Monthly = 77
letter_of Annual = 89

unfoldable pub period_text : TimePeriod → List ℕ
period_text p = signed_text p.num ++ (letter_of p.unit ∷ [])

-- what the reader promises of its result r
abbrev pub ReadPeriodPromise : List ℕ → Result TimePeriod Refusal → Type 0
ReadPeriodPromise s r = outcome_of r ≡ period_read s
