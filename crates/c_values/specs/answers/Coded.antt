-- How a period is handed over to C.
use Rattle.std.specs.Prelude.{ℕ, ℤ}
use Rattle.time_period.specs.declared.steps.TimePeriod.{TimePeriod}
use Rattle.packed_codes.specs.Codes.{code_of_unit}

-- a period is its number and its unit's packed code
abbrev pub coded : TimePeriod → ℤ × ℕ
coded p = (p.num, code_of_unit p.unit)
