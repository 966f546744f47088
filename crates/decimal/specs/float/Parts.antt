-- What the inner functions hand each other on the way to the text; no promise of an entry point
-- rests on this.
use Rattle.std.specs.Prelude.{◌*◌, ◌^◌, ◌≤◌, ◌<◌, ◌≡◌, true, false, Float, Option, Some, None}
use Rattle.std.specs.Float.Ieee.Scale.{finite}
use Rattle.rounding.specs.Close.{sign_bit}
use Rattle.decimal.specs.float.Decimal.{ten_thousandths}
use Rattle.decimal.specs.declared.float.Parts.{Parts}
use Rattle.decimal.specs.declared.float.Parts.TheVariants.{Small, Large}

-- p is the number x: its sign, and its ten-thousandths as n or as n * 2 ^ twos; none is not finite
abbrev pub PartsOf : Float → Option Parts → Type 0
PartsOf x (Some (Small s n)) = (finite x ≡ true) × (s ≡ sign_bit x) × (n ≡ ten_thousandths x)
PartsOf x (Some (Large s n twos)) = (finite x ≡ true) × (s ≡ sign_bit x) × (n * 2 ^ twos ≡ ten_thousandths x) × (n < 2 ^ 63) × (twos ≤ 975)
PartsOf x None = finite x ≡ false
