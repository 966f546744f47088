-- What the inner functions hand each other; no promise of an entry point rests on this.
use Rattle.std.specs.Prelude.{ℕ, zero, suc, ◌+◌, ◌*◌, ◌^◌}

-- how many times 1 / 2 ^ 1074 an f64 is in size, by the exponent's field and the mantissa's
unfoldable pub size_of : ℕ → ℕ → ℕ
size_of zero mantissa = mantissa
size_of (suc k) mantissa = (4503599627370496 + mantissa) * 2 ^ k
