-- Numbers in fields of bits, the most significant bit first.
use Rattle.std.specs.Prelude.{ℕ, zero, suc, ◌+◌, ◌*◌, ◌/◌, ◌%◌, ◌<◌, List, [], ◌∷◌, ◌++◌, map, take, drop}
use Rattle.outcome.specs.Lists.{Every}

-- the last w bits of n
unfoldable pub field_bits : ℕ → ℕ → List ℕ
field_bits zero n = []
field_bits (suc w) n = field_bits w (n / 2) ++ ((n % 2) ∷ [])

-- a number in so many bits
pub record Field : Type 0 where
  pub width : ℕ
  pub number : ℕ

abbrev pub in_bits : ℕ → ℕ → Field
in_bits w n = record { width = w; number = n }

-- the bits of fields one after the other, most significant first
unfoldable pub fields_bits : List Field → List ℕ
fields_bits [] = []
fields_bits (f ∷ fs) = field_bits f.width f.number ++ fields_bits fs

-- bits behind a number: each makes it twice as much, and adds itself
unfoldable pub continued_bits : ℕ → List ℕ → ℕ
continued_bits v [] = v
continued_bits v (b ∷ s) = continued_bits (v * 2 + b) s

-- the number that bits are
abbrev pub bits_number : List ℕ → ℕ
bits_number s = continued_bits 0 s

-- the bits of bytes, eight of each
unfoldable pub bits_of : List ℕ → List ℕ
bits_of s = fields_bits (map (in_bits 8) s)

-- the number in the w bits from place at on
unfoldable pub field : List ℕ → ℕ → ℕ → ℕ
field s at w = bits_number (take w (drop at (bits_of s)))

-- the k bytes that bits are
unfoldable pub bytes_of : ℕ → List ℕ → List ℕ
bytes_of zero s = []
bytes_of (suc k) s = bits_number (take 8 s) ∷ bytes_of k (drop 8 s)

-- every one is a byte
abbrev pub AreBytes : List ℕ → Type 0
AreBytes s = Every (λ b. b < 256) s
