-- Fields by hand: bytes 5A 03 are 0101 1010 0000 0011.
use mathlib.Core.Path.{◌≡◌, refl}
use mathlib.Core.List.{[], ◌∷◌, ◌++◌}
use Rattle.bit_fields.specs.Bits.{field_bits, fields_bits, continued_bits, bits_of, field, bytes_of}

record Fields : Type 0 where
  first_bit : field (90 ∷ 3 ∷ []) 0 1 ≡ 0
  second_bit : field (90 ∷ 3 ∷ []) 1 1 ≡ 1
  over_the_seam : field (90 ∷ 3 ∷ []) 4 9 ≡ 320
  whole : field (90 ∷ 3 ∷ []) 0 16 ≡ 23043
  no_bits : field (90 ∷ 3 ∷ []) 5 0 ≡ 0
  back : bytes_of 2 (field_bits 4 5 ++ (field_bits 9 320 ++ field_bits 3 3)) ≡ 90 ∷ 3 ∷ []

fields : Fields
unfolding field_bits fields_bits continued_bits bits_of field bytes_of
fields = record { first_bit = refl; second_bit = refl; over_the_seam = refl; whole = refl; no_bits = refl; back = refl }
