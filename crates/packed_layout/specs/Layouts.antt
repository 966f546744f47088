-- Numbers in fields of bits, one after the other; a layout is the list of the fields' widths.
use Rattle.std.specs.Prelude.{ℕ, ◌+◌, ◌^◌, ◌<◌, List, [], ◌∷◌, take, get_or}
use Rattle.outcome.specs.Lists.{Every}
use Rattle.bit_fields.specs.Bits.{Field, in_bits, field}

-- how many bits the fields take
abbrev pub total : List ℕ → ℕ
total [] = 0
total (w ∷ ws) = w + total ws

-- where field k begins: behind the widths before it
abbrev pub position : List ℕ → ℕ → ℕ
position ws k = total (take k ws)

-- the numbers that stand in the fields, of which the first begins at a place of the bytes
unfoldable pub numbers_from : List ℕ → ℕ → List ℕ → List ℕ
numbers_from s at [] = []
numbers_from s at (w ∷ ws) = field s at w ∷ numbers_from s (at + w) ws

-- the fields, of which the first holds number k
abbrev pub fields_from : ℕ → List ℕ → List ℕ → List Field
fields_from k [] ns = []
fields_from k (w ∷ ws) ns = in_bits w (get_or ns k 0) ∷ fields_from (k + 1) ws ns

-- a field's number fits its bits; and so do all
abbrev pub FitsItsBits : Field → Type 0
FitsItsBits f = f.number < 2 ^ f.width

abbrev pub AllFit : List Field → Type 0
AllFit fs = Every FitsItsBits fs
