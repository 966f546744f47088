-- Amounts as text, as theorems about the definitions: each computes.
use Prim.Native.Nat.{ℕ}
use mathlib.Core.Path.{◌≡◌, refl}
use mathlib.Core.Bool.{true, false}
use mathlib.Core.List.{List, [], ◌∷◌, ◌++◌}
use lib.IntN.{pos, negsuc}
use lib.ListN.{length, replicate}
use lib.Ieee.{nan, inf, fin}
use Rattle.outcome.specs.Outcome.{given, refused, and_then, passed_as}
use Rattle.number_text.specs.write.Writing.{digits, places_within, places, decimal_text, right_aligned, put, written_length, written_bytes, shown_bytes}
use Rattle.decimal.specs.float.Decimal.{ten_thousandths, four_decimals, decimal_text16, decimal_shown}

-- n blanks before a text
abbrev after : ℕ → List ℕ → List ℕ
after n xs = replicate n 32 ++ xs

-- a number is its mantissa times a power of two: 1 / 32 is `fin false 1 (negsuc 4)`, and `negsuc 4`
-- is -5
pub record Texts : Type 0 where
  -- 20.0000, as in the paper's listing
  pub twenty : decimal_text16 (fin false 5 (pos 2)) ≡ after 9 (50 ∷ 48 ∷ 46 ∷ 48 ∷ 48 ∷ 48 ∷ 48 ∷ [])
  -- exact halves, to the even digit: 0.03125 is 0.0312, and 0.09375 is 0.0938
  pub half_down : decimal_text16 (fin false 1 (negsuc 4)) ≡ after 10 (48 ∷ 46 ∷ 48 ∷ 51 ∷ 49 ∷ 50 ∷ [])
  pub half_up : decimal_text16 (fin false 3 (negsuc 4)) ≡ after 10 (48 ∷ 46 ∷ 48 ∷ 57 ∷ 51 ∷ 56 ∷ [])
  -- -0.0, and a number above -0.00005: -0.0000
  pub minus_zero_lem : decimal_text16 (fin true 0 (pos 0)) ≡ after 9 (45 ∷ 48 ∷ 46 ∷ 48 ∷ 48 ∷ 48 ∷ 48 ∷ [])
  pub minus_little : decimal_text16 (fin true 1 (negsuc 14)) ≡ after 9 (45 ∷ 48 ∷ 46 ∷ 48 ∷ 48 ∷ 48 ∷ 48 ∷ [])
  -- the smallest number above zero
  pub smallest : decimal_text16 (fin false 1 (negsuc 1073)) ≡ after 10 (48 ∷ 46 ∷ 48 ∷ 48 ∷ 48 ∷ 48 ∷ [])
  -- 1e22, past the 16 columns
  pub long : decimal_text16 (fin false 2384185791015625 (pos 22)) ≡ 49 ∷ (replicate 22 48 ++ (46 ∷ 48 ∷ 48 ∷ 48 ∷ 48 ∷ []))
  -- 2 ^ 1023: 308 digits, the point and four decimals
  pub longest : length (decimal_text16 (fin false 1 (pos 1023))) ≡ 313

pub texts : Texts
unfolding ten_thousandths four_decimals decimal_text16 digits places_within places decimal_text right_aligned
texts =
    record {
      twenty = refl;
      half_down = refl;
      half_up = refl;
      minus_zero_lem = refl;
      minus_little = refl;
      smallest = refl;
      long = refl;
      longest = refl;
    }

-- 15 comes before 16, whatever the room; 15 bytes are too few for 0.0000
pub record Refusals : Type 0 where
  pub not_a_number : and_then (decimal_shown nan) (written_length []) ≡ refused 15
  pub infinity : and_then (decimal_shown (inf true)) (written_length (replicate 400 7)) ≡ refused 15
  pub no_room : and_then (decimal_shown (fin false 0 (pos 0))) (written_length (replicate 15 7)) ≡ refused 16
  pub kept : shown_bytes (replicate 15 7) (decimal_shown (fin false 0 (pos 0))) ≡ replicate 15 7
  pub room : and_then (decimal_shown (fin false 0 (pos 0))) (written_length (replicate 18 7)) ≡ given 16
  pub written : shown_bytes (replicate 18 7) (decimal_shown (fin false 0 (pos 0))) ≡ after 10 (48 ∷ 46 ∷ 48 ∷ 48 ∷ 48 ∷ 48 ∷ 7 ∷ 7 ∷ [])
  pub no_length : passed_as length (decimal_shown nan) ≡ refused 15

pub refusals : Refusals
unfolding ten_thousandths four_decimals decimal_text16 decimal_shown digits places_within places decimal_text right_aligned put written_length written_bytes
refusals =
    record {
      not_a_number = refl;
      infinity = refl;
      no_room = refl;
      kept = refl;
      room = refl;
      written = refl;
      no_length = refl;
    }
