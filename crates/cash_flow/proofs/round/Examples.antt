-- Amounts rounded, as theorems about the definitions: each computes. A number is written by its
-- bits.
use Prim.Native.Nat.{ℕ}
use mathlib.Core.Path.{◌≡◌, refl}
use mathlib.Core.Bool.{false}
use lib.IntN.{pos, negsuc}
use lib.Ieee.{Float, nan, inf, binary64, mul, div, of_int, of_bits}
use Rattle.outcome.specs.Outcome.{given, refused}
use Rattle.cash_flow.specs.round.RoundedAmounts.{is_roundable, power_of_ten, nearest_whole, rounded_away, rounded_by, round2digits_of}

abbrev bits : ℕ → Float
bits n = of_bits binary64 n

pub record Rounded : Type 0 where
  -- 2.675 at 2 digits is 2.68: the f64 product is 267.5 exactly
  pub half_up : round2digits_of (bits 0x4005666666666666) (pos 2) ≡ given (bits 0x400570a3d70a3d71)
  -- 1.005 at 2 is 1: the product is below 100.5
  pub below_half : round2digits_of (bits 0x3ff0147ae147ae14) (pos 2) ≡ given (bits 0x3ff0000000000000)
  -- 2.5 at 0 is 3, not the even 2, and -2.5 is -3
  pub away : round2digits_of (bits 0x4004000000000000) (pos 0) ≡ given (bits 0x4008000000000000)
  pub away_below : round2digits_of (bits 0xc004000000000000) (pos 0) ≡ given (bits 0xc008000000000000)
  -- -0.001 at 2, and -0.3 at 0, are -0.0
  pub minus_zero_lem : round2digits_of (bits 0xbf50624dd2f1a9fc) (pos 2) ≡ given (bits 0x8000000000000000)
  pub minus_small : round2digits_of (bits 0xbfd3333333333333) (pos 0) ≡ given (bits 0x8000000000000000)
  -- 0.49999999999999994, the f64 below one half, at 0 is 0
  pub almost_half : round2digits_of (bits 0x3fdfffffffffffff) (pos 0) ≡ given (bits 0)
  -- the smallest number above zero
  pub smallest : round2digits_of (bits 1) (pos 4) ≡ given (bits 0)

pub rounded : Rounded
unfolding round2digits_of rounded_by rounded_away nearest_whole power_of_ten is_roundable of_bits of_int mul div
rounded =
    record {
      half_up = refl;
      below_half = refl;
      away = refl;
      away_below = refl;
      minus_zero_lem = refl;
      minus_small = refl;
      almost_half = refl;
      smallest = refl;
    }

-- both ends are in, and what lies past them is refused
pub record Limits : Type 0 where
  pub most : round2digits_of (bits 0x41cdcd6500000000) (pos 4) ≡ given (bits 0x41cdcd6500000000)
  pub least : round2digits_of (bits 0xc1cdcd6500000000) (pos 0) ≡ given (bits 0xc1cdcd6500000000)
  pub next_above : round2digits_of (bits 0x41cdcd6500000001) (pos 2) ≡ refused 15
  pub next-below : round2digits_of (bits 0xc1cdcd6500000001) (pos 2) ≡ refused 15
  pub five_digits : round2digits_of (bits 0) (pos 5) ≡ refused 15
  pub less_than_none : round2digits_of (bits 0) (negsuc 0) ≡ refused 15
  pub not_a_number : round2digits_of nan (pos 2) ≡ refused 15
  pub infinity : round2digits_of (inf false) (pos 2) ≡ refused 15

pub limits : Limits
unfolding round2digits_of rounded_by rounded_away nearest_whole power_of_ten is_roundable of_bits of_int mul div
limits =
    record {
      most = refl;
      least = refl;
      next_above = refl;
      next-below = refl;
      five_digits = refl;
      less_than_none = refl;
      not_a_number = refl;
      infinity = refl;
    }
