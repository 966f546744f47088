-- The desk card's fractions, and cases that a trainee gets wrong, as theorems about the
-- definitions; each f64 by its pattern.
use Prim.Native.Nat.{ℕ, ◌+◌, ◌-◌, ◌*◌, ◌^◌}
use native.Mathlib.Nat.{not-le_of_lt}
use mathlib.Core.Path.{◌≡◌, refl, ap₂, subst}
use mathlib.Core.Bool.{true, false}
use lib.IntN.{ℤ, pos}
use lib.Dec.{lit<}
use lib.Ieee.{Float, binary64, add, sub, div, of_int, of_bits}
use Rattle.rounding.specs.Close.{Close}
use Rattle.calendar.specs.gregorian.Gregorian.{leap, length_in, month_length, year_length, days_before, before_month}
use Rattle.calendar.specs.dates.Dates.{is_date, is_same}
use Rattle.calendar.proofs.dates.Dates.{date-yes}
use Rattle.calendar.proofs.dates.Examples.{first-number, last-number}
use Rattle.day_fraction.specs.Exact.{Exact, difference}
use Rattle.day_fraction.specs.Fractions.{exact_fraction, bits, impossible, quotient, leap_years, leap_bits, since_january}
use Rattle.day_fraction.specs.declared.SimpleRule.TheVariants.{Act365, Act360, Act365l, D30_360, D30E360}
use Rattle.day_fraction.proofs.Spans.{since_is}
use Rattle.calendar.proofs.dates.Examples.{on}

abbrev pub fraction : ℤ → ℕ → Exact
fraction n d = record { num = n; den = d }

abbrev pattern : ℕ → Float
pattern n = of_bits binary64 n

-- the days since a date's 1 January, without a count of each year before it
since : (y m d : ℕ) → is_date (on y m d) ≡ true → since_january (on y m d) ≡ before_month y m + d - 1
since y m d h = since_is (on y m d) (date-yes (on y m d) h)

-- each of the desk card's by its letter: the exact value, and its f64
pub record Card : Type 0 where
  pub g : exact_fraction D30_360 (on 2021 1 30) (on 2021 1 31) ≡ fraction (pos 0) 360
  pub g-refused : impossible D30_360 (on 2021 1 30) (on 2021 1 31) ≡ true
  pub h : exact_fraction D30_360 (on 2020 11 30) (on 2021 2 28) ≡ fraction (pos 88) 360
  pub h-bits : bits D30_360 (on 2020 11 30) (on 2021 2 28) ≡ pattern 0x3fcf_49f4_9f49_f49f
  pub i : exact_fraction D30_360 (on 2021 1 15) (on 2021 3 31) ≡ fraction (pos 76) 360
  pub i_bits : bits D30_360 (on 2021 1 15) (on 2021 3 31) ≡ pattern 0x3fcb_05b0_5b05_b05b
  pub i_e : exact_fraction D30E360 (on 2021 1 15) (on 2021 3 31) ≡ fraction (pos 75) 360
  pub i_e_bits : bits D30E360 (on 2021 1 15) (on 2021 3 31) ≡ pattern 0x3fca_aaaa_aaaa_aaaa
  pub j : exact_fraction Act365l (on 2019 7 1) (on 2020 7 1) ≡ fraction (pos (1 * (366 * 365) + 182 * 365 - 181 * 366)) (366 * 365)
  pub j-bits : bits Act365l (on 2019 7 1) (on 2020 7 1) ≡ pattern 0x3ff0_05a4_4133_587b

pub card : Card
unfolding leap length_in month_length year_length days_before is_date is_same exact_fraction bits impossible add sub div of_int of_bits
card =
    let s = since 2019 7 1 refl in
    let e = since 2020 7 1 refl in
    record {
      g = refl;
      g-refused = refl;
      h = refl;
      h-bits = refl;
      i = refl;
      i_bits = refl;
      i_e = refl;
      i_e_bits = refl;
      j = ap₂ (λ (a b : ℕ). leap_years (pos 1) b 366 a 365) s e;
      j-bits = ap₂ (λ (a b : ℕ). leap_bits (pos 1) b 366 a 365) s e;
    }

-- the whole calendar, by each rule: the exact value, and its f64
pub record Whole : Type 0 where
  pub act_365 : exact_fraction Act365 (on 1 1 1) (on 9999 12 31) ≡ fraction (pos 3652058) 365
  pub act_365_bits : bits Act365 (on 1 1 1) (on 9999 12 31) ≡ pattern 0x40c3_8ad1_b5a7_a09d
  pub act_360 : exact_fraction Act360 (on 1 1 1) (on 9999 12 31) ≡ fraction (pos 3652058) 360
  pub act_360_bits : bits Act360 (on 1 1 1) (on 9999 12 31) ≡ pattern 0x40c3_d04d_82d8_2d83
  pub act_365_leap : exact_fraction Act365l (on 1 1 1) (on 9999 12 31) ≡ fraction (pos ((9998 * 365 + 364) * 365)) (365 * 365)
  pub act_365_leap_bits : bits Act365l (on 1 1 1) (on 9999 12 31) ≡ pattern 0x40c3_877f_a639_8328
  pub thirty : exact_fraction D30_360 (on 1 1 1) (on 9999 12 31) ≡ fraction (pos (9999 * 360)) 360
  pub thirty_bits : bits D30_360 (on 1 1 1) (on 9999 12 31) ≡ pattern 0x40c3_8780_0000_0000
  pub thirty_e : exact_fraction D30E360 (on 1 1 1) (on 9999 12 31) ≡ fraction (pos (9999 * 360 - 1)) 360
  pub thirty_e_bits : bits D30E360 (on 1 1 1) (on 9999 12 31) ≡ pattern 0x40c3_877f_a4fa_4fa5

pub whole_calendar : Whole
unfolding leap length_in month_length year_length days_before is_date exact_fraction bits add sub div of_int of_bits
whole_calendar =
    let s = since 1 1 1 refl in
    let e = since 9999 12 31 refl in
    record {
      act_365 = ap₂ (λ (a b : ℕ). fraction (difference b a) 365) first-number last-number;
      act_365_bits = ap₂ (λ (a b : ℕ). quotient (difference b a) 365) first-number last-number;
      act_360 = ap₂ (λ (a b : ℕ). fraction (difference b a) 360) first-number last-number;
      act_360_bits = ap₂ (λ (a b : ℕ). quotient (difference b a) 360) first-number last-number;
      act_365_leap = ap₂ (λ (a b : ℕ). leap_years (pos 9998) b 365 a 365) s e;
      act_365_leap_bits = ap₂ (λ (a b : ℕ). leap_bits (pos 9998) b 365 a 365) s e;
      thirty = refl;
      thirty_bits = refl;
      thirty_e = refl;
      thirty_e_bits = refl;
    }

-- months go down over the new year, and the ends of months
pub record Slips : Type 0 where
  pub new_year : exact_fraction D30_360 (on 2020 12 31) (on 2021 1 1) ≡ fraction (pos 1) 360
  pub new_year_bits : bits D30_360 (on 2020 12 31) (on 2021 1 1) ≡ pattern 0x3f66_c16c_16c1_6c60
  pub start_31 : exact_fraction D30_360 (on 2021 1 31) (on 2021 2 28) ≡ fraction (pos 28) 360
  pub end_31_after_30 : exact_fraction D30_360 (on 2021 1 30) (on 2021 3 31) ≡ fraction (pos 60) 360
  pub end_31_after_29 : exact_fraction D30_360 (on 2021 1 29) (on 2021 3 31) ≡ fraction (pos 62) 360
  pub end_31_e : exact_fraction D30E360 (on 2021 1 29) (on 2021 3 31) ≡ fraction (pos 61) 360
  pub same-date : impossible D30_360 (on 2021 1 31) (on 2021 1 31) ≡ false
  pub other_rule : impossible Act365 (on 2021 1 30) (on 2021 1 31) ≡ false

pub slips : Slips
unfolding is_same exact_fraction bits impossible add div of_int of_bits
slips =
    record {
      new_year = refl;
      new_year_bits = refl;
      start_31 = refl;
      end_31_after_30 = refl;
      end_31_after_29 = refl;
      end_31_e = refl;
      same-date = refl;
      other_rule = refl;
    }

-- two sums may cost almost half of 1 / 2 ^ 38, so no bound of 1 / 2 ^ 40 holds of every rule
pub not_closer : Close (2 ^ 40) (bits Act365l (on 400 6 19) (on 9996 7 30)) (exact_fraction Act365l (on 400 6 19) (on 9996 7 30)).num (exact_fraction Act365l (on 400 6 19) (on 9996 7 30)).den → ⊥
unfolding leap length_in month_length year_length days_before is_date exact_fraction bits add sub div of_int
not_closer c =
    let near : ℕ → ℕ → Type 0 = λ a b. Close (2 ^ 40) (leap_bits (pos 9596) b 366 a 366) (leap_years (pos 9596) b 366 a 366).num (366 * 366) in
    let d = subst (λ (n : ℕ). near n 211) (since 400 6 19 refl) (subst (near (since_january (on 400 6 19))) (since 9996 7 30 refl) c) in
    not-le_of_lt (lit< tt) d.1
