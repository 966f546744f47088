-- Document 01's example note; its list, its accrued interest and its packed bytes are theorems
-- about it.
use Rattle.std.specs.Prelude.{false, pos}
use Rattle.std.specs.Float.{fin}
use Rattle.time_period.specs.declared.steps.TimePeriodUnit.TheVariants as unit
use Rattle.day_count_conv.specs.declared.conventions.DayCountConv.TheVariants as conv
use Rattle.day_adjust.specs.declared.DayAdjust.TheVariants as rule
use Rattle.bond.specs.declared.note.Note.{Note}

-- a 4 percent note of 1000 EUR, issued 2021-01-15, coupon 15.07, 6M, 30E/360, modified, maturing
-- 2022-01-15. 4 is 1 * 2^2; the paper gives no number, and 00417 is one
abbrev pub example_note : Note
example_note =
    record {
      number = record { count = 5; digits = 417 };
      issue_date = record { year = 2021; month = 1; day = 15 };
      maturity = record { year = 2022; month = 1; day = 15 };
      coupon_date = record { day = 15; month = 7 };
      period = record { num = pos 6; unit = unit.Monthly };
      day_count_convention = conv.D30E360;
      business_day_rule = rule.Modified;
      denomination = 1000;
      rate = fin false 1 (pos 2);
      currency = record { first = 69; second = 85; third = 82 };
    }
