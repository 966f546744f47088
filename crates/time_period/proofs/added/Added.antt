-- What an added and a subtracted period lead to.
use mathlib.Core.Path.{◌≡◌, sym, ◌∙◌}
use mathlib.Core.Bool.{true, false}
use lib.IntN.{pos}
use lib.Signed.{lt_z}
use Rattle.outcome.specs.Outcome.{given, refused}
use Rattle.outcome.proofs.Outcomes.{unless-given}
use Rattle.calendar.specs.dates.Dates.{is_date}
use Rattle.calendar.specs.declared.dates.Date.{Date}
use Rattle.time_period.specs.steps.Steps.{Holidays, stepped, is_least, negated, inverse_of, served}
use Rattle.time_period.specs.declared.steps.TimePeriod.{TimePeriod}
use Rattle.time_period.proofs.steps.Signs.{positive_not_least, negative_back}
use Rattle.time_period.proofs.steps.Steps.{EarlierDate, Stepped, step_leads}
use Rattle.time_period.specs.added.Added.{accepted, add_to, sub_from}

-- what is given passed every check
pub record Judged (p : TimePeriod) (h : Holidays) (t u : Date) : Type 0 where
  pub from : is_date t ≡ true
  pub serves : served p.unit h ≡ true
  pub taken : accepted h ≡ true
  pub step : stepped p h t ≡ given u

pub add-judged : (p : TimePeriod) (h : Holidays) (t u : Date) → add_to p h t ≡ given u → Judged p h t u
unfolding add_to
add-judged p h t u e =
    let a = unless-given (is_date t) 1 _ u e in
    let b = unless-given (served p.unit h) 12 _ u a.1 in
    let c = unless-given (accepted h) 13 _ u b.1 in
    record { from = a.0; serves = b.0; taken = c.0; step = c.1 }

-- subtracting is adding the negated number, where there is one, and else 4, after the date's 1
pub record Subtracted (p : TimePeriod) (h : Holidays) (t : Date) : Type 0 where
  pub adds : is_least p.num ≡ false → sub_from p h t ≡ add_to (negated p) h t
  pub least : is_least p.num ≡ true → is_date t ≡ true → sub_from p h t ≡ refused 4
  pub undated : is_date t ≡ false → sub_from p h t ≡ refused 1

pub subtracted : (p : TimePeriod) (h : Holidays) (t : Date) → Subtracted p h t
unfolding sub_from add_to inverse_of
subtracted p h t =
    record {
      adds = λ e. rw e;
      least = λ e d. rw (e, d);
      undated = λ d. rw d;
    }

-- a period added leads later where its number is above zero, and subtracted earlier
pub add_leads : (p : TimePeriod) (h : Holidays) (t u : Date) → add_to p h t ≡ given u → Stepped p h t u
add_leads p h t u e = let j = add-judged p h t u e in step_leads p h t u j.from j.step

pub sub_leads : (p : TimePeriod) (h : Holidays) (t u : Date) → lt_z (pos 0) p.num ≡ true → sub_from p h t ≡ given u → EarlierDate t u
sub_leads p h t u s e =
    let k = add_leads (negated p) h t u (sym ((subtracted p h t).adds (positive_not_least p.num s)) ∙ e) in
    record { dated = k.dated; earlier = k.earlier (negative_back p.num s) }
