-- The order of the refusals: what is asked of a spot that is refused is refused with its number.
use Rattle.std.proofs.Common.{ℕ, ◌≡◌, Bool, true, false, List}
use Rattle.outcome.specs.Outcome.{Outcome, given, refused, unless}
use Rattle.calendar.specs.dates.Dates.{is_day}
use Rattle.calendar.specs.declared.dates.Day.{Day}
use Rattle.business_days.specs.table.Table.{is_table}
use Rattle.business_days.specs.days.Answers.{judged}

unless_on : {A B : Type 0} (p q : Bool) (a : A) (rest : Outcome B) (n : ℕ) → refused n ≡ unless p 1 (unless q 13 (given a)) → refused n ≡ unless p 1 (unless q 13 rest)
unless_on true true a rest n e = absurd (cc)
unless_on true false a rest n e = cc
unless_on false q a rest n e = cc

pub judged_on : {A B : Type 0} (d : Day) (t : List ℕ) (a : A) (rest : Outcome B) (n : ℕ) → refused n ≡ judged d t (given a) → refused n ≡ judged d t rest
judged_on d t a rest n e = unless_on (is_day d) (is_table t) a rest n e
