-- No second outcome meets the promise: it fixes the answer and the bytes. A refusal's number is
-- never 0.
use Rattle.std.specs.Prelude.{Result}
use mathlib.Core.Path.{◌≡◌}
use mathlib.Core.List.{List}
use native.Mathlib.Omega.{arith}
use Rattle.outcome.specs.Outcome.{and_then, Numbered}
use Rattle.outcome.specs.declared.Refusal.{Refusal}
use Rattle.outcome.proofs.Outcomes.{unless_numbered}
use Rattle.number_text.specs.write.Writing.{written_length}
use Rattle.number_text.proofs.write.OneOutcome.{one_writes}
use Rattle.number_text.proofs.write.Shown.{writes_numbered}
use Prim.Native.Nat.{ℕ}
use Rattle.calendar.specs.dates.Dates.{is_date}
use Rattle.calendar.specs.declared.dates.Date.{Date}
use Rattle.flow_text.specs.date.DateTexts.{date_shown, DateWrites}

pub one-date : (t : Date) (d e f : List ℕ) (r s : Result ℕ Refusal) → DateWrites t d e r → DateWrites t d f s → (r ≡ s) × (e ≡ f)
one-date t d e f r s p q = one_writes (date_shown t) d e f r s p q

date_shown_numbered : (t : Date) → Numbered (date_shown t)
unfolding date_shown
date_shown_numbered t = unless_numbered (is_date t) 1 _ (omega arith) (omega arith)

pub date_numbered : (t : Date) (d : List ℕ) → Numbered (and_then (date_shown t) (written_length d))
date_numbered t d = writes_numbered (date_shown t) d (date_shown_numbered t)
