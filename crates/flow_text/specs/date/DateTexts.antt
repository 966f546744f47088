-- Dates as text, and what is refused.
use Rattle.std.specs.Prelude.{ℕ, List, ◌∷◌, ◌++◌, Result}
use Rattle.outcome.specs.declared.Refusal.{Refusal}
use Rattle.outcome.specs.Outcome.{Outcome, given, unless}
use Rattle.number_text.specs.write.Writing.{padded_text, Writes}
use Rattle.calendar.specs.dates.Dates.{is_date}
use Rattle.calendar.specs.declared.dates.Date.{Date}

-- yyyy-mm-dd
unfoldable pub date_text : Date → List ℕ
date_text t = padded_text 4 t.year ++ ((45 ∷ padded_text 2 t.month) ++ (45 ∷ padded_text 2 t.day))

-- 1: no such date
unfoldable pub date_shown : Date → Outcome (List ℕ)
date_shown t = unless (is_date t) 1 (given (date_text t))

-- what the entry point promises: the text of a date
abbrev pub DateWrites : Date → List ℕ → List ℕ → Result ℕ Refusal → Type 0
DateWrites t d e r = Writes (date_shown t) d e r
