-- How an outcome is handed over to C: a number is returned, and what is lent is written or kept.
use Rattle.std.specs.Prelude.{ℕ, ◌≡◌, Bool}
use Rattle.outcome.specs.Outcome.{Outcome, number, value, pick}

-- the refusal's number is returned, or 0; what is lent holds the value then, and its old contents
-- where there is none.
-- All that is lent is one value: a number, a date's three numbers, a count and the lists that it
-- counts
abbrev pub HandsOver : {A : Type 0} → Outcome A → ℕ → A → A → Type 0
HandsOver o r old new = (r ≡ number o) × (new ≡ value old o)

-- of a check that is lent nothing there is the number alone
abbrev pub ReturnsNumber : {A : Type 0} → Outcome A → ℕ → Type 0
ReturnsNumber o r = r ≡ number o

-- yes and no are 1 and 0
abbrev pub yes_no : Bool → ℕ
yes_no b = pick b 1 0
