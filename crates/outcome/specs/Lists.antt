-- What holds of every element of a list, what a test takes of it, and a list by its rule.
use Rattle.std.specs.Prelude.{ℕ, zero, suc, ◌+◌, ◌<◌, Bool, true, List, [], ◌∷◌}
use Rattle.outcome.specs.Outcome.{pick, both}

abbrev pub Every : {A : Type 0} → (A → Type 0) → List A → Type 0
Every P [] = 0 < 1
Every P (x ∷ l) = P x × Every P l

-- those that a test takes, in their order
unfoldable pub those : {A : Type 0} → (A → Bool) → List A → List A
those test [] = []
those test (x ∷ l) = pick (test x) (x ∷ those test l) (those test l)

-- a test that every one passes
unfoldable pub all_of : {A : Type 0} → (A → Bool) → List A → Bool
all_of test [] = true
all_of test (x ∷ l) = both (test x) (all_of test l)

-- f i, f (i + 1), .., of which there are n
unfoldable pub values_from : {A : Type 0} → (ℕ → A) → ℕ → ℕ → List A
values_from f i zero = []
values_from f i (suc n) = f i ∷ values_from f (i + 1) n
