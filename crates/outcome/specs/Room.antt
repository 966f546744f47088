-- Lent room, of whatever its places hold: what is written stands in front, and room past it keeps
-- its contents.
use Rattle.std.specs.Prelude.{ℕ, List, ◌++◌, map, leb, length, drop}
use Rattle.outcome.specs.Outcome.{Outcome, given, refused, unless, passed_as}

-- fewer places than there is to write: 16
abbrev pub fitting : {A : Type 0} → ℕ → Outcome (List A) → Outcome (List A)
fitting places (given new) = unless (leb (length new) places) 16 (given new)
fitting places (refused n) = refused n

-- how many were written
abbrev pub counted : {A : Type 0} → Outcome (List A) → Outcome ℕ
counted o = passed_as length o

-- the room afterwards: the new in front of the old, and all the old where it was refused
abbrev pub room_after : {A B : Type 0} → (A → B) → Outcome (List A) → List B → List B
room_after part (given new) old = map part new ++ drop (length new) old
room_after part (refused n) old = old
