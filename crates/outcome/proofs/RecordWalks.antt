-- What the walks over slices of records share.
use mathlib.Core.Path.{◌≡◌, ap, subst}
use mathlib.Core.List.{[], ◌∷◌}
use mir.Val.{Val}
use denote.Laws.{Is}
use denote.Steps.{only}
use denote.Enum.Declared.{Declared, row}
use denote.Enum.Laws.{Laws, val, tells}
use mir.Syntax.{Body, skip, seq, assign, block, loop, cond, switch, exit, return, call, unreachable, call_v, lend_static}

-- what follows the first part of a sequence: by it a walk names a piece of the code
abbrev pub rest_of : Body → Body
rest_of skip = skip
rest_of (seq a b) = b
rest_of (assign p r) = skip
rest_of (block b) = skip
rest_of (loop b) = skip
rest_of (cond c a b) = skip
rest_of (switch c as') = skip
rest_of (exit n) = skip
rest_of return = skip
rest_of (call f xs p) = skip
rest_of unreachable = skip
rest_of (call_v a b c d) = skip
rest_of (lend_static a b c) = skip

-- a result of a declared type: its machine value is the type's, and that value holds what the type
-- says
module _ (T : Declared) (L : Laws T) where
  pub told : (r : T.D) (u : Val) → Is (row T) r (u ∷ []) → u ≡ val T L r
  told r u is = ap only (tells T L r (u ∷ []) is)

  pub held : (r : T.D) (u : Val) → Is (row T) r (u ∷ []) → Is (row T) r (val T L r ∷ [])
  held r u is = subst (Is (row T) r) (tells T L r (u ∷ []) is) is
