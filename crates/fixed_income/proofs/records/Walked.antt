-- What the two walks over records share: how a record and a date stand in memory, and the call of
-- `is_later` with both.
use mathlib.Core.Path.{◌≡◌}
use mathlib.Core.Bool.{Bool}
use mathlib.Core.List.{List, [], ◌∷◌}
use seplogic.Ra.Ura.{Ura}
use package.mir.Syntax.{Ty, named, imm, w64, ty_int, ty_ref}
use package.mir.Val.{Val}
use base.Logic.{SProp, ent, snd∗, ex_e}
use base.Fml.{ftrue}
use prog.Memory.{Memory}
use prog.Routine.{Routine}
use types.Logic.{Logic, sem}
use contract.Monad.{Fun, fact}
use types.Kit.{‵, ◌$◌, ◌∵◌, !, qed, join, frame, done}
use denote.RattleType.{owns}
use denote.Memory.{pointee}
use denote.Slice.{slice_ty}
use denote.Struct.Laws as LL
use denote.Triple.Statement.{Contract}
use denote.Triple.Clauses.{ensured, lasts}
use denote.Triple.Entry.{on_entry}
use denote.Triple.Spec.{triple_of}
use Rattle.calendar.specs.declared.dates.Date.{Date}
use Rattle.cash_flow.specs.declared.flow.CashFlow.{CashFlow}
use Rattle.fixed_income.specs.records.After.{is_later}
use Rattle.calendar.specs.contracts.dates.Date as D
use Rattle.calendar.proofs.dates.Date.TheLaws as D'
use Rattle.cash_flow.specs.contracts.flow.CashFlow as T
use Rattle.cash_flow.proofs.flow.CashFlow.TheLaws as T'
use Rattle.fixed_income.specs.contracts.records.is_later as is_later

abbrev pub vals : CashFlow → List Val
vals = LL.vals T.the_type T'.the_laws

abbrev pub dates : Date → List Val
dates = LL.vals D.the_type D'.the_laws

abbrev pub word : Ty
word = ty_int w64

abbrev pub slice : Ty
slice = slice_ty (ty_ref (named 0) imm (pointee (T.the_row).written))

module _ {M : Type 1} {𝓤 : Ura M} (𝓛 : Logic 𝓤) (mem : Memory → SProp 𝓤) (run : Routine → Fun 𝓤) where
  abbrev pub IsLater : Contract 𝓤
  IsLater = triple_of 𝓛 is_later.signature (is_later.spec 𝓛 mem run)

  -- what is passed, what is asked, and what is heard
  module _ (date : Date) (flow : CashFlow) where
    abbrev pub to-is_later : IsLater.Ghost
    to-is_later = ((tt, tt, tt, (flow, (date, tt)), (vals flow, (dates date, tt))), tt)

    pub asked_is_later : ent 𝓤 (on_entry 𝓛 is_later.signature tt tt (flow, (date, tt)) (vals flow, (dates date, tt))) (IsLater.pre to-is_later)
    asked_is_later = qed 𝓛 (‵ ftrue ∷ ‵ (owns (T.the_row ∷ D.the_row ∷ []) (flow, (date, tt)) (vals flow, (dates date, tt))) ∷ []) ∵ join ! $ frame ! $ done !

    pub said_is_later : (c : Bool) → ent 𝓤 (ensured 𝓛 is_later.ended (is_later.clauses 𝓛 mem run) tt (flow, (date, tt)) tt c) (fact 𝓤 (c ≡ is_later date flow))
    said_is_later c = ex_e 𝓤 _ (λ ws. snd∗ 𝓤 (sem 𝓛 (lasts is_later.ended tt (flow, (date, tt)) ws)) (fact 𝓤 (c ≡ is_later date flow)))
