-- An array of flows in a local: its first flows are lent as a slice, and the array is whole again.
use mathlib.Core.Path.{◌≡◌, refl, sym, ◌∙◌, subst}
use Prim.Native.Nat.{ℕ, ◌≤◌}
use mathlib.Core.List.{List, [], ◌∷◌, ◌++◌, map}
use lib.ListN.{length, take, drop as drop-list, take-append-drop}
use lib.Seq.{length_front}
use seplogic.Ra.Ura.{Ura}
use base.Fraction.{full_share}
use package.mir.Syntax.{Ty, Lifetime, ty_array}
use package.mir.Val.{Val, vstruct, of_list}
use base.Logic.{ent, sep, ex, guard}
use base.Fml.{Lft, GName, Fml, fsep, fat, fdead, flent}
use types.Logic.{Logic, sem}
use types.Kit.{‵, ◌⊛◌, some, given, later, ◌$◌, ◌∵◌, !, qed, move, use1, use2, use3, drop, split, pick, learn, rewrite, check, fsplit, fjoin, fpick, fpack, feq_i, feq_l, await, updating, now as at_once, show, done}
use types.Tokens.{lent_back}
use types.SemTy.{cells, Arr}
use types.Share.{arr_parts}
use denote.Laws.{Typed, Is, shows}
use denote.Lend.{Held, lends_slice, slice_back}
use denote.Ref.{MutBor}
use denote.Slice.{Room, MutSlice, slice_val, finally}
use denote.Memory.{cell_at, part_at, mem, shares, part_of}
use denote.Array.{each, Array, array_vals, Array-Makes, Array-Lawful, Array-Tells}
use denote.ArrayMemory.{Array-apart, Array-whole}
use denote.Steps.{owned, peeks, only}
use denote.Struct.Laws as LL
use denote.Enum.Laws as EL
use denote.Builtin.{usize}
use denote.Struct.Field.{usize-field}
use denote.Struct.Laws.{usize-laws, usize-copy}
use denote.Param.Laws.{of_field, field_told, enum_told}
use denote.Param.Shared.{copy_shared}
use denote.Shadow.{shadow}
use borrow.Rule.Slice.Shared.{parts-cells}
use borrow.Table.Elements.{at, cut_app, join_app}
use lib.Seq.{length-take-le}
use Rattle.std.specs.Prelude.{Result}
use Rattle.std.specs.contracts.result.Result as E
use Rattle.std.proofs.result.Result.TheLaws as E'
use Rattle.outcome.proofs.RecordWalks.{held}
use Rattle.outcome.specs.declared.Refusal.{Refusal}
use Rattle.outcome.specs.contracts.Refusal as R
use Rattle.outcome.proofs.Refusal.TheLaws as R'
use Rattle.cash_flow.specs.declared.flow.CashFlow.{CashFlow}
use Rattle.cash_flow.specs.contracts.flow.CashFlow as T
use Rattle.cash_flow.proofs.flow.CashFlow.TheLaws as T'
use Rattle.replay.specs.declared.flows.Records.{Records}
use Rattle.replay.specs.contracts.flows.Records as S

-- the machine value of an array of flows, and its type
abbrev pub flows-val : List CashFlow → Val
flows-val ys = only (array_vals (LL.vals T.the_type T'.the_laws) ys)

abbrev pub flows_ty : ℕ → Ty
flows_ty n = ty_array T'.mir n

abbrev pub Flows : ℕ → List CashFlow → Type 0
Flows n ys = Is (Array T.the_row n) ys (flows-val ys ∷ [])

-- it has n of them, and among them are the first k
pub as_many : (n : ℕ) (ys : List CashFlow) → Flows n ys → length ys ≡ n
as_many n ys g = g.1.0.1

pub first-many : (n k : ℕ) (ys : List CashFlow) → Flows n ys → k ≤ n → length (take k ys) ≡ k
first-many n k ys g h = length-take-le k ys (subst (λ (m : ℕ). k ≤ m) (sym (as_many n ys g)) h)

-- the slice of flows at the start of a local
abbrev pub slice_of : ℕ → List CashFlow → GName → MutBor (List CashFlow)
slice_of b zs γ = record { ref_ptr = (b, 0); ghost_name = γ; now = zs }

-- where the flows behind the first k begin
abbrev behind : List CashFlow → ℕ → ℕ
behind ys k = at 0 (mem T.the_row).size (length (take k ys))

-- what is left while the first k are lent as `&`
abbrev pub Shared : ℕ → Lft → List CashFlow → ℕ → Fml
Shared b κ ys k = fsep (flent κ ((arr_parts (shares T.the_row) (length (take k ys))).part full_share (take k ys) b 0)) (cells (mem T.the_row) (drop-list k ys) b (behind ys k))

-- and as `&mut`
abbrev pub Taken : ℕ → Lft → List CashFlow → ℕ → GName → Fml
Taken b κ ys k γ = fsep (flent κ (Held T.the_row (length (take k ys)) b 0 γ)) (cells (mem T.the_row) (drop-list k ys) b (behind ys k))

-- the laws of an answer: a count, or a refusal
abbrev answer-laws : EL.Laws (E.the_type usize R.the_row)
answer-laws = E'.the_laws usize R.the_row (of_field usize-field usize-laws refl (copy_shared usize-field usize-copy)) R'.the_row_laws (field_told usize-field usize-laws) (enum_told R.the_type R'.the_laws)

-- an answer's machine value
abbrev pub answer : Result ℕ Refusal → Val
answer a = EL.val (E.the_type usize R.the_row) answer-laws a

-- an answer with its room is a record, which has the flows by their fields
abbrev pub result : Result ℕ Refusal → List CashFlow → Records
result r zs = record { answer = r; room = zs }

abbrev pub result_val : Result ℕ Refusal → List CashFlow → Val
result_val r zs = vstruct (of_list (answer r ∷ flows-val zs ∷ []))

as_field : (zs : List CashFlow) (us : List Val) → shadow (each CashFlow (T.the_row).own_val zs us) → shadow (each (T.the_field).row.Denot (T.the_field).row.own_val (map (T.the_field).into zs) us)
as_field [] [] s = s
as_field [] (u ∷ us) s = s
as_field (z ∷ zs) [] s = s
as_field (z ∷ zs) (u ∷ us) s = (s.0, as_field zs us s.1)

pub made : (r : Result ℕ Refusal) (zs : List CashFlow) (u : Val) → Is (E.the_row usize R.the_row) r (u ∷ []) → Flows 300 zs → Is S.the_row (result r zs) (result_val r zs ∷ [])
made r zs u h g = ((answer r ∷ [], (flows-val zs ∷ [], tt)), (refl, (held (E.the_type usize R.the_row) answer-laws r u h, (g, tt))))

module _ {M : Type 1} {𝓤 : Ura M} (𝓛 : Logic 𝓤) (n : ℕ) (b : ℕ) where
  -- such an array has its type
  open 𝓛 use {H, A}

  pub flows_typed : (ys : List CashFlow) → Flows n ys → Typed (Array T.the_row n).mir (flows-val ys ∷ [])
  flows_typed ys g = (Array-Lawful 𝓛 T.the_row (LL.lawful T.the_type T'.the_laws 𝓛) n).typed ys (flows-val ys ∷ []) g

  -- a local that holds the array is the flows' cells
  pub apart : (ys : List CashFlow) → Flows n ys → ent 𝓤 (H.at full_share (flows_ty n) b 0 (flows-val ys)) (sem 𝓛 (cells (mem T.the_row) ys b 0))
  unfolding part_of
  apart ys g =
      qed 𝓛 (‵ (fat full_share (flows_ty n) b 0 (flows-val ys)) ∷ []) ∵
      use1 𝓛 (‵ (cell_at full_share (flows_ty n ∷ []) (flows-val ys ∷ []) b 0)) (𝓛.laws.at_raw full_share (flows_ty n) b 0 (flows-val ys)) $
      owned ! (Array T.the_row n) (Is (Array T.the_row n)) (Array-Makes 𝓛 T.the_row (LL.makes T.the_type T'.the_plain 𝓛) n) ys (flows-val ys ∷ []) g $ move ! (1 ∷ 0 ∷ []) $ fjoin ! $
      fpack ! (List Val) (λ vs. fsep (cell_at full_share (flows_ty n ∷ []) vs b 0) ((Array T.the_row n).own_val ys vs)) (flows-val ys ∷ []) $
      use1 𝓛 (‵ ((arr_parts (shares T.the_row) n).part full_share ys b 0)) (Array-apart 𝓛 T.the_row full_share tt n ys b 0) $ fsplit ! $ drop ! $
      rewrite ! 0 (λ (F : Fml). ‵ F) (parts-cells T.the_row full_share ys b 0) refl $ done !

  -- and cells of as many flows are a local that holds an array
  pub together : (zs : List CashFlow) → length zs ≡ n → ent 𝓤 (sem 𝓛 (cells (mem T.the_row) zs b 0)) (guard 𝓤 (Flows n zs) (H.at full_share (flows_ty n) b 0 (flows-val zs)))
  unfolding part_of
  together zs l =
      qed 𝓛 (‵ (cells (mem T.the_row) zs b 0) ∷ []) ∵
      rewrite ! 0 (λ (F : Fml). ‵ F) (sym (parts-cells T.the_row full_share zs b 0)) refl $ feq_i ! ℕ (length zs) n l $ fjoin ! $
      use1 𝓛 (‵ (part_at (Array T.the_row n) full_share zs b 0)) (Array-whole 𝓛 T.the_row full_share n zs b 0) $ fpick ! (λ vs. fsplit ! $ move ! (1 ∷ []) $
      peeks ! (Array T.the_row n) (Is (Array T.the_row n)) (shows 𝓛 (Array T.the_row n)) zs vs (λ is. drop ! $
      rewrite ! 0 (λ (ws : List Val). ‵ (cell_at full_share (flows_ty n ∷ []) ws b 0)) (Array-Tells T.the_row (LL.vals T.the_type T'.the_laws) (LL.tells T.the_type T'.the_laws) n zs vs is) refl $
      use1 𝓛 (‵ (fat full_share (flows_ty n) b 0 (flows-val zs))) (𝓛.laws.raw_at full_share (flows_ty n) b 0 (flows-val zs)) $
      check ! (subst (Is (Array T.the_row n) zs) (Array-Tells T.the_row (LL.vals T.the_type T'.the_laws) (LL.tells T.the_type T'.the_laws) n zs vs is) is) $ done !))

  -- what is lent as `&` comes back
  pub has_back : (κ : Lft) (ys : List CashFlow) (k : ℕ) → length ys ≡ n → ent 𝓤 (sep 𝓤 (A.dead κ) (sem 𝓛 (Shared b κ ys k))) (H.⇛ (guard 𝓤 (Flows n ys) (H.at full_share (flows_ty n) b 0 (flows-val ys))))
  has_back κ ys k l =
      qed 𝓛 (‵ (fdead κ) ∷ ‵ (Shared b κ ys k) ∷ []) ∵ updating ! $ move ! (1 ∷ []) $ fsplit ! $ move ! (2 ∷ 0 ∷ []) $ lent_back ! tt $ fsplit ! $ drop ! $
      rewrite ! 0 (λ (F : Fml). ‵ F) (parts-cells T.the_row full_share (take k ys) b 0) refl $
      use2 𝓛 (‵ (cells (mem T.the_row) (take k ys ++ drop-list k ys) b 0)) (join_app 𝓛 (mem T.the_row) (take k ys) (drop-list k ys) b 0) $
      rewrite ! 0 (λ (zs : List CashFlow). ‵ (cells (mem T.the_row) zs b 0)) (take-append-drop k ys) refl $
      use1 𝓛 (given (Flows n ys) (‵ (fat full_share (flows_ty n) b 0 (flows-val ys)))) (together ys l) $ learn ! (λ g. at_once ! $ check ! g $ done !)

  -- the first k are lent as `&mut`, and come back as the flows that the slice held last
  pub lends_out : (ℓ : Lifetime) (κ : Lft) (ys : List CashFlow) (k : ℕ) → Flows n ys → Room T.the_row (length (take k ys))
      → ent 𝓤 (H.at full_share (flows_ty n) b 0 (flows-val ys)) (H.⇛ (ex 𝓤 (λ (γ : GName). sep 𝓤 (sem 𝓛 ((MutSlice ℓ κ T.the_row).own_val (slice_of b (take k ys) γ) (slice_val (b, 0) (length (take k ys)) ∷ []))) (sem 𝓛 (Taken b κ ys k γ)))))
  lends_out ℓ κ ys k g r =
      qed 𝓛 (‵ (fat full_share (flows_ty n) b 0 (flows-val ys)) ∷ []) ∵ updating ! $
      use1 𝓛 (‵ (cells (mem T.the_row) ys b 0)) (apart ys g) $ rewrite ! 0 (λ (zs : List CashFlow). ‵ (cells (mem T.the_row) zs b 0)) (sym (take-append-drop k ys)) refl $
      use1 𝓛 (‵ (cells (mem T.the_row) (take k ys) b 0) ⊛ ‵ (cells (mem T.the_row) (drop-list k ys) b (behind ys k))) (cut_app 𝓛 (mem T.the_row) (take k ys) (drop-list k ys) b 0) $ split ! $
      use1 𝓛 (later (some (λ (γ : GName). ‵ ((MutSlice ℓ κ T.the_row).own_val (slice_of b (take k ys) γ) (slice_val (b, 0) (length (take k ys)) ∷ [])) ⊛ ‵ (flent κ (Held T.the_row (length (take k ys)) b 0 γ)))))
      (lends_slice 𝓛 T.the_row ℓ κ (take k ys) b 0 r) $ await ! tt $ pick ! (λ γ. split ! $ at_once ! $
      show ! (λ (γ' : GName). sep 𝓤 (sem 𝓛 ((MutSlice ℓ κ T.the_row).own_val (slice_of b (take k ys) γ') (slice_val (b, 0) (length (take k ys)) ∷ []))) (sem 𝓛 (Taken b κ ys k γ'))) γ $
      move ! (1 ∷ 2 ∷ []) $ fjoin ! $ move ! (1 ∷ 0 ∷ []) $ done !)

  pub comes_home : (κ : Lft) (γ : GName) (ys ws : List CashFlow) (k : ℕ) → length ys ≡ n
      → ent 𝓤 (sep 𝓤 (A.dead κ) (sep 𝓤 (sem 𝓛 (Taken b κ ys k γ)) (sem 𝓛 (finally T.the_row γ ws)))) (H.⇛ (guard 𝓤 (Flows n (ws ++ drop-list k ys)) (H.at full_share (flows_ty n) b 0 (flows-val (ws ++ drop-list k ys)))))
  comes_home κ γ ys ws k l =
      qed 𝓛 (‵ (fdead κ) ∷ ‵ (Taken b κ ys k γ) ∷ ‵ (finally T.the_row γ ws) ∷ []) ∵ updating ! $ move ! (1 ∷ []) $ fsplit ! $ move ! (2 ∷ 0 ∷ 3 ∷ []) $
      use3 𝓛 (later (‵ ((Arr (mem T.the_row) (length (take k ys))).own_at ws b 0))) (slice_back 𝓛 T.the_row κ γ ws (length (take k ys)) b 0) $ await ! tt $ fsplit ! $ feq_l ! (λ e. move ! (1 ∷ []) $
      rewrite ! 0 (λ (m : ℕ). ‵ (cells (mem T.the_row) (drop-list k ys) b (at 0 (mem T.the_row).size m))) (sym e) refl $ move ! (1 ∷ 0 ∷ []) $
      use2 𝓛 (‵ (cells (mem T.the_row) (ws ++ drop-list k ys) b 0)) (join_app 𝓛 (mem T.the_row) ws (drop-list k ys) b 0) $
      use1 𝓛 (given (Flows n (ws ++ drop-list k ys)) (‵ (fat full_share (flows_ty n) b 0 (flows-val (ws ++ drop-list k ys))))) (together (ws ++ drop-list k ys) (length_front ys ws k e ∙ l)) $ learn ! (λ g. at_once ! $ check ! g $ done !))
