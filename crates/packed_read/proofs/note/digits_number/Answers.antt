-- `packed_read::digits_number` meets its contract: after each turn the number is that of the places
-- so far.
use Rattle.packed_read.specs.note.Codes.{digits_number}
use Rattle.packed_read.proofs.note.Codes.{number_small, number_more, places_all}
use Prim.Native.Nat.{ℕ, ◌-◌, ◌/◌, ◌^◌}
use mathlib.Core.Path.{◌≡◌, refl, ap, subst, ◌∙◌}
use native.Mathlib.Omega.{arith}
use Rattle.packed_read.proofs.note.digits_number.Goals as goal

pub loop-k-init : goal.loop-k-init
unfolding digits_number
loop-k-init _ = refl

pub with_place-number-requires : goal.with_place-number-requires
with_place-number-requires c =
    let l = c.loop-k in
    let a = c.args in
    (number_small a.count l.k (a.digits / 16 ^ (10 - l.k)) l.number (omega arith) l.invariant, omega arith)

pub loop-k-preserved : goal.loop-k-preserved
loop-k-preserved c =
    let l = c.loop-k in
    let a = c.args in
    number_more a.count a.digits l.k _ l.number _ (omega arith) l.invariant c.first_places.ensures c.with_place-number.ensures

pub returns : goal.returns
returns c =
    let l = c.loop-k in
    let a = c.args in
    let e : l.k ≡ 10 = omega arith in
    subst (λ (k : ℕ). l.number ≡ digits_number a.count k (a.digits / 16 ^ (10 - k))) e l.invariant ∙ ap (digits_number a.count 10) (places_all a.digits)
