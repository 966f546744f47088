-- `packed_read::digits_good` meets its contract: after each turn it is known of the places so far.
use Rattle.packed_read.specs.note.Codes.{digits_good}
use Rattle.packed_read.proofs.note.Codes.{good_more, places_all}
use Prim.Native.Nat.{ℕ, ◌-◌, ◌/◌, ◌^◌}
use mathlib.Core.Path.{◌≡◌, refl, ap, subst, ◌∙◌}
use native.Mathlib.Omega.{arith}
use Rattle.packed_read.proofs.note.digits_good.Goals as goal

pub loop-k-init : goal.loop-k-init
unfolding digits_good
loop-k-init _ = refl

pub loop-k-preserved : goal.loop-k-preserved
loop-k-preserved c =
    let l = c.loop-k in
    let a = c.args in
    good_more a.count a.digits l.k _ l.good _ (omega arith) l.invariant c.first_places.ensures c.place_good-good.ensures

pub returns : goal.returns
returns c =
    let l = c.loop-k in
    let a = c.args in
    let e : l.k ≡ 10 = omega arith in
    subst (λ (k : ℕ). l.good ≡ digits_good a.count k (a.digits / 16 ^ (10 - k))) e l.invariant ∙ ap (digits_good a.count 10) (places_all a.digits)
