-- `packed_write::digits_places` meets its contract: after each turn the places so far are filled.
use Prim.Native.Nat.{ℕ, ◌-◌, ◌/◌, ◌^◌}
use mathlib.Core.Path.{◌≡◌, sym, subst, ◌∙◌}
use native.Mathlib.Omega.{arith}
use Rattle.packed_write.specs.numbers.Codes.{digits_places}
use Rattle.packed_write.proofs.numbers.Codes.{places-none, places-more, places_small, places_all}
use Rattle.packed_write.proofs.numbers.digits_places.Goals as goal

pub loop-k-init : goal.loop-k-init
loop-k-init c = sym (places-none c.args.count (c.args.digits / 10 ^ (c.args.count - 0)))

pub overflow_mul-places : goal.overflow_mul-places
overflow_mul-places c = record { fits = omega (arith, places_small _ c.loop-k.k _ c.loop-k.places (omega arith) c.loop-k.invariant) }

pub overflow_add-places : goal.overflow_add-places
overflow_add-places c =
    let l = c.loop-k in
    record { fits = omega (arith, places_small _ l.k _ l.places (omega arith) l.invariant, c.place_at.ensures.1) }

pub loop-k-preserved : goal.loop-k-preserved
loop-k-preserved c =
    let l = c.loop-k in
    let a = c.args in
    places-more a.count a.digits l.k l.places _ l.invariant c.place_at.ensures.0

pub returns : goal.returns
returns c =
    let l = c.loop-k in
    let a = c.args in
    let e : l.k ≡ 10 = omega arith in
    subst (λ (k : ℕ). l.places ≡ digits_places a.count k (a.digits / 10 ^ (a.count - k))) e l.invariant ∙ places_all a.count a.digits c.requires
