-- Blanks trimmed at either end, and the parts at the first dot: by one byte more or less.
use Prim.Native.Nat.{ℕ, zero, suc, ◌+◌, ◌-◌, ◌≤◌, ◌<◌}
use mathlib.Core.Path.{◌≡◌, refl, sym, ◌∙◌, ap}
use mathlib.Core.Bool.{true, false}
use mathlib.Core.List.{List, [], ◌∷◌, ◌++◌}
use native.Mathlib.Omega.{arith}
use lib.Dec.{eqb}
use lib.ListN.{length, take, drop, get_or}
use lib.Seq.{take-length}
use borrow.Author.Tests.{eq-eqb, ne_eqb}
use Rattle.std.specs.Prelude.{Option, Some, None}
use Rattle.std.specs.List.{AllWithin, HoldsAt}
use Rattle.std.specs.Option.{MatchOption, unwrap_or}
use Rattle.outcome.proofs.Lists.{take_last}
use Rattle.term_text.specs.coupon.CouponTexts.{is_blank, trim_start, part_before, trim_end, has_dot, up_to_dot, after_dot, DotAt}

-- a leading blank goes, and any other byte stays
pub start_less : (s : List ℕ) (d : ℕ) (z : List ℕ) → trim_start s ≡ z → 1 ≤ length s → is_blank (get_or s 0 d) ≡ true → trim_start (drop 1 s) ≡ z
unfolding trim_start
start_less [] d z e h b = absurd (omega arith)
start_less (c ∷ s) d z e h b = rw b at e

pub start_here : (s : List ℕ) (d : ℕ) (z : List ℕ) → trim_start s ≡ z → 1 ≤ length s → is_blank (get_or s 0 d) ≡ false → s ≡ z
unfolding trim_start
start_here [] d z e h b = absurd (omega arith)
start_here (c ∷ s) d z e h b = rw b at e

pub start_none : (s z : List ℕ) → trim_start s ≡ z → length s < 1 → s ≡ z
unfolding trim_start
start_none [] z e h = e
start_none (c ∷ s) z e h = absurd (omega arith)

-- trailing blanks: the last byte goes, or all stays
end_blank : (s : List ℕ) (b : ℕ) → is_blank b ≡ true → trim_end (s ++ (b ∷ [])) ≡ trim_end s
unfolding trim_end part_before
end_blank [] b h = rw h
end_blank (c ∷ s) b h = ap (part_before c) (end_blank s b h)

end_stays : (s : List ℕ) (b : ℕ) → is_blank b ≡ false → trim_end (s ++ (b ∷ [])) ≡ s ++ (b ∷ [])
unfolding trim_end part_before
end_stays [] b h = rw h
end_stays (c ∷ s) b h = ap (part_before c) (end_stays s b h) ∙ kept c s
  where
    kept : (c : ℕ) (s : List ℕ) → part_before c (s ++ (b ∷ [])) ≡ c ∷ (s ++ (b ∷ []))
    kept c [] = refl
    kept c (d ∷ s) = refl

-- all but the last byte, and the last one
split-last : (s : List ℕ) (d : ℕ) → 1 ≤ length s → s ≡ take (length s - 1) s ++ (get_or s (length s - 1) d ∷ [])
split-last s d h = sym (take-length s) ∙ take_last s (length s) d h (omega arith)

pub end_less : (s : List ℕ) (d : ℕ) (z : List ℕ) → trim_end s ≡ z → 1 ≤ length s → is_blank (get_or s (length s - 1) d) ≡ true → trim_end (take (length s - 1) s) ≡ z
end_less s d z e h b = sym (ap trim_end (split-last s d h) ∙ end_blank (take (length s - 1) s) (get_or s (length s - 1) d) b) ∙ e

pub end_here : (s : List ℕ) (d : ℕ) (z : List ℕ) → trim_end s ≡ z → 1 ≤ length s → is_blank (get_or s (length s - 1) d) ≡ false → s ≡ z
end_here s d z e h b = split-last s d h ∙ sym (ap trim_end (split-last s d h) ∙ end_stays (take (length s - 1) s) (get_or s (length s - 1) d) b) ∙ e

pub end_none : (s z : List ℕ) → trim_end s ≡ z → length s < 1 → s ≡ z
unfolding trim_end
end_none [] z e h = e
end_none (b ∷ s) z e h = absurd (omega arith)

-- the first dot, as the first place at which a byte is one
no_dot_in : (s : List ℕ) → AllWithin (λ b. b ≡ 46 → ⊥) s 0 (length s) → (has_dot s ≡ false) × (up_to_dot s ≡ s)
unfolding has_dot up_to_dot
no_dot_in [] h = (refl, refl)
no_dot_in (b ∷ s) h =
    let c : eqb b 46 ≡ false = ne_eqb b 46 (h 0 0 (omega arith) (omega arith)) in
    let r = no_dot_in s (λ k d l u. h (suc k) d (omega arith) (omega arith)) in
    (rw c r.0, rw c (ap (λ (t : List ℕ). b ∷ t) r.1))

dot_in : (s : List ℕ) (i : ℕ) → i < length s → HoldsAt (λ b. b ≡ 46) s i → AllWithin (λ b. b ≡ 46 → ⊥) s 0 i → (has_dot s ≡ true) × (take i s ≡ up_to_dot s) × (drop (i + 1) s ≡ after_dot s)
unfolding has_dot up_to_dot after_dot
dot_in [] i h at n = absurd (omega arith)
dot_in (b ∷ s) zero h at n = let c : eqb b 46 ≡ true = eq-eqb b 46 (at 0) in (rw c, rw c, rw c)
dot_in (b ∷ s) (suc i) h at n =
    let c : eqb b 46 ≡ false = ne_eqb b 46 (n 0 0 (omega arith) (omega arith)) in
    let r = dot_in s i (omega arith) at (λ k d l u. n (suc k) d (omega arith) (omega arith)) in
    let e : suc i + 1 ≡ suc (i + 1) = omega arith in
    (rw c r.0, rw c (ap (λ (t : List ℕ). b ∷ t) r.1), rw (e, c) r.2)

pub first_dot : (s : List ℕ) (r : Option ℕ) → MatchOption r (AllWithin (λ b. b ≡ 46 → ⊥) s 0 (length s)) (λ i. (i < length s) × HoldsAt (λ b. b ≡ 46) s i × AllWithin (λ b. b ≡ 46 → ⊥) s 0 i) → DotAt s r
first_dot s None h = no_dot_in s h
first_dot s (Some i) h = let d = dot_in s i h.0 h.1 h.2 in (h.0, d.0, d.1, d.2)

-- up to the first dot, or to the end
pub up_to_lem : (s : List ℕ) (r : Option ℕ) → DotAt s r → (unwrap_or r (length s) ≤ length s) × (take (unwrap_or r (length s)) s ≡ up_to_dot s)
up_to_lem s None h = (omega arith, take-length s ∙ sym h.1)
up_to_lem s (Some i) h = (omega arith, h.2)
