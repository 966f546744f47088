-- Laws of a walk, whatever it walks over: one turn, how many turns are enough, and what holds where
-- it ends.
use Prim.Native.Nat.{ℕ, zero, suc, ◌<◌}
use mathlib.Core.Path.{◌≡◌, refl, sym, ap, subst, ◌∙◌}
use mathlib.Core.Bool.{Bool, true, false}
use native.Mathlib.Omega.{arith}
use Rattle.outcome.specs.Outcome.{Outcome, given, refused, and_then, Numbered}
use Rattle.outcome.specs.Walks.{walked}
use Rattle.outcome.proofs.Outcomes.{given_injective, given_not_refused, then_given, then_numbered, elim_numbered}

module _ {S : Type 0} (more : S → Bool) (turn : S → Outcome S) where
  pub walk_more : (k : ℕ) (s : S) → more s ≡ true → walked (suc k) more turn s ≡ and_then (turn s) (walked k more turn)
  unfolding walked
  walk_more k s h = ap (λ (b : Bool). elim b as (λ x. Outcome S) [ true ↦ and_then (turn s) (walked k more turn) | false ↦ given s ]) h

  pub walk-there : (k : ℕ) (s : S) → more s ≡ false → walked (suc k) more turn s ≡ given s
  unfolding walked
  walk-there k s h = ap (λ (b : Bool). elim b as (λ x. Outcome S) [ true ↦ and_then (turn s) (walked k more turn) | false ↦ given s ]) h

  turned : (k : ℕ) (s : S) (o : Outcome S) → more s ≡ true → turn s ≡ o → walked (suc k) more turn s ≡ and_then o (walked k more turn)
  turned k s o h e = walk_more k s h ∙ ap (λ (x : Outcome S). and_then x (walked k more turn)) e

  pub walk-done : (k : ℕ) (s : S) → 0 < k → more s ≡ false → given s ≡ walked k more turn s
  walk-done zero s l h = absurd (omega arith)
  walk-done (suc k) s l h = sym (walk-there k s h)

  pub walk_refused : (k n : ℕ) (s : S) → 0 < k → more s ≡ true → turn s ≡ refused n → refused n ≡ walked k more turn s
  walk_refused zero n s l h e = absurd (omega arith)
  walk_refused (suc k) n s l h e = sym (turned k s (refused n) h e)

  -- a refusal's number is a turn's, or 1
  pub walk_numbered : ((s : S) → Numbered (turn s)) → (k : ℕ) (s : S) → Numbered (walked k more turn s)
  unfolding walked
  walk_numbered n zero s = omega arith
  walk_numbered n (suc k) s = elim_numbered (more s) (and_then (turn s) (walked k more turn)) (given s) (then_numbered (turn s) (walked k more turn) (n s) (walk_numbered n k)) (omega arith)

  -- what a turn keeps: P
  module _ (P : S → Type 0) where
    -- and each turn is nearer to the end by φ
    module _ (φ : S → ℕ) (leads : (s v : S) → P s → more s ≡ true → turn s ≡ given v → P v × (φ v < φ s)) where
      -- with turns enough, how many are allowed does not matter
      pub enough : (j k : ℕ) (s : S) → P s → φ s < j → φ s < k → walked j more turn s ≡ walked k more turn s
      enough zero k s p h l = absurd (omega arith)
      enough (suc j) zero s p h l = absurd (omega arith)
      enough (suc j) (suc k) s p h l = by (more s) refl (turn s) refl (enough j k)
        where
          by : (b : Bool) → more s ≡ b → (o : Outcome S) → turn s ≡ o → ((v : S) → P v → φ v < j → φ v < k → walked j more turn v ≡ walked k more turn v) → walked (suc j) more turn s ≡ walked (suc k) more turn s
          by false e o q r = walk-there j s e ∙ sym (walk-there k s e)
          by true e (refused n) q r = turned j s (refused n) e q ∙ sym (turned k s (refused n) e q)
          by true e (given v) q r =
              let t = leads s v p e q in
              turned j s (given v) e q ∙ r v t.0 (omega (arith, t.1)) (omega (arith, t.1)) ∙ sym (turned k s (given v) e q)

      -- a turn leaves the same walk to be made
      pub walk_turn : (k : ℕ) (s v : S) → P s → φ s < k → more s ≡ true → turn s ≡ given v → walked k more turn v ≡ walked k more turn s
      walk_turn zero s v p h e q = absurd (omega arith)
      walk_turn (suc k) s v p h e q =
          let t = leads s v p e q in
          enough (suc k) k v t.0 (omega (arith, t.1)) (omega (arith, t.1)) ∙ sym (turned k s (given v) e q)

    -- what holds of the last place, and goes back over each turn, holds of the whole walk
    pub walk_all : (Q : S → S → Type 0) → ((s : S) → P s → more s ≡ false → Q s s) → ((s x v : S) → P s → more s ≡ true → turn s ≡ given x → P x × (Q x v → Q s v)) → (k : ℕ) (s v : S) → P s → walked k more turn s ≡ given v → Q s v
    unfolding walked
    walk_all Q last back zero s v p e = absurd (given_not_refused (sym e))
    walk_all Q last back (suc k) s v p e = by (more s) refl (walk_all Q last back k)
      where
        by : (b : Bool) → more s ≡ b → ((x y : S) → P x → walked k more turn x ≡ given y → Q x y) → Q s v
        by false h r = subst (Q s) (given_injective (sym (walk-there k s h) ∙ e)) (last s p h)
        by true h r =
            let g = then_given (turn s) (walked k more turn) v (sym (walk_more k s h) ∙ e) in
            let b = back s g.0 v p h g.1 in
            b.1 (r g.0 v b.0 g.2)
