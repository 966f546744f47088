-- The machine's tests of an amount beside a limit are the paper's.
use Prim.Native.Nat.{ℕ, ◌+◌, ◌*◌, ◌<◌, ◌≤◌}
use mathlib.Core.Path.{◌≡◌, refl, sym, ◌∙◌}
use mathlib.Core.Bool.{Bool, true, false, ◌&&◌, ◌||◌, true≢false, false≢true}
use mathlib.Core.Logic.{◌⊎◌, inl, inr}
use native.Mathlib.Nat.{mul-one, mul-pos, eq-or-lt_of_le}
use native.Mathlib.Omega.{arith}
use lib.Dec.{leb, ltb}
use lib.IntN.{ℤ, pos}
use lib.Ieee.{Float, nan, inf, fin, up, down, binary64, of_bits, neg, le, lt, eq}
use lib.Ieee.Fits.{down_pos}
use borrow.Author.Tests.{lt-ltb, le-ltb, le-leb, lt-leb, eq-eqb, ne_eqb}
use Rattle.outcome.proofs.Numbers.{lt_or_le}
use Rattle.cash_flow.specs.currency.Amounts.{up_to}

-- the library's test of an order, on magnitudes
le_test : (a b : ℕ) (same : Bool) → (a ≡ b → same ≡ true) → ((a ≡ b → ⊥) → same ≡ false) → (ltb a b || (same && true)) ≡ leb a b
le_test a b same equal apart = by (lt_or_le b a)
  where
    at_most : (a ≡ b) ⊎ (a < b) → a ≤ b → (ltb a b || (same && true)) ≡ leb a b
    at_most (inl e) h = rw (le-leb a b h, equal e, le-ltb a b (omega arith))
    at_most (inr l) h = rw (le-leb a b h, lt-ltb a b l)

    by : (b < a) ⊎ (a ≤ b) → (ltb a b || (same && true)) ≡ leb a b
    by (inl h) = rw (lt-leb a b h, le-ltb a b (omega arith), apart (λ e. omega arith))
    by (inr h) = at_most (eq-or-lt_of_le h) h

-- a number beside a limit k, which is c times 2^d, a whole number
module _ (c k : ℕ) (d : ℤ) (u : c * up d ≡ k) (v : down d ≡ 1) (m : ℕ) (e : ℤ) where
  pub plus_most : le (fin false m e) (fin false c d) ≡ leb (m * up e) (k * down e)
  unfolding le lt eq
  plus_most = rw (v, mul-one (m * up e), u) (le_test (m * up e) (k * down e) _ (eq-eqb _ _) (ne_eqb _ _))

  minus_least : le (fin true c d) (fin true m e) ≡ leb (m * up e) (k * down e)
  unfolding le lt eq
  minus_least =
      rw (v, mul-one (m * up e), u)
      (le_test (m * up e) (k * down e) _ (λ q. eq-eqb (k * down e) (m * up e) (sym q)) (λ q. ne_eqb (k * down e) (m * up e) (λ r. q (sym r))))

-- below zero and above it, where one of the two is not 0
opposite : (m n : ℕ) (d e : ℤ) → 0 < m * up d * down e + n * up e * down d → le (fin true m d) (fin false n e) ≡ true
unfolding le lt eq
opposite m n d e h = rw (lt-ltb 0 (m * up d * down e + n * up e * down d) h)

-- ---- beside 1e9 = 1953125 * 2^9

billion_is : of_bits binary64 4741671816366391296 ≡ fin false 1953125 (pos 9)
unfolding of_bits
billion_is = refl

minus_billion_is : neg (of_bits binary64 4741671816366391296) ≡ fin true 1953125 (pos 9)
unfolding of_bits neg
minus_billion_is = refl

some : (e : ℤ) → 0 < 1953125 * up (pos 9) * down e
some e = mul-pos (omega arith) (down_pos e)

inside : (x : Float) → le (fin true 1953125 (pos 9)) x ≡ true → le x (fin false 1953125 (pos 9)) ≡ up_to 1000000000 x
unfolding le lt eq
inside nan h = absurd (false≢true h)
inside (inf true) h = absurd (false≢true h)
inside (inf false) h = refl
inside (fin false m e) h = plus_most 1953125 1000000000 (pos 9) refl refl m e
inside (fin true m e) h = opposite m 1953125 e (pos 9) (omega (arith, some e)) ∙ sym h ∙ minus_least 1953125 1000000000 (pos 9) refl refl m e

outside : (x : Float) → le (fin true 1953125 (pos 9)) x ≡ false → false ≡ up_to 1000000000 x
outside nan h = refl
outside (inf s) h = refl
outside (fin false m e) h = absurd (true≢false (sym (opposite 1953125 m (pos 9) e (omega (arith, some e))) ∙ h))
outside (fin true m e) h = sym h ∙ minus_least 1953125 1000000000 (pos 9) refl refl m e

pub billion_in : (x : Float) → le (neg (of_bits binary64 4741671816366391296)) x ≡ true → le x (of_bits binary64 4741671816366391296) ≡ up_to 1000000000 x
billion_in x h = rw billion_is (inside x (rw minus_billion_is at h))

pub billion_out : (x : Float) → le (neg (of_bits binary64 4741671816366391296)) x ≡ false → false ≡ up_to 1000000000 x
billion_out x h = outside x (rw minus_billion_is at h)
