-- Steps taken again and again, of any kind: one at a time from either end, and what one of them
-- says of all.
use Prim.Native.Nat.{ℕ, zero, suc, ◌+◌, ◌-◌, ◌<◌}
use mathlib.Core.Path.{◌≡◌, refl, sym, ap, ◌∙◌}
use native.Mathlib.Omega.{arith}
use native.Mathlib.Numerals.{add-one}
use Rattle.outcome.proofs.Outcomes.{given_not_refused, then_same, Only, only-given, only_then}
use Rattle.outcome.specs.Outcome.{Outcome, given, refused, and_then}
use Rattle.calendar.specs.declared.dates.Day.{Day}
use Rattle.business_days.specs.table.Business.{serial_day, repeated}

module _ (step : ℕ → Outcome Day) where
  pub no_step : (n : ℕ) → repeated step 0 n ≡ given (serial_day n)
  unfolding repeated
  no_step n = refl

  -- k + 1 steps: one, then k
  pub one-first : (k n : ℕ) → repeated step (k + 1) n ≡ and_then (step n) (λ e. repeated step k e.0)
  unfolding repeated
  one-first k n = rw add-one

  -- and k, then one
  last_one : (k n : ℕ) → repeated step (suc k) n ≡ and_then (repeated step k n) (λ e. step e.0)
  unfolding repeated
  last_one zero n = then_same (step n)
  last_one (suc k) n = by (step n) (last_one k)
    where
      by : (o : Outcome Day) → ((m : ℕ) → repeated step (suc k) m ≡ and_then (repeated step k m) (λ e. step e.0)) → and_then o (λ e. repeated step (suc k) e.0) ≡ and_then (and_then o (λ e. repeated step k e.0)) (λ e. step e.0)
      by (given e) r = r e.0
      by (refused m) r = refl

  pub one_last : (k n : ℕ) → repeated step (k + 1) n ≡ and_then (repeated step k n) (λ e. step e.0)
  one_last k n = rw add-one (last_one k n)

  pub one-step : (n : ℕ) → repeated step 1 n ≡ step n
  one-step n = one_last 0 n ∙ ap (λ (o : Outcome Day). and_then o (λ e. step e.0)) (no_step n)

  -- the first of the steps that are left is refused, is that of another day, or is taken
  pub step-refused : (k n : ℕ) → 0 < k → step n ≡ refused 1 → repeated step k n ≡ refused 1
  unfolding repeated
  step-refused zero n h e = absurd (omega arith)
  step-refused (suc k) n h e = rw e

  pub step_passed : (k n m : ℕ) → 0 < k → step n ≡ step m → repeated step k n ≡ repeated step k m
  unfolding repeated
  step_passed zero n m h e = absurd (omega arith)
  step_passed (suc k) n m h e = rw e

  pub step_taken : (k n m : ℕ) → 0 < k → step n ≡ given (serial_day m) → repeated step k n ≡ repeated step (k - 1) m
  unfolding repeated
  step_taken zero n m h e = absurd (omega arith)
  step_taken (suc k) n m h e = rw e (ap (λ (j : ℕ). repeated step j m) (let z : k ≡ suc k - 1 = omega arith in z))

  -- what each step says of its two days, and what goes from one to the next, all of them say
  module _ (R : ℕ → ℕ → Type 0) (one : (n : ℕ) (e : Day) → step n ≡ given e → R n e.0) (join : (a b c : ℕ) → R a b → R b c → R a c) where
    pub all_steps : (k n : ℕ) (e : Day) → 0 < k → repeated step k n ≡ given e → R n e.0
    unfolding repeated
    all_steps zero n e h g = absurd (omega arith)
    all_steps (suc zero) n e h g = one n e (sym (one-step n) ∙ g)
    all_steps (suc (suc k)) n e h g = by (step n) refl g (λ m. all_steps (suc k) m e (omega arith))
      where
        by : (o : Outcome Day) → step n ≡ o → and_then o (λ e. repeated step (suc k) e.0) ≡ given e → ((m : ℕ) → repeated step (suc k) m ≡ given e → R m e.0) → R n e.0
        by (given d) q f r = join n d.0 e.0 (one n d q) (r d.0 f)
        by (refused m) q f r = absurd (given_not_refused (sym f))

  -- the steps are refused with one number only where each is
  pub all_refused : (j : ℕ) → ((n : ℕ) → Only j (step n)) → (k n : ℕ) → Only j (repeated step k n)
  unfolding repeated
  all_refused j one zero n = only-given j (serial_day n)
  all_refused j one (suc k) n = only_then j (step n) (λ e. repeated step k e.0) (one n) (λ e. all_refused j one k e.0)

-- two kinds of step that agree on each day they come to
pub same_steps : (f g : ℕ → Outcome Day) (P : ℕ → Type 0) → ((n : ℕ) → P n → f n ≡ g n) → ((n : ℕ) (e : Day) → P n → g n ≡ given e → P e.0) → (k n : ℕ) → P n → repeated f k n ≡ repeated g k n
unfolding repeated
same_steps f g P same stay zero n p = refl
same_steps f g P same stay (suc k) n p = rw (same n p) (by (g n) refl (same_steps f g P same stay k))
  where
    by : (o : Outcome Day) → g n ≡ o → ((m : ℕ) → P m → repeated f k m ≡ repeated g k m) → and_then o (λ e. repeated f k e.0) ≡ and_then o (λ e. repeated g k e.0)
    by (given e) q r = r e.0 (stay n e p q)
    by (refused m) q r = refl
