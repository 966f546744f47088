-- `moved` meets its contract: the sum fits, and is taken where it lies from 0 to the last.
use Rattle.std.proofs.Common.{ℕ, ◌<◌, ◌^◌, ◌≡◌, sym, ◌∙◌, ap, ap₂, subst, Bool, false, not, T, arith, ℤ, pos, ◌+ℤ◌}
use lib.Signed.{lt_z, lt_z_no, non_neg, yes_non_neg}
use mir.Syntax.{w64}
use mir.Val.{to_z}
use mir.Facts.{to_z_pos, Fits-of_lt}
use Rattle.date_step.proofs.Landing.{below, beyond, lands, within, sum_short, sum_read}
use Rattle.date_step.proofs.moved.Goals as goal
use Rattle.date_step.proofs.moved.Goals.{then-to-lt0-via-then-to-lt0, then-to-lt0-via-else-to-lt0+then-last-to}

-- a test on the sum, or against the last, as the machine puts it
module _ (at last : ℕ) (n z : ℤ) (e : z ≡ pos at +ℤ n) where
  negative : {b : Bool} → lt_z z (pos 0) ≡ b → lt_z (pos at +ℤ n) (pos 0) ≡ b
  negative h = sym (ap (λ (x : ℤ). lt_z x (pos 0)) e) ∙ h

  over : {b : Bool} → last < 2 ^ 63 → lt_z (to_z w64 last) z ≡ b → lt_z (pos last) (pos at +ℤ n) ≡ b
  over l h = sym (ap₂ lt_z (to_z_pos w64 l) e) ∙ h

-- what is not negative is whole
whole : (z : ℤ) → lt_z z (pos 0) ≡ false → T (non_neg z)
whole z h = yes_non_neg {z = z} (lt_z_no (subst (λ (b : Bool). T (not b)) (sym h) tt))

pub overflow_add-to : goal.overflow_add-to
overflow_add-to c = sum_short c.args.at c.args.n c.requires.0 c.requires.2 c.ranges.n

pub returns-then-to-lt0 : goal.returns-then-to-lt0
returns-then-to-lt0 c =
    let a = c.args in
    let e = sum_read a.at a.n c.requires.0 c.requires.2 c.ranges.n in
    let l : a.last < 2 ^ 63 = omega (arith, c.requires.1) in
    elim c.then-to-lt0.branch [
      | then-to-lt0-via-then-to-lt0 w ↦ below a.last _ (negative a.at a.last a.n _ e w.if-to-lt0.true)
      | then-to-lt0-via-else-to-lt0+then-last-to w ↦ beyond a.last _ (over a.at a.last a.n _ e l w.if-last-to.true)
    ]

pub overflow_cast-result : goal.overflow_cast-result
overflow_cast-result c =
    let a = c.args in
    let e = sum_read a.at a.n c.requires.0 c.requires.2 c.ranges.n in
    let l : a.last < 2 ^ 63 = omega (arith, c.requires.1) in
    let p = whole _ (negative a.at a.last a.n _ e c.if-to-lt0.false) in
    rw e (p, Fits-of_lt (omega (arith, c.requires.1, within a.last _ p (over a.at a.last a.n _ e l c.if-last-to.false))))

pub returns : goal.returns
returns c =
    let a = c.args in
    let e = sum_read a.at a.n c.requires.0 c.requires.2 c.ranges.n in
    let l : a.last < 2 ^ 63 = omega (arith, c.requires.1) in
    let p = whole _ (negative a.at a.last a.n _ e c.if-to-lt0.false) in
    rw e (lands a.last _ p (over a.at a.last a.n _ e l c.if-last-to.false))
