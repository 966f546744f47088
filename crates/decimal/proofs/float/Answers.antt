-- Laws of the answers: which of them the tests leave, and what they say of the bytes.
use Prim.Native.Nat.{ℕ}
use mathlib.Core.Path.{◌≡◌, refl, sym, ap, ◌∙◌}
use mathlib.Core.Bool.{Bool, true, false}
use mathlib.Core.List.{List}
use lib.ListN.{length}
use lib.Ieee.{Float}
use lib.Ieee.Scale.{finite}
use Rattle.outcome.specs.Outcome.{given, refused, unless, passed_as}
use Rattle.outcome.proofs.Outcomes.{given_injective, refused_injective, given_not_refused, unless-given, passed_given, passed_refused}
use Rattle.decimal.specs.four_decimals.Pieces.{signed_decimals}
use Rattle.rounding.specs.Close.{sign_bit}
use Rattle.decimal.specs.float.Decimal.{ten_thousandths, decimal_text16, decimal_shown}

pub text_is : (x : Float) (s : Bool) (t : ℕ) → s ≡ sign_bit x → t ≡ ten_thousandths x → signed_decimals s t ≡ decimal_text16 x
unfolding decimal_text16
text_is x s t p q = rw (p, q)

-- ---- which numbers are shown

pub decimal_given : (x : Float) → finite x ≡ true → decimal_shown x ≡ given (decimal_text16 x)
unfolding decimal_shown
decimal_given x f = rw (f)

pub decimal_refused : (x : Float) → finite x ≡ false → decimal_shown x ≡ refused 15
unfolding decimal_shown
decimal_refused x f = rw (f)

-- ---- the length

pub length-given : (x : Float) (s : Bool) (t k : ℕ) → finite x ≡ true → s ≡ sign_bit x → t ≡ ten_thousandths x → k ≡ length (signed_decimals s t) → given k ≡ passed_as length (decimal_shown x)
length-given x s t k f p q e = rw (decimal_given x f) (ap given (e ∙ ap length (text_is x s t p q)))

pub length-refused : (x : Float) → finite x ≡ false → refused 15 ≡ passed_as length (decimal_shown x)
length-refused x f = rw (decimal_refused x f)

-- and what it says of the number
pub given-finite : (x : Float) (k : ℕ) → given k ≡ passed_as length (decimal_shown x) → (finite x ≡ true) × (k ≡ length (decimal_text16 x))
unfolding decimal_shown
given-finite x k e =
    let p = passed_given length (decimal_shown x) k (sym e) in
    let u = unless-given (finite x) 15 (given (decimal_text16 x)) p.0 p.1 in
    (u.0, sym p.2 ∙ ap length (sym (given_injective u.1)))

not-both : (b : Bool) (n : ℕ) (xs : List ℕ) → unless b 15 (given xs) ≡ refused n → (b ≡ false) × (n ≡ 15)
not-both true n xs e = absurd (given_not_refused e)
not-both false n xs e = (refl, sym (refused_injective e))

pub refused_infinite : (x : Float) (n : ℕ) → refused n ≡ passed_as length (decimal_shown x) → (finite x ≡ false) × (n ≡ 15)
unfolding decimal_shown
refused_infinite x n e = not-both (finite x) n (decimal_text16 x) (passed_refused length (decimal_shown x) n (sym e))
