-- No second answer satisfies an entry point's promise.
use mathlib.Core.Path.{◌≡◌}
use mathlib.Core.Bool.{Bool}
use lib.Ieee.{Float}
use Rattle.outcome.proofs.Outcomes.{one_value}
use Rattle.bond.specs.limits.Limits.{NoteNumberPromise, CouponRatePromise}
use Rattle.bond.specs.declared.limits.NoteNumber.{NoteNumber}

pub one-is_note_number : (n : NoteNumber) (r s : Bool) → NoteNumberPromise n r → NoteNumberPromise n s → r ≡ s
one-is_note_number n r s p q = one_value r s p q

pub one_is_rate : (x : Float) (r s : Bool) → CouponRatePromise x r → CouponRatePromise x s → r ≡ s
one_is_rate x r s p q = one_value r s p q
