-- `term_text::read_month` meets its contract: the number before the next dot. A law of Parts.
use mathlib.Core.Path.{◌∙◌, ap}
use Prim.Native.Nat.{ℕ}
use lib.ListN.{take}
use Rattle.number_text.specs.read.Reading.{unsigned_number}
use Rattle.number_text.proofs.read.Numberings.{reads_unsigned}
use Rattle.term_text.proofs.coupon.Parts.{up_to_lem}
use Rattle.term_text.proofs.coupon.read_month.Goals as goal

pub returns : goal.returns
returns c =
    let s = c.args.s.now in
    reads_unsigned _ _ _ c.read_u32.ensures ∙ ap (unsigned_number 6) (ap (λ (n : ℕ). take n s) c.unwrap_or-end.ensures ∙ (up_to_lem s _ c.dot_at.ensures).1)
