-- `packed_write::numbers_from_note` meets its contract: each number from its part of the note, and
-- each fits.
use Prim.Native.Nat.{◌<◌}
use mathlib.Core.Path.{◌≡◌, refl, sym, subst, ◌∙◌}
use mathlib.Core.List.{[], ◌∷◌}
use native.Mathlib.Omega.{arith}
use lib.Dec.{T}
use lib.IntN.{nat_abs}
use lib.Ieee.{binary64, fits, to_bits}
use Rattle.packed_layout.specs.NoteLayout.{NumbersFit}
use borrow.Author.Rules.{rules}
use Rattle.packed_write.proofs.numbers.Accepted.{Capitals, capitals, accepted, digits_known, rate_no_nan, numbers_are, numbers_fit}
use Rattle.packed_write.proofs.numbers.numbers_from_note.Goals as goal
use Rattle.packed_write.proofs.numbers.numbers_from_note.Goals.{After-letter-3}
use Rattle.packed_write.specs.numbers.Numbers.{numbers_of}

pub digits_places-requires : goal.digits_places-requires
digits_places-requires c = (digits_known c.args.note.number (accepted c.args.note c.requires).number).to

pub float_to_bits-fields : goal.float_to_bits-fields
float_to_bits-fields c = rate_no_nan c.args.note.rate (accepted c.args.note c.requires).rate

pub letter-requires : goal.letter-requires
letter-requires c =
    let letters-of : Capitals c.args.note.currency = capitals c.args.note.currency (accepted c.args.note c.requires).currency in
    omega (arith, letters-of.first)

pub letter-requires-2 : goal.letter-requires-2
letter-requires-2 c =
    let letters-of : Capitals c.args.note.currency = capitals c.args.note.currency (accepted c.args.note c.requires).currency in
    omega (arith, letters-of.second)

pub letter-requires-3 : goal.letter-requires-3
letter-requires-3 c =
    let letters-of : Capitals c.args.note.currency = capitals c.args.note.currency (accepted c.args.note c.requires).currency in
    omega (arith, letters-of.third)

are : (c : After-letter-3) → c.from.result ∷ c.digits_places.result ∷ c.from-2.result ∷ c.from-3.result ∷ c.from-4.result ∷ c.from-5.result ∷ c.from-6.result ∷ c.from-7.result ∷ c.from-8.result ∷ c.from-9.result ∷ c.from-10.result ∷ c.from-11.result ∷ c.from-12.result ∷ c.from-13.result ∷ c.from-14.result ∷ to_bits binary64 c.args.note.rate ∷ c.letter.result ∷ c.letter-2.result ∷ c.letter-3.result ∷ 0 ∷ [] ≡ numbers_of c.args.note
are c =
    let n = c.args.note in
    let m : c.unsigned_abs.result ≡ nat_abs n.period.num = search rules in
    numbers_are n c.from.ensures c.digits_places.ensures c.from-2.ensures c.from-3.ensures c.from-4.ensures c.from-5.ensures c.from-6.ensures c.from-7.ensures c.from-8.ensures c.from-9.ensures (c.from-10.ensures ∙ c.code_of_unit.ensures) (c.from-11.ensures ∙ m) (c.from-12.ensures ∙ c.code_of_convention.ensures) (c.from-13.ensures ∙ c.code_of_adjustment.ensures) c.from-14.ensures refl c.letter.ensures c.letter-2.ensures c.letter-3.ensures

pub invariant_of-result : goal.invariant_of-result
invariant_of-result c =
    let n = c.args.note in
    let d : n.denomination < 4294967296 = search rules in
    let f : T (fits binary64 n.rate) = search rules in
    record { fit = subst NumbersFit (sym (are c)) (numbers_fit n c.requires d f) }

pub returns : goal.returns
returns c = are (goal.at.returns c).After-letter-3
