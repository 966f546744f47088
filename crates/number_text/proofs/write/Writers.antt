-- Laws of writers at the start of lent bytes: there is room and all is written, or there is not and
-- nothing is.
use Prim.Native.Nat.{ℕ, ◌-◌, ◌≤◌, ◌<◌, max}
use mathlib.Core.Path.{◌≡◌, refl, sym, ap, ◌∙◌}
use mathlib.Core.List.{List, ◌++◌}
use mathlib.Core.Bool.{Bool}
use native.Mathlib.Omega.{arith}
use lib.ListN.{length, take, replicate, length-append, length-replicate}
use lib.Dec.{leb}
use lib.IntN.{ℤ, nat_abs}
use Rattle.outcome.specs.Signs.{is_negative}
use borrow.Author.Tests.{le-leb, lt-leb, leb-true}
use Rattle.outcome.specs.Outcome.{given, refused, Numbered, pick}
use Rattle.outcome.proofs.Outcomes.{given_injective, unless-given, unless_numbered}
use Rattle.number_text.specs.write.Writing.{digits, places, decimal_text, padded_text, sign_text, signed_text, right_aligned, put, Wrote, Puts, written_length, written_bytes, Written}
use Rattle.number_text.proofs.length.Digits.{places-some, length_decimal, length_padded}
use Rattle.number_text.specs.declared.write.Writer.{Writer}
use Rattle.number_text.proofs.write.Putting.{put_text}

pub written_fits : (d e xs : List ℕ) (r : ℕ) → Wrote d e 0 xs r → length xs ≤ length d → Written d e xs (given r)
unfolding written_length written_bytes
written_fits d e xs r w h = rw (le-leb (length xs) (length d) h) (ap given (omega (arith, w.1)), w.0)

-- a writer that began at the first of the bytes d, and left e
pub written_by : (d e xs : List ℕ) (v w : Writer) → v.out.now ≡ d → v.at ≡ 0 → Puts v w xs → length xs ≤ length d → e ≡ w.out.now → Written d e xs (given w.at)
written_by d e xs v w p q s h k = written_fits d e xs w.at (k ∙ s.bytes ∙ rw (p, q) refl, s.at ∙ rw (q) refl) h

pub written_refused : (d xs : List ℕ) → length d < length xs → Written d d xs (refused 16)
unfolding written_length written_bytes
written_refused d xs h = rw (lt-leb (length xs) (length d) h) (refl, refl)

pub written_numbered : (d xs : List ℕ) → Numbered (written_length d xs)
unfolding written_length
written_numbered d xs = unless_numbered (leb (length xs) (length d)) 16 (given (length xs)) (omega arith) (omega arith)

-- where a length is answered there was room for the text, and all of it was written
pub written_given : (d e xs : List ℕ) (k : ℕ) → Written d e xs (given k) → (k ≡ length xs) × (length xs ≤ length d) × (e ≡ put d 0 xs)
unfolding written_length written_bytes
written_given d e xs k w =
    let a = unless-given (leb (length xs) (length d)) 16 (given (length xs)) k (sym w.0) in
    (sym (given_injective a.1), leb-true (length xs) (length d) a.0, w.1 ∙ ap (λ (b : Bool). pick b (put d 0 xs) d) a.0)

-- so that it can be read at the start of the bytes
pub written_text : (d e xs : List ℕ) (k : ℕ) → Written d e xs (given k) → take k e ≡ xs
written_text d e xs k w =
    let g = written_given d e xs k w in
    rw (g.0, g.2) (put_text d 0 xs (omega (arith, g.1)))

-- ---- the same text by another name

pub wrote_is : (d e : List ℕ) (at r : ℕ) (xs ys : List ℕ) → Wrote d e at xs r → xs ≡ ys → Wrote d e at ys r
wrote_is d e at r xs ys w q = rw (← q) w

pub decimal_digits : (n k : ℕ) → k ≡ length (decimal_text n) → digits k n ≡ decimal_text n
unfolding decimal_text
decimal_digits n k e = ap (λ (j : ℕ). digits j n) (e ∙ length_decimal n)

pub padded_digits : (width n k : ℕ) → k ≡ length (padded_text width n) → digits k n ≡ padded_text width n
unfolding padded_text
padded_digits width n k e = ap (λ (j : ℕ). digits j n) (e ∙ length_padded width n)

pub padded_one : (n : ℕ) → padded_text 1 n ≡ decimal_text n
unfolding decimal_text padded_text
padded_one n = let e : max 1 (places n) ≡ places n = omega (arith, places-some n) in rw (e)

signed_text_lem : (z : ℤ) → sign_text (is_negative z) ++ decimal_text (nat_abs z) ≡ signed_text z
unfolding signed_text
signed_text_lem z = refl

-- ---- blanks and then the text

pub length_aligned : (width : ℕ) (xs : List ℕ) → length (right_aligned width xs) ≡ max width (length xs)
unfolding right_aligned
length_aligned width xs = omega (arith, length-append (replicate (width - length xs) 32) xs, length-replicate {A = ℕ} (width - length xs) 32)
