-- Laws of reading: the digits that are left to read behind a number, and the text with a sign
-- before it.
use Prim.Native.Nat.{ℕ, ◌+◌, ◌-◌, ◌*◌, ◌≤◌, ◌<◌}
use mathlib.Core.Path.{◌≡◌, refl, sym, ◌∙◌}
use mathlib.Core.Bool.{Bool, true, false, ◌&&◌}
use Rattle.std.specs.Char.{is_ascii_digit}
use Rattle.std.specs.Cmp.Lexicographic.{pointwise}
use Rattle.std.specs.Option.{MatchOption, unwrap_or}
use Rattle.std.specs.Prelude.{Option, Some, None}
use denote.Ref.{Bor}
use mathlib.Core.List.{List, [], ◌∷◌}
use native.Mathlib.Omega.{arith}
use lib.Dec.{leb, eqb}
use lib.ListN.{length, get_or, take, drop, drop_of_length-le}
use lib.IntN.{ℤ, pos, neg_ℤ}
use borrow.Author.Tests.{le-leb, lt-leb, leb-true, eq-eqb, ne_eqb}
use Rattle.outcome.specs.Lists.{all_of}
use Rattle.outcome.specs.Outcome.{Outcome, given, refused, unless, and_then, both, Numbered}
use Rattle.outcome.proofs.Lists.{head_at, part_from}
use Rattle.outcome.proofs.Numbers.{between}
use Rattle.outcome.proofs.Outcomes.{given_injective, unless-given, unless_numbered, then_numbered, pick_numbered}
use Rattle.number_text.specs.read.Reading.{is_digit, all_digits, is_decimal, continued, decimal_value, decimal_number, begins, after_plus, unsigned_number, below_zero, from_zero, signed_number}

-- ---- one byte

pub digit_yes : (b : ℕ) → 48 ≤ b → b ≤ 57 → is_digit b ≡ true
unfolding is_digit
digit_yes b l h = rw (le-leb 48 b l, le-leb b 57 h)

-- std's test of a digit is this one
pub digit_is : (b : ℕ) → is_ascii_digit b ≡ is_digit b
unfolding is_digit
digit_is b = elim (leb 48 b) as (λ l. (l && leb b 57) ≡ both l (leb b 57)) [ true ↦ refl | false ↦ refl ]

pub digit_no : (b : ℕ) → (48 ≤ b → b ≤ 57 → ⊥) → is_digit b ≡ false
unfolding is_digit
digit_no b h = by (leb 48 b) (leb b 57) refl refl
  where
    by : (l m : Bool) → leb 48 b ≡ l → leb b 57 ≡ m → both l m ≡ false
    by true true e f = absurd (h (leb-true 48 b e) (leb-true b 57 f))
    by true false e f = refl
    by false m e f = refl

pub digit_bounds : (b : ℕ) → is_digit b ≡ true → (48 ≤ b) × (b ≤ 57)
unfolding is_digit
digit_bounds b e = between 48 b 57 e

-- ---- what comes out where the number v is read and the text s is left

unfoldable pub remaining : ℕ → ℕ → ℕ → List ℕ → Outcome ℕ
remaining most n v s = unless (all_digits s) n (unless (leb (continued v s) most) n (given (continued v s)))

pub remaining_whole : (most n : ℕ) (s : List ℕ) → (length s ≡ 0 → ⊥) → remaining most n 0 s ≡ decimal_number most n s
unfolding remaining decimal_number is_decimal
remaining_whole most n [] h = absurd (h refl)
remaining_whole most n (b ∷ s) h = refl

pub decimal_empty : (most n : ℕ) (s : List ℕ) → length s ≡ 0 → refused n ≡ decimal_number most n s
unfolding decimal_number is_decimal
decimal_empty most n [] h = refl
decimal_empty most n (b ∷ s) h = absurd (omega arith)

pub continued-most : (v : ℕ) (s : List ℕ) → v ≤ continued v s
unfolding continued
continued-most v [] = omega arith
continued-most v (b ∷ s) = omega (arith, continued-most (v * 10 + (b - 48)) s)

-- a byte that is no digit
bad_first : (most n v b : ℕ) (s : List ℕ) → is_digit b ≡ false → remaining most n v (b ∷ s) ≡ refused n
unfolding remaining all_of
bad_first most n v b s e = rw (e)

pub remaining_bad : (most n v k : ℕ) (s : List ℕ) (z : Outcome ℕ) → remaining most n v (drop k s) ≡ z → k < length s → is_digit (get_or s k 0) ≡ false → refused n ≡ z
remaining_bad most n v k s z e h f = sym (bad_first most n v (get_or s k 0) (drop (k + 1) s) f) ∙ rw (head_at s k 0 h) at e

-- a digit more
digit_first : (most n v b : ℕ) (s : List ℕ) → is_digit b ≡ true → remaining most n v (b ∷ s) ≡ remaining most n (v * 10 + (b - 48)) s
unfolding remaining all_of continued
digit_first most n v b s e = rw (e)

pub remaining_more : (most n v k : ℕ) (s : List ℕ) (z : Outcome ℕ) → remaining most n v (drop k s) ≡ z → k < length s → is_digit (get_or s k 0) ≡ true → remaining most n (v * 10 + (get_or s k 0 - 48)) (drop (k + 1) s) ≡ z
remaining_more most n v k s z e h f = sym (digit_first most n v (get_or s k 0) (drop (k + 1) s) f) ∙ rw (head_at s k 0 h) at e

-- what is past the limit stays past it
unless-both : (b : Bool) (n v : ℕ) → unless b n (unless false n (given v)) ≡ refused n
unless-both true n v = refl
unless-both false n v = refl

pub remaining_past : (most n v : ℕ) (s : List ℕ) (z : Outcome ℕ) → remaining most n v s ≡ z → most < v → refused n ≡ z
unfolding remaining
remaining_past most n v s z e h = sym (unless-both (all_digits s) n (continued v s)) ∙ rw (lt-leb (continued v s) most (omega (arith, continued-most v s))) at e

pub remaining_end : (most n v k : ℕ) (s : List ℕ) (z : Outcome ℕ) → remaining most n v (drop k s) ≡ z → length s ≤ k → v ≤ most → given v ≡ z
unfolding remaining all_of continued
remaining_end most n v k s z e h l = rw (drop_of_length-le s h, le-leb v most l) at e

-- ---- the number that comes out

pub decimal_most : (most n v : ℕ) (s : List ℕ) → given v ≡ decimal_number most n s → v ≤ most
unfolding decimal_number
decimal_most most n v s e =
    let p = unless-given (is_decimal s) n _ v (sym e) in
    let q = unless-given (leb (decimal_value s) most) n _ v p.1 in
    omega (arith, leb-true (decimal_value s) most q.0, given_injective q.1)

-- ---- the sign cut off: a byte that stands first, as a comparison with one byte finds it

and_true : (b : Bool) → (b && true) ≡ b
and_true true = refl
and_true false = refl

begins-taken : (b : ℕ) (s : List ℕ) → pointwise eqb (take 1 s) (b ∷ []) ≡ begins b s
unfolding begins
begins-taken b [] = refl
begins-taken b (c ∷ s) = and_true (eqb c b)

-- the text without its plus, where r is what stands behind one
pub plus_cut : (s : List ℕ) (r : Option (Bor (List ℕ))) (b : Bor (List ℕ)) → MatchOption r (pointwise eqb (take 1 s) (43 ∷ []) ≡ false) (λ t. (pointwise eqb (take 1 s) (43 ∷ []) ≡ true) × (t.now ≡ drop 1 s) × (length t.now + 1 ≡ length s)) → b.now ≡ s → (unwrap_or r b).now ≡ after_plus s
unfolding after_plus
plus_cut s None b h k = rw (← begins-taken 43 s, h) k
plus_cut s (Some t) b h k = rw (← begins-taken 43 s, h.0) h.1

pub unsigned_is : (n : ℕ) (s t : List ℕ) (o : Outcome ℕ) → o ≡ decimal_number 4294967295 n t → t ≡ after_plus s → o ≡ unsigned_number n s
unfolding unsigned_number
unsigned_is n s t o e f = rw (← f) e

-- what a number is where the minus is cut off, and where there is none
pub minus_read : (n : ℕ) (s t : List ℕ) → (pointwise eqb (take 1 s) (45 ∷ []) ≡ true) → t ≡ drop 1 s → and_then (decimal_number 2147483648 n t) (λ v. given (neg_ℤ (pos v))) ≡ signed_number n s
unfolding signed_number below_zero
minus_read n s t h e = rw (← begins-taken 45 s, h, e)

pub plain_read : (n : ℕ) (s t : List ℕ) → pointwise eqb (take 1 s) (45 ∷ []) ≡ false → t ≡ after_plus s → and_then (decimal_number 2147483647 n t) (λ v. given (pos v)) ≡ signed_number n s
unfolding signed_number from_zero
plain_read n s t h e = rw (← begins-taken 45 s, h, e)

-- ---- what stands first, of a text and its first byte

pub begins-first : (b : ℕ) (s : List ℕ) → (length s ≡ 0 → ⊥) → begins b s ≡ eqb (get_or s 0 0) b
unfolding begins
begins-first b [] h = absurd (h refl)
begins-first b (c ∷ s) h = refl

-- ---- the sign cut off, of a text and its first byte

pub unsigned_empty : (n : ℕ) (s : List ℕ) → length s ≡ 0 → refused n ≡ unsigned_number n s
unfolding unsigned_number after_plus begins
unsigned_empty n [] h = decimal_empty 4294967295 n [] refl
unsigned_empty n (b ∷ s) h = absurd (omega arith)

pub after_plus_lem : (s : List ℕ) → (length s ≡ 0 → ⊥) → get_or s 0 0 ≡ 43 → after_plus s ≡ drop 1 s
unfolding after_plus
after_plus_lem s h e = rw (begins-first 43 s h, eq-eqb (get_or s 0 0) 43 e)

pub no_plus : (s : List ℕ) → (length s ≡ 0 → ⊥) → (get_or s 0 0 ≡ 43 → ⊥) → after_plus s ≡ s
unfolding after_plus
no_plus s h e = rw (begins-first 43 s h, ne_eqb (get_or s 0 0) 43 e)

pub signed_empty : (n : ℕ) (s : List ℕ) → length s ≡ 0 → refused n ≡ signed_number n s
unfolding signed_number from_zero after_plus begins
signed_empty n [] h = rw (← decimal_empty 2147483647 n [] refl)
signed_empty n (b ∷ s) h = absurd (omega arith)

pub signed_minus : (n : ℕ) (s : List ℕ) (o : Outcome ℤ) → o ≡ below_zero n (drop 1 s) → (length s ≡ 0 → ⊥) → get_or s 0 0 ≡ 45 → o ≡ signed_number n s
unfolding signed_number
signed_minus n s o e h f = rw (begins-first 45 s h, eq-eqb (get_or s 0 0) 45 f) e

pub signed_else : (n : ℕ) (s t : List ℕ) (o : Outcome ℤ) → o ≡ from_zero n t → after_plus s ≡ t → (length s ≡ 0 → ⊥) → (get_or s 0 0 ≡ 45 → ⊥) → o ≡ signed_number n s
unfolding signed_number
signed_else n s t o e g h f = rw (begins-first 45 s h, ne_eqb (get_or s 0 0) 45 f, g) e

-- the same of the part that a read takes, from the first place to the end
pub signed_minus_part : (n : ℕ) (s : List ℕ) (o : Outcome ℤ) → o ≡ below_zero n (take (length s - 1) (drop 1 s)) → (length s ≡ 0 → ⊥) → get_or s 0 0 ≡ 45 → o ≡ signed_number n s
signed_minus_part n s o e h f = signed_minus n s o (e ∙ rw (part_from s 1)) h f

pub signed_plus_part : (n : ℕ) (s : List ℕ) (o : Outcome ℤ) → o ≡ from_zero n (take (length s - 1) (drop 1 s)) → (length s ≡ 0 → ⊥) → (get_or s 0 0 ≡ 45 → ⊥) → get_or s 0 0 ≡ 43 → o ≡ signed_number n s
signed_plus_part n s o e h f g = signed_else n s _ o e (after_plus_lem s h g ∙ sym (part_from s 1)) h f

pub signed_plain : (n : ℕ) (s : List ℕ) (o : Outcome ℤ) → o ≡ from_zero n s → (length s ≡ 0 → ⊥) → (get_or s 0 0 ≡ 45 → ⊥) → (get_or s 0 0 ≡ 43 → ⊥) → o ≡ signed_number n s
signed_plain n s o e h f g = signed_else n s s o e (no_plus s h g) h f

-- ---- a refusal's number is the one that the caller names

pub decimal_numbered : (most n : ℕ) (s : List ℕ) → 0 < n → Numbered (decimal_number most n s)
unfolding decimal_number
decimal_numbered most n s h = unless_numbered (is_decimal s) n _ h (unless_numbered (leb (decimal_value s) most) n _ h (omega arith))

pub unsigned_numbered : (n : ℕ) (s : List ℕ) → 0 < n → Numbered (unsigned_number n s)
unfolding unsigned_number
unsigned_numbered n s h = decimal_numbered 4294967295 n (after_plus s) h

pub signed_numbered : (n : ℕ) (s : List ℕ) → 0 < n → Numbered (signed_number n s)
unfolding signed_number below_zero from_zero
signed_numbered n s h =
    pick_numbered (begins 45 s) _ _
    (then_numbered (decimal_number 2147483648 n (drop 1 s)) _ (decimal_numbered 2147483648 n (drop 1 s) h) (λ v. omega arith))
    (then_numbered (decimal_number 2147483647 n (after_plus s)) _ (decimal_numbered 2147483647 n (after_plus s) h) (λ v. omega arith))
