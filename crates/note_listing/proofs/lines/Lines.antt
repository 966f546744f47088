-- Lines, one after the other: how long they are, and how they are written.
use Prim.Native.Nat.{ℕ, ◌+◌, ◌≤◌, ◌<◌, min}
use Rattle.std.specs.Borrow.{Bor}
use mathlib.Core.Path.{◌≡◌, refl, sym, ap, ap₂, subst, ◌∙◌}
use mathlib.Core.Bool.{true}
use mathlib.Core.List.{List, [], ◌∷◌, ◌++◌}
use native.Mathlib.Omega.{arith}
use lib.Dec.{T}
use lib.Ieee.{Float, nan, binary64, fits}
use lib.Ieee.Scale.{finite}
use lib.ListN.{length, drop, get_or, length-append, length-drop, drop_of_length-le}
use Rattle.outcome.proofs.Lists.{head_at}
use Rattle.outcome.specs.Outcome.{Outcome, given, refused, and_then, passed_as}
use Rattle.outcome.proofs.Outcomes.{given_injective, refused_injective, given_not_refused, passed_given, passed_refused}
use Rattle.outcome.proofs.Tallies.{tally, tally_more}
use Rattle.number_text.specs.write.Writing.{put, Puts, Written}
use Rattle.number_text.specs.declared.write.Writer.{Writer}
use Rattle.number_text.proofs.write.Writers.{written_fits, written_refused}
use Rattle.number_text.proofs.write.Putting.{put-none, put-put}
use Rattle.calendar.specs.dates.Dates.{is_date}
use Rattle.cash_flow.specs.declared.currency.Currency.{Currency}
use Rattle.cash_flow.specs.declared.flow.CashFlow.{CashFlow}
use Rattle.flow_text.specs.flow.Texts.{flow_text, flow_shown}
use Rattle.flow_text.proofs.flow.Answers.{flow_was}
use Rattle.flow_text.proofs.flow.Lengths.{flow-most}
use Rattle.flow_text.specs.refusal.RefusalTexts.{refused_text}
use Rattle.note_listing.specs.lines.Lines.{line_shown, lines_of, answer_text}
use Rattle.note_listing.specs.lines.Inner.{flow_on, flows_shown, text_of, LineFits}

-- ---- one line

pub line_given : (f : CashFlow) (t : List ℕ) → flow_shown f ≡ given t → line_shown f ≡ given (t ++ (10 ∷ []))
unfolding line_shown
line_given f t e = rw (e)

pub line_refused : (f : CashFlow) (n : ℕ) → flow_shown f ≡ refused n → line_shown f ≡ refused n
unfolding line_shown
line_refused f n e = rw (e)

pub line_takes : (f : CashFlow) (k : ℕ) → T (fits binary64 f.amount) → given k ≡ passed_as length (flow_shown f) → (given (k + 1) ≡ passed_as length (line_shown f)) × (k + 1 ≤ 331)
line_takes f k h e =
    let g = passed_given length (flow_shown f) k (sym e) in
    let s = flow_was f g.0 g.1 in
    let n : length g.0 ≡ k = g.2 in
    let most : length (flow_text f) ≤ 330 = flow-most f h s.0 s.1 in
    let same : length (flow_text f) ≡ length g.0 = ap length s.2 in
    (rw (line_given f g.0 g.1, length-append g.0 (10 ∷ []), n), omega arith)

pub line_takes_none : (f : CashFlow) (n : ℕ) → refused n ≡ passed_as length (flow_shown f) → refused n ≡ passed_as length (line_shown f)
line_takes_none f n e = rw (line_refused f n (passed_refused length (flow_shown f) n (sym e)))

-- ---- lines one after the other

-- the next flow of two lists
pub flows-next : (c : Currency) (ds : List ℕ) (xs : List Float) (i : ℕ) → i < length ds → i < length xs → flows_shown c (drop i ds) (drop i xs) ≡ flow_on c (get_or ds i 0) (get_or xs i nan) ∷ flows_shown c (drop (i + 1) ds) (drop (i + 1) xs)
flows-next c ds xs i h k =
    rw (head_at ds i 0 h, head_at xs i nan k)

pub flows-none : (c : Currency) (ds : List ℕ) (xs : List Float) (i : ℕ) → length ds ≤ i → flows_shown c (drop i ds) (drop i xs) ≡ []
flows-none c ds xs i h = let e : drop i ds ≡ [] = drop_of_length-le ds h in rw (e)

-- and where they are walked as pairs, of which as many came as ys has
pub pairs-next : (c : Currency) (ds : List ℕ) (xs : List Float) (ys : List (Bor ℕ × Bor Float)) (p : Bor ℕ × Bor Float) → (length ys < length ds) × (length ys < length xs) × ((d : ℕ) → p.0.now ≡ get_or ds (length ys) d) × ((d : Float) → p.1.now ≡ get_or xs (length ys) d)
    → flows_shown c (drop (length ys) ds) (drop (length ys) xs) ≡ flow_on c p.0.now p.1.now ∷ flows_shown c (drop (length (ys ++ (p ∷ []))) ds) (drop (length (ys ++ (p ∷ []))) xs)
pairs-next c ds xs ys p (h, k, d, x) =
    ap₂ (flows_shown c) (head_at ds (length ys) 0 h) (head_at xs (length ys) nan k)
    ∙ ap₂ (λ (a : ℕ) (b : Float). flow_on c a b ∷ flows_shown c (drop (length ys + 1) ds) (drop (length ys + 1) xs)) (sym (d 0)) (sym (x nan))
    ∙ ap (λ (j : ℕ). flow_on c p.0.now p.1.now ∷ flows_shown c (drop j ds) (drop j xs)) (sym (length-append ys (p ∷ [])))

pub pairs-none : (c : Currency) (ds : List ℕ) (xs : List Float) (i : ℕ) → i ≡ min (length ds) (length xs) → flows_shown c (drop i ds) (drop i xs) ≡ []
pairs-none c ds xs i q = by (drop i ds) (drop i xs) (omega (arith, q, length-drop i ds, length-drop i xs))
  where
    by : (es : List ℕ) (ys : List Float) → min (length es) (length ys) ≡ 0 → flows_shown c es ys ≡ []
    by [] ys h = refl
    by (e ∷ es) [] h = refl
    by (e ∷ es) (y ∷ ys) h = absurd (omega arith)

lines_cons : (f : CashFlow) (fs : List CashFlow) → lines_of (f ∷ fs) ≡ and_then (line_shown f) (λ t. and_then (lines_of fs) (λ rest. given (t ++ rest)))
unfolding lines_of
lines_cons f fs = refl

pub lines_none : lines_of [] ≡ given []
unfolding lines_of
lines_none = refl

-- what is left decides how long they are
pub tally_line : (total k : ℕ) (f : CashFlow) (fs : List CashFlow) (z : Outcome ℕ) → tally total (lines_of (f ∷ fs)) ≡ z → given k ≡ passed_as length (line_shown f) → tally (total + k) (lines_of fs) ≡ z
tally_line total k f fs z e h =
    let g = passed_given length (line_shown f) k (sym h) in
    let n : length g.0 ≡ k = g.2 in
    let line : lines_of (f ∷ fs) ≡ and_then (lines_of fs) (λ rest. given (g.0 ++ rest)) = lines_cons f fs ∙ ap (λ (o : Outcome (List ℕ)). and_then o (λ t. and_then (lines_of fs) (λ rest. given (t ++ rest)))) g.1 in
    ap (λ (j : ℕ). tally (total + j) (lines_of fs)) (sym n) ∙ sym (tally_more total g.0 (lines_of fs)) ∙ ap (tally total) (sym line) ∙ e

pub tally_refused : (total n : ℕ) (f : CashFlow) (fs : List CashFlow) (z : Outcome ℕ) → tally total (lines_of (f ∷ fs)) ≡ z → refused n ≡ passed_as length (line_shown f) → refused n ≡ z
tally_refused total n f fs z e h =
    let g : line_shown f ≡ refused n = passed_refused length (line_shown f) n (sym h) in
    let line : lines_of (f ∷ fs) ≡ refused n = lines_cons f fs ∙ ap (λ (o : Outcome (List ℕ)). and_then o (λ t. and_then (lines_of fs) (λ rest. given (t ++ rest)))) g in
    sym (ap (tally total) line) ∙ e

-- ---- lines written one after the other

-- a line that has room: its flow is shown, and its text is one byte longer
pub record Fitting (f : CashFlow) (places at : ℕ) : Type 0 where
  pub shown : (finite f.amount ≡ true) × (is_date f.date ≡ true)
  pub text : text_of (line_shown f) ≡ flow_text f ++ (10 ∷ [])
  pub room : at + length (flow_text f) + 1 ≤ places

pub line_fitting : (f : CashFlow) (places at : ℕ) → LineFits (line_shown f) places at → Fitting f places at
line_fitting f places at h = by (flow_shown f) refl
  where
    by : (o : Outcome (List ℕ)) → flow_shown f ≡ o → Fitting f places at
    by (refused n) e = absurd (subst (λ (x : Outcome (List ℕ)). LineFits x places at) (line_refused f n e) h)
    by (given t) e =
        let s = flow_was f t e in
        let l : line_shown f ≡ given (flow_text f ++ (10 ∷ [])) = line_given f t e ∙ ap (λ (x : List ℕ). given (x ++ (10 ∷ []))) (sym s.2) in
        let r : at + length (flow_text f ++ (10 ∷ [])) ≤ places = subst (λ (x : Outcome (List ℕ)). LineFits x places at) l h in
        record {
          shown = (s.0, s.1);
          text = ap text_of l;
          room = omega (arith, length-append (flow_text f) (10 ∷ []));
        }

-- the rest of the lines has room from a place on, and if it were written there now, all would be as
-- it shall be
-- w is v with some lines written, and fs are still to write; z is all of the text
pub record Writing (fs : List CashFlow) (v w : Writer) (z : List ℕ) : Type 0 where
  pub lent : w.out.ghost_name ≡ v.out.ghost_name
  pub size : length w.out.now ≡ length v.out.now
  pub fits : LineFits (lines_of fs) (length w.out.now) w.at
  pub ends : w.at + length (text_of (lines_of fs)) ≡ v.at + length z
  pub rest : put w.out.now w.at (text_of (lines_of fs)) ≡ put v.out.now v.at z

both-given : (f : CashFlow) (fs : List CashFlow) (places at : ℕ) → LineFits (lines_of (f ∷ fs)) places at
    → (LineFits (line_shown f) places at) × (LineFits (lines_of fs) places (at + length (text_of (line_shown f)))) × (text_of (lines_of (f ∷ fs)) ≡ text_of (line_shown f) ++ text_of (lines_of fs)) × (at + length (text_of (line_shown f)) + length (text_of (lines_of fs)) ≤ places)
both-given f fs places at h = by (line_shown f) (lines_of fs) (subst (λ (x : Outcome (List ℕ)). LineFits x places at) (lines_cons f fs) h) (ap text_of (lines_cons f fs))
  where
    by : (o p : Outcome (List ℕ)) → LineFits (and_then o (λ t. and_then p (λ rest. given (t ++ rest)))) places at → text_of (lines_of (f ∷ fs)) ≡ text_of (and_then o (λ t. and_then p (λ rest. given (t ++ rest))))
        → (LineFits o places at) × (LineFits p places (at + length (text_of o))) × (text_of (lines_of (f ∷ fs)) ≡ text_of o ++ text_of p) × (at + length (text_of o) + length (text_of p) ≤ places)
    by (given t) (given r) k e = (omega (arith, length-append t r), omega (arith, length-append t r), e, omega (arith, length-append t r))
    by (given t) (refused n) k e = absurd k
    by (refused n) p k e = absurd k

pub writing_start : (fs : List CashFlow) (v : Writer) → LineFits (lines_of fs) (length v.out.now) v.at → Writing fs v v (text_of (lines_of fs))
writing_start fs v h = record { lent = refl; size = refl; fits = h; ends = refl; rest = refl }

module _ {f : CashFlow} {fs : List CashFlow} {v w : Writer} {z : List ℕ} (l : Writing (f ∷ fs) v w z) where
  pub writing_line : LineFits (line_shown f) (length w.out.now) w.at
  writing_line = (both-given f fs (length w.out.now) w.at l.fits).0

  pub writing_more : (u : Writer) → Puts w u (text_of (line_shown f)) → Writing fs v u z
  writing_more u p =
      let b = both-given f fs (length w.out.now) w.at l.fits in
      record {
        lent = p.lent ∙ l.lent;
        size = p.size ∙ l.size;
        fits = rw (p.size, p.at) b.1;
        ends = rw p.at (omega (arith, l.ends, ap length b.2, length-append (text_of (line_shown f)) (text_of (lines_of fs))));
        rest = rw (p.bytes, p.at) (put-put w.out.now w.at (text_of (line_shown f)) (text_of (lines_of fs)) b.3) ∙ ap (put w.out.now w.at) (sym b.2) ∙ l.rest;
      }

pub writing_end : {v w : Writer} {z : List ℕ} → Writing [] v w z → Puts v w z
writing_end {v} {w} {z} l =
    let none : text_of (lines_of []) ≡ [] = ap text_of lines_none in
    record {
      lent = l.lent;
      size = l.size;
      at = omega (arith, l.ends, ap length none);
      bytes = sym (put-none w.out.now w.at) ∙ ap (put w.out.now w.at) (sym none) ∙ l.rest;
    }

pub writing_flows : {fs gs : List CashFlow} {v w : Writer} {z : List ℕ} → fs ≡ gs → Writing fs v w z → Writing gs v w z
writing_flows {fs} {gs} {v} {w} {z} e l = subst (λ (x : List CashFlow). Writing x v w z) e l

-- ---- the ways to answer

pub all_written : (o : Outcome (List ℕ)) (d : List ℕ) (k : ℕ) → given k ≡ and_then o (λ t. given (length t)) → k ≤ length d → (LineFits o (length d) 0) × Written d (put d 0 (text_of o)) (answer_text o) (given k)
all_written (given t) d k e h =
    let n : k ≡ length t = given_injective e in
    (omega arith, written_fits d (put d 0 t) t k (refl, omega arith) (omega arith))
all_written (refused n) d k e h = absurd (given_not_refused e)

pub none_written : (o : Outcome (List ℕ)) (d : List ℕ) (k : ℕ) → given k ≡ and_then o (λ t. given (length t)) → length d < k → Written d d (answer_text o) (refused 16)
none_written (given t) d k e h = let n : k ≡ length t = given_injective e in written_refused d t (omega arith)
none_written (refused n) d k e h = absurd (given_not_refused e)

pub lines_short : (o : Outcome (List ℕ)) (k : ℕ) → given k ≡ and_then o (λ t. given (length t)) → k ≤ 662000 → length (answer_text o) ≤ 662000
lines_short (given t) k e h = let n : k ≡ length t = given_injective e in omega arith
lines_short (refused n) k e h = absurd (given_not_refused e)

pub refusal_is : (o : Outcome (List ℕ)) (n : ℕ) → refused n ≡ and_then o (λ t. given (length t)) → refused_text n ≡ answer_text o
refusal_is (given t) n e = absurd (given_not_refused (sym e))
refusal_is (refused m) n e = ap refused_text (refused_injective e)

-- the same text by another name
pub written_is : (d e s t : List ℕ) (o : Outcome ℕ) → s ≡ t → (Written d e s o) × (length s ≤ 662000) → (Written d e t o) × (length t ≤ 662000)
written_is d e s t o p w = subst (λ (x : List ℕ). (Written d e x o) × (length x ≤ 662000)) p w

-- and so is a refusal's, which is short
pub refusal_written : (d e t : List ℕ) (n : ℕ) (o : Outcome ℕ) → refused_text n ≡ t → (Written d e (refused_text n) o) × (length (refused_text n) ≤ 19) → (Written d e t o) × (length t ≤ 662000)
refusal_written d e t n o p w = written_is d e (refused_text n) t o p (w.0, omega (arith, w.1))
