-- From a note's flows in two lists to its lines, and from bytes to a note.
use Rattle.outcome.specs.Refusals.{number_of}
use Rattle.std.specs.Prelude.{Ok, Err}
use Prim.Native.Nat.{ℕ, ◌≤◌, min}
use mathlib.Core.Path.{◌≡◌, refl, sym, ap, subst, ◌∙◌}
use mathlib.Core.Bool.{true}
use mathlib.Core.List.{List, [], ◌∷◌, ◌++◌, map}
use native.Mathlib.Omega.{arith}
use borrow.Author.Tests.{le-leb}
use lib.Dec.{leb}
use lib.Ieee.{Float}
use lib.ListN.{length, take, drop, length-append, length-map}
use lib.Seq.{take_at}
use Rattle.outcome.specs.Lists.{Every}
use Rattle.outcome.specs.declared.Refusal.{Refusal}
use Rattle.outcome.specs.Outcome.{Outcome, given, refused, unless, and_then}
use Rattle.outcome.proofs.Outcomes.{given_injective, refused_injective, given_not_refused, then_given}
use Rattle.outcome.specs.Room.{counted, room_after}
use Rattle.outcome.proofs.Filling.{front_taken}
use Rattle.outcome.proofs.Fitting.{fitting-given}
use Rattle.calendar.specs.dates.Dates.{is_date, day_number}
use Rattle.calendar.specs.serial.Answers.{date_of}
use Rattle.calendar.specs.declared.dates.Date.{Date}
use Rattle.calendar.proofs.dates.Dates.{date-yes, date_found, number-from, number-to, day_is}
use Rattle.cash_flow.specs.declared.flow.CashFlow.{CashFlow}
use Rattle.bond.specs.declared.note.Note.{Note}
use Rattle.note_flows.specs.flows.NoteFlows.{flow_day, amount_of}
use Rattle.rollout.specs.plain.Rollout.{cash_flows, fitted, fitted_in, RolloutPromise}
use Rattle.note_flows.proofs.flows.Flows.{OfNote}
use Rattle.rollout.proofs.plain.Passes.{cash_flows_of}
use Rattle.packed_read.specs.table.Tables.{table_count, table_days}
use Rattle.packed_read.proofs.table.Tables.{length-days}
use Rattle.packed_read.specs.packed.Notes.{Unpacked, unpacked, note_in_bytes, read_into, counted_days, days_after, ReadNotePromise}
use Rattle.packed_read.specs.declared.packed.PackedNote.{PackedNote}
use Rattle.packed_read.proofs.packed.Reading.{bytes-given, few_days}
use Rattle.note_listing.specs.lines.Lines.{lines_of}
use Rattle.note_listing.specs.lines.Inner.{flow_on, flows_shown}
use Rattle.note_listing.specs.note.Listing.{one, note_lines}
use Rattle.note_listing.specs.note.Inner.{with_days}
use Rattle.cash_flow.specs.flow.Flows.{date_on}

-- ---- a flow is found again from its serial day and its amount

day_back : (t : Date) → is_date t ≡ true → date_on (day_number t) ≡ t
unfolding date_on date_of
day_back t h =
    let d = date-yes t h in
    rw (day_is (record { 0 = day_number t }) (number-from t d) (number-to t d)) (date_found t d)

flow_back : (n : Note) (f : CashFlow) → OfNote n f → flow_on n.currency (flow_day f) (amount_of f) ≡ f
flow_back n f h = rw (day_back f.date h.0, ← h.1)

flows_back : (n : Note) (l : List CashFlow) → Every (OfNote n) l → flows_shown n.currency (map flow_day l) (map amount_of l) ≡ l
flows_back n [] h = refl
flows_back n (f ∷ l) h = rw (flow_back n f h.0, flows_back n l h.1)

-- ---- the rollout's two lists

-- what stands in front of a list that was written into is what was written
front : {A B : Type 0} (g : A → B) (l : List A) (old new : List B) (k : ℕ) → length l ≡ k → new ≡ map g l ++ drop (length l) old → (take k new ≡ map g l) × (k ≤ length new)
front g l old new k e f =
    (rw (f, ← e) (front_taken g l (drop (length l) old)), omega (arith, ap length f, length-append (map g l) (drop (length l) old), length-map l g))

pub record Rolled (n : Note) (table : List ℕ) (k : ℕ) (days : List ℕ) (amounts : List Float) : Type 0 where
  pub most : k ≤ 2000
  pub days_long : k ≤ length days
  pub amounts_long : k ≤ length amounts
  pub lines : note_lines (with_days n table) ≡ lines_of (flows_shown n.currency (take k days) (take k amounts))

places : (a b : ℕ) → a ≡ 2000 → b ≡ 2000 → min a b ≡ 2000
places a b e f = omega arith

lines_given : (n : Note) (table : List ℕ) (l : List CashFlow) → fitted_in n one table 2000 ≡ given l → note_lines (with_days n table) ≡ lines_of l
unfolding note_lines
lines_given n table l e = rw (e)

lines_refused : (n : Note) (table : List ℕ) (k : ℕ) → fitted_in n one table 2000 ≡ refused k → note_lines (with_days n table) ≡ refused k
unfolding note_lines
lines_refused n table k e = rw (e)

module _ (n : Note) (table days days' : List ℕ) (amounts amounts' : List Float) (a : length days ≡ 2000) (b : length amounts ≡ 2000) where
  in_2000 : fitted n one table days amounts ≡ fitted_in n one table 2000
  in_2000 = ap (fitted_in n one table) (places (length days) (length amounts) a b)

  pub rolled : (k : ℕ) → RolloutPromise n one table days amounts (Ok k) days' amounts' → Rolled n table k days' amounts'
  rolled k p = by (fitted_in n one table 2000) refl
    where
      by : (o : Outcome (List CashFlow)) → fitted_in n one table 2000 ≡ o → Rolled n table k days' amounts'
      by (given l) e =
          let f : fitted n one table days amounts ≡ given l = in_2000 ∙ e in
          let g = fitting-given 2000 (cash_flows n one table) l e in
          let many : length l ≡ k = given_injective (sym (p.answer ∙ ap counted f)) in
          let d = front flow_day l days days' k many (p.days-are ∙ ap (λ (o : Outcome (List CashFlow)). room_after flow_day o days) f) in
          let x = front amount_of l amounts amounts' k many (p.amounts_are ∙ ap (λ (o : Outcome (List CashFlow)). room_after amount_of o amounts) f) in
          record {
            most = omega (arith, g.1);
            days_long = d.1;
            amounts_long = x.1;
            lines = lines_given n table l e ∙ rw (d.0, x.0) (ap lines_of (sym (flows_back n l (cash_flows_of n one table l g.0).0)));
          }
      by (refused m) e = absurd (given_not_refused (p.answer ∙ ap counted (in_2000 ∙ e)))

  pub unrolled : (k : Refusal) → RolloutPromise n one table days amounts (Err k) days' amounts' → note_lines (with_days n table) ≡ refused (number_of k)
  unrolled k p = by (fitted_in n one table 2000) refl
    where
      by : (o : Outcome (List CashFlow)) → fitted_in n one table 2000 ≡ o → note_lines (with_days n table) ≡ refused (number_of k)
      by (given l) e = absurd (given_not_refused (sym (p.answer ∙ ap counted (in_2000 ∙ e))))
      by (refused m) e = lines_refused n table m e ∙ ap refused (refused_injective (sym (p.answer ∙ ap counted (in_2000 ∙ e))))

-- ---- the bytes

unpacked-given : (s : List ℕ) (u : Unpacked) → unpacked s ≡ given u → length u.days ≤ 4096
unfolding unpacked
unpacked-given s u e =
    let g = then_given (note_in_bytes s) (λ n. given (record { note = n; days = table_days s })) u e in
    let q : record { note = g.0; days = table_days s } ≡ u = given_injective g.2 in
    let few : table_count s ≤ 4096 = few_days s (bytes-given s g.0 g.1).1 in
    subst (λ (v : Unpacked). length v.days ≤ 4096) q (omega (arith, length-days s 0 (table_count s)))

-- 4,096 places are enough for every table that is taken
pub into_all : (s : List ℕ) → read_into 4096 s ≡ unpacked s
unfolding read_into
into_all s = by (unpacked s) refl
  where
    by : (o : Outcome Unpacked) → unpacked s ≡ o → and_then o (λ p. unless (leb (length p.days) 4096) 16 (given p)) ≡ o
    by (given u) e = rw (le-leb (length u.days) 4096 (unpacked-given s u e))
    by (refused n) e = refl

pub record Read (s new : List ℕ) (p : PackedNote) : Type 0 where
  pub there : p.holidays ≤ length new
  pub lines : and_then (unpacked s) note_lines ≡ note_lines (with_days p.note (take p.holidays new))

module _ (s old new : List ℕ) (l : length old ≡ 4096) where
  all_of_lem : read_into (length old) s ≡ unpacked s
  all_of_lem = ap (λ (k : ℕ). read_into k s) l ∙ into_all s

  pub was_read : (p : PackedNote) → ReadNotePromise s old new (Ok p) → Read s new p
  was_read p r = by (unpacked s) refl
    where
      by : (o : Outcome Unpacked) → unpacked s ≡ o → Read s new p
      by (given u) e =
          let f : read_into (length old) s ≡ given u = all_of_lem ∙ e in
          let q : p ≡ record { note = u.note; holidays = length u.days } = given_injective (r.answer ∙ ap counted_days f) in
          let m : p.holidays ≡ length u.days = ap (λ (x : PackedNote). x.holidays) q in
          let new_is : new ≡ u.days ++ drop (length u.days) old = r.places ∙ ap (λ (o : Outcome Unpacked). days_after o old) f in
          let taken : take p.holidays new ≡ u.days = ap (take p.holidays) new_is ∙ take_at u.days (drop (length u.days) old) p.holidays (sym m) in
          record {
            there = omega (arith, ap length new_is, length-append u.days (drop (length u.days) old));
            lines = ap (λ (o : Outcome Unpacked). and_then o note_lines) e ∙ rw (taken, q);
          }
      by (refused k) e = absurd (given_not_refused (r.answer ∙ ap counted_days (all_of_lem ∙ e)))

  pub was_refused : (k : Refusal) → ReadNotePromise s old new (Err k) → and_then (unpacked s) note_lines ≡ refused (number_of k)
  was_refused k r = by (unpacked s) refl
    where
      by : (o : Outcome Unpacked) → unpacked s ≡ o → and_then o note_lines ≡ refused (number_of k)
      by (given u) e = absurd (given_not_refused (sym (r.answer ∙ ap counted_days (all_of_lem ∙ e))))
      by (refused m) e = ap refused (refused_injective (sym (r.answer ∙ ap counted_days (all_of_lem ∙ e))))
