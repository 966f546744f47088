-- What an entry point promises of lent bytes and lists, and a number handed over beside them, are
-- one thing that is handed over.
use Prim.Native.Nat.{ℕ}
use mathlib.Core.Path.{◌≡◌}
use mathlib.Core.Bool.{Bool, true, false}
use mathlib.Core.List.{List}
use lib.Dec.{leb}
use lib.ListN.{length}
use lib.Ieee.{Float}
use Rattle.outcome.specs.Outcome.{Outcome, given, refused, unless, and_then, passed_as, pick}
use Rattle.number_text.specs.write.Writing.{put, written_length, written_bytes, Written, shown_bytes}
use Rattle.outcome.specs.Room.{counted, room_after}
use Rattle.cash_flow.specs.declared.flow.CashFlow.{CashFlow}
use Rattle.note_flows.specs.flows.NoteFlows.{flow_day, amount_of}
use Rattle.fixed_income.specs.plain.Plain.{PlainFlow}
use Rattle.fixed_income.specs.plain.Plain.{ListedContents}
use Rattle.c_values.specs.answers.HandOver.{HandsOver}
use Rattle.c_face.specs.Rooms.{text_in, flow_rooms, listed_in}

-- of the old and the new bytes d and e, and of the place for the length before and after
module _ (d e : List ℕ) (a : Outcome ℕ) (r old new : ℕ) (h : HandsOver a r old new) where
  pub text_handed : (xs : List ℕ) → Written d e xs a → HandsOver (text_in d xs) r (old, d) (new, e)
  unfolding text_in written_length written_bytes
  text_handed xs w = by (leb (length xs) (length d)) w.0 w.1
    where
      by : (b : Bool) → a ≡ unless b 16 (given (length xs)) → e ≡ pick b (put d 0 xs) d → HandsOver {A = ℕ × List ℕ} (passed_as (λ k. (k, pick b (put d 0 xs) d)) (unless b 16 (given (length xs)))) r (old, d) (new, e)
      by true p q = let g : HandsOver (given (length xs)) r old new = rw p at h in (g.0, cc)
      by false p q = let g : HandsOver {A = ℕ} (refused 16) r old new = rw p at h in (g.0, cc)

  pub shown_handed : (o : Outcome (List ℕ)) → a ≡ and_then o (written_length d) → e ≡ shown_bytes d o → HandsOver (and_then o (text_in d)) r (old, d) (new, e)
  shown_handed (given xs) p q = text_handed xs (p, q)
  shown_handed (refused n) p q = let g : HandsOver {A = ℕ} (refused n) r old new = rw p at h in (g.0, cc)

-- of a count of flows and the lists that they are in
module _ (a : Outcome ℕ) (r old new : ℕ) (h : HandsOver a r old new) where
  pub flows_handed : (days days' : List ℕ) (amounts amounts' : List Float) (o : Outcome (List CashFlow)) → a ≡ counted o → days' ≡ room_after flow_day o days → amounts' ≡ room_after amount_of o amounts → HandsOver (passed_as (flow_rooms days amounts) o) r (old, days, amounts) (new, days', amounts')
  flows_handed days days' amounts amounts' (given l) p q s = let g : HandsOver (given (length l)) r old new = rw p at h in (g.0, cc)
  flows_handed days days' amounts amounts' (refused n) p q s = let g : HandsOver {A = ℕ} (refused n) r old new = rw p at h in (g.0, cc)

  pub listed_handed : (days currencies days' currencies' : List ℕ) (amounts amounts' : List Float) (o : Outcome (List PlainFlow)) → a ≡ counted o → ListedContents o days currencies amounts days' currencies' amounts' → HandsOver (passed_as (listed_in days currencies amounts) o) r (old, days, currencies, amounts) (new, days', currencies', amounts')
  listed_handed days currencies days' currencies' amounts amounts' (given l) p c =
      let g : HandsOver (given (length l)) r old new = rw p at h in
      let k : days' ≡ room_after (λ f. f.day) (given l) days = c.days-are in
      let m : currencies' ≡ room_after (λ f. f.currency) (given l) currencies = c.currencies_are in
      let n : amounts' ≡ room_after (λ f. f.amount) (given l) amounts = c.amounts_are in
      (g.0, cc)
  listed_handed days currencies days' currencies' amounts amounts' (refused n) p c =
      let g : HandsOver {A = ℕ} (refused n) r old new = rw p at h in
      let k : days' ≡ days = c.days-are in
      let m : currencies' ≡ currencies = c.currencies_are in
      let n : amounts' ≡ amounts = c.amounts_are in
      (g.0, cc)
