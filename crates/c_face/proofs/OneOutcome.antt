-- No second number and no second contents meet a promise of the face; and a refusal's number is
-- never 0, so that 0 says that there is an answer
-- (`answered` and `kept` of `c_values`). Every promise hands one outcome over, so that one theorem
-- serves all that lend alike.
use Prim.Native.Nat.{ℕ}
use mathlib.Core.Path.{◌≡◌, ap}
use mathlib.Core.Bool.{true}
use mathlib.Core.List.{List}
use native.Mathlib.Omega.{arith}
use lib.IntN.{ℤ}
use lib.Ieee.{Float}
use Rattle.outcome.specs.Outcome.{Outcome, given, refused, and_then, passed_as, Numbered}
use Rattle.outcome.proofs.Outcomes.{then_numbered, passed_numbered}
use Rattle.number_text.specs.write.Writing.{written_length}
use Rattle.number_text.proofs.write.Writers.{written_numbered}
use Rattle.decimal.specs.float.Decimal.{decimal_shown}
use Rattle.decimal.proofs.float.OneOutcome as decimal
use Rattle.calendar.specs.declared.dates.Day.{Day}
use Rattle.calendar.specs.declared.dates.Date.{Date}
use Rattle.coupon_date.specs.declared.CouponDate.{CouponDate}
use Rattle.time_period.specs.steps.Periods.{frequency_of}
use Rattle.time_period.specs.steps.Steps.{Holidays}
use Rattle.time_period.specs.added.Added.{add_to, sub_from}
use Rattle.time_period.specs.declared.steps.TimePeriod.{TimePeriod}
use Rattle.time_period.proofs.steps.OneOutcome.{frequency_numbered}
use Rattle.time_period.proofs.added.OneOutcome.{add_numbered, sub_numbered}
use Rattle.term_text.specs.period.PeriodTexts.{period_text}
use Rattle.day_adjust.specs.Adjustment.{adjust_date}
use Rattle.day_adjust.proofs.OneOutcome.{adjust_numbered}
use Rattle.day_count_conv.specs.conventions.Conventions.{year_fraction, fractions_in_f64, rolled_from}
use Rattle.day_count_conv.specs.declared.conventions.NoteTerms.{NoteTerms}
use Rattle.day_count_conv.proofs.conventions.OneOutcome.{fraction_numbered}
use Rattle.cash_flow.specs.declared.currency.Currency.{Currency}
use Rattle.cash_flow.specs.declared.flow.CashFlow.{CashFlow}
use Rattle.flow_text.specs.flow.Texts.{flow_shown}
use Rattle.flow_text.proofs.flow.OneOutcome.{flow_numbered}
use Rattle.bond.specs.note.Notes.{note_checks}
use Rattle.bond.specs.declared.note.Note.{Note}
use Rattle.bond.specs.declared.limits.NoteNumber.{NoteNumber}
use Rattle.bond.proofs.note.OneOutcome.{checks_numbered}
use Rattle.packed_codes.specs.Codes.{units, unit_of_code, conventions, convention_of_code, adjustments, adjustment_of_code}
use Rattle.packed_codes.proofs.Codes.{place_numbered}
use Rattle.packed_write.specs.packed.Writing.{packed_note}
use Rattle.packed_write.proofs.packed.OneOutcome.{write_numbered}
use Rattle.rollout.specs.plain.Rollout.{fitted}
use Rattle.rollout.proofs.plain.OneOutcome.{rollout_numbered}
use Rattle.accrued_interest.specs.note.Accrued.{accrued, amounts_in_f64}
use Rattle.accrued_interest.proofs.note.OneOutcome.{accrued_numbered}
use Rattle.fixed_income.specs.plain.Plain.{PlainFlow}
use Rattle.fixed_income.specs.plain.Plain.{listed_written}
use Rattle.fixed_income.proofs.plain.OneOutcome.{listed_numbered}
use Rattle.rates.specs.simple.Rates.{discount_factor, discounted_stream}
use Rattle.rates.proofs.simple.OneOutcome.{factor_numbered, stream_numbered}
use Rattle.c_values.specs.answers.HandOver.{HandsOver}
use Rattle.c_values.proofs.answers.OneOutcome.{one_handed}
use Rattle.c_values.specs.arguments.Numbers.{date, period_of_numbers, flat_rate, note_of}
use Rattle.c_face.specs.Rooms.{text_in, flow_rooms, listed_in}

-- ---- one outcome, by what is lent: `one_handed` and `one_number` of `c_values` for one number and
-- for none

pub one-date : (o : Outcome Date) (r s y m d y₁ m₁ d₁ y₂ m₂ d₂ : ℕ) → HandsOver o r (date y m d) (date y₁ m₁ d₁) → HandsOver o s (date y m d) (date y₂ m₂ d₂) → (r ≡ s) × (y₁ ≡ y₂) × (m₁ ≡ m₂) × (d₁ ≡ d₂)
one-date o r s y m d y₁ m₁ d₁ y₂ m₂ d₂ p q =
    let e = one_handed o r s (date y m d) (date y₁ m₁ d₁) (date y₂ m₂ d₂) p q in
    (e.0, ap (λ (t : Date). t.year) e.1, ap (λ (t : Date). t.month) e.1, ap (λ (t : Date). t.day) e.1)

-- a length and the bytes; a period's number and code
pub one_pair : {A B : Type 0} (o : Outcome (A × B)) (r s : ℕ) (k k₁ k₂ : A) (d d₁ d₂ : B) → HandsOver o r (k, d) (k₁, d₁) → HandsOver o s (k, d) (k₂, d₂) → (r ≡ s) × (k₁ ≡ k₂) × (d₁ ≡ d₂)
one_pair {A} {B} o r s k k₁ k₂ d d₁ d₂ p q =
    let e = one_handed o r s (k, d) (k₁, d₁) (k₂, d₂) p q in
    (e.0, ap (λ (x : A × B). x.0) e.1, ap (λ (x : A × B). x.1) e.1)

-- a count and two lists
pub one_lists : {A B C : Type 0} (o : Outcome (A × B × C)) (r s : ℕ) (k k₁ k₂ : A) (d d₁ d₂ : B) (a a₁ a₂ : C) → HandsOver o r (k, d, a) (k₁, d₁, a₁) → HandsOver o s (k, d, a) (k₂, d₂, a₂) → (r ≡ s) × (k₁ ≡ k₂) × (d₁ ≡ d₂) × (a₁ ≡ a₂)
one_lists {A} {B} {C} o r s k k₁ k₂ d d₁ d₂ a a₁ a₂ p q =
    let e = one_handed o r s (k, d, a) (k₁, d₁, a₁) (k₂, d₂, a₂) p q in
    (e.0, ap (λ (x : A × B × C). x.0) e.1, ap (λ (x : A × B × C). x.1) e.1, ap (λ (x : A × B × C). x.2) e.1)

-- a count and three
pub one_three_lists : {A B C D : Type 0} (o : Outcome (A × B × C × D)) (r s : ℕ) (k k₁ k₂ : A) (d d₁ d₂ : B) (c c₁ c₂ : C) (a a₁ a₂ : D) → HandsOver o r (k, d, c, a) (k₁, d₁, c₁, a₁) → HandsOver o s (k, d, c, a) (k₂, d₂, c₂, a₂) → (r ≡ s) × (k₁ ≡ k₂) × (d₁ ≡ d₂) × (c₁ ≡ c₂) × (a₁ ≡ a₂)
one_three_lists {A} {B} {C} {D} o r s k k₁ k₂ d d₁ d₂ c c₁ c₂ a a₁ a₂ p q =
    let e = one_handed o r s (k, d, c, a) (k₁, d₁, c₁, a₁) (k₂, d₂, c₂, a₂) p q in
    (e.0, ap (λ (x : A × B × C × D). x.0) e.1, ap (λ (x : A × B × C × D). x.1) e.1, ap (λ (x : A × B × C × D). x.2) e.1, ap (λ (x : A × B × C × D). x.3) e.1)

-- ---- every refusal has its number: of the codes, and then of what follows them

pub period_numbered : (num : ℤ) (code : ℕ) → Numbered (period_of_numbers num code)
unfolding period_of_numbers
period_numbered num code = then_numbered (unit_of_code code) _ (place_numbered units code) (λ u. omega arith)

pub note_numbered : (number : NoteNumber) (issue maturity : Date) (coupon : CouponDate) (num : ℤ) (unit rule adjustment denomination : ℕ) (rate : Float) (c : Currency) → Numbered (note_of number issue maturity coupon num unit rule adjustment denomination rate c)
unfolding note_of
note_numbered number issue maturity coupon num unit rule adjustment denomination rate c =
    then_numbered (period_of_numbers num unit) _ (period_numbered num unit)
    (λ p. then_numbered (convention_of_code rule) _ (place_numbered conventions rule)
    (λ convention. then_numbered (adjustment_of_code adjustment) _ (place_numbered adjustments adjustment) (λ adjust. omega arith)))

-- text in lent bytes
pub text_numbered : (d xs : List ℕ) → Numbered (text_in d xs)
unfolding text_in
text_numbered d xs = passed_numbered _ (written_length d xs) (written_numbered d xs)

shown_numbered : (o : Outcome (List ℕ)) (d : List ℕ) → Numbered (and_then o (written_length d)) → Numbered (and_then o (text_in d))
shown_numbered (given xs) d h = text_numbered d xs
shown_numbered (refused n) d h = h

pub decimal_numbered : (x : Float) (d : List ℕ) → Numbered (and_then (decimal_shown x) (text_in d))
decimal_numbered x d = shown_numbered (decimal_shown x) d (decimal.decimal_numbered d x)

pub flow_text_numbered : (f : CashFlow) (d : List ℕ) → Numbered (and_then (flow_shown f) (text_in d))
flow_text_numbered f d = shown_numbered (flow_shown f) d (flow_numbered f d)

-- what follows a period
module _ (num : ℤ) (unit : ℕ) where
  of_period : {A : Type 0} (next : TimePeriod → Outcome A) → ((p : TimePeriod) → Numbered (next p)) → Numbered (and_then (period_of_numbers num unit) next)
  of_period next h = then_numbered (period_of_numbers num unit) next (period_numbered num unit) h

  pub period_text_numbered : (d : List ℕ) → Numbered (and_then (period_of_numbers num unit) (λ p. text_in d (period_text p)))
  period_text_numbered d = of_period _ (λ p. text_numbered d (period_text p))

  pub frequency_face_numbered : Numbered (and_then (period_of_numbers num unit) frequency_of)
  frequency_face_numbered = of_period frequency_of frequency_numbered

  pub add_face_numbered : (h : Holidays) (t : Date) → Numbered (and_then (period_of_numbers num unit) (λ p. add_to p h t))
  add_face_numbered h t = of_period _ (λ p. add_numbered p h t)

  pub sub_face_numbered : (h : Holidays) (t : Date) → Numbered (and_then (period_of_numbers num unit) (λ p. sub_from p h t))
  sub_face_numbered h t = of_period _ (λ p. sub_numbered p h t)

-- what follows an adjustment or a rule
pub adjust_face_numbered : (code : ℕ) (t : Date) (table : List ℕ) → Numbered (and_then (adjustment_of_code code) (λ a. adjust_date a t table))
adjust_face_numbered code t table = then_numbered (adjustment_of_code code) _ (place_numbered adjustments code) (λ a. adjust_numbered a t table)

pub fraction_face_numbered : (rule : ℕ) (start end : Date) (x : NoteTerms) → Numbered (and_then (convention_of_code rule) (λ c. year_fraction fractions_in_f64 c start end x))
fraction_face_numbered rule start end x = then_numbered (convention_of_code rule) _ (place_numbered conventions rule) (λ c. fraction_numbered fractions_in_f64 start end c x)

pub rolled_face_numbered : (rule : ℕ) (num : ℤ) (unit : ℕ) (start end roll : Date) → Numbered (and_then (convention_of_code rule) (λ c. and_then (period_of_numbers num unit) (λ p. year_fraction fractions_in_f64 c start end (rolled_from roll p))))
rolled_face_numbered rule num unit start end roll =
    then_numbered (convention_of_code rule) _ (place_numbered conventions rule) (λ c. of_period num unit _ (λ p. fraction_numbered fractions_in_f64 start end c (rolled_from roll p)))

pub factor_face_numbered : (rate : Float) (rule : ℕ) (c : Currency) (today pay : Date) → Numbered (and_then (convention_of_code rule) (λ x. discount_factor (flat_rate rate x c) today pay))
factor_face_numbered rate rule c today pay = then_numbered (convention_of_code rule) _ (place_numbered conventions rule) (λ x. factor_numbered (flat_rate rate x c) today pay)

pub stream_face_numbered : (rate : Float) (rule : ℕ) (c : Currency) (today : Date) (flows : List CashFlow) → Numbered (and_then (convention_of_code rule) (λ x. discounted_stream (flat_rate rate x c) today flows))
stream_face_numbered rate rule c today flows = then_numbered (convention_of_code rule) _ (place_numbered conventions rule) (λ x. stream_numbered (flat_rate rate x c) today flows)

-- what follows a note
module _ (o : Outcome Note) (h : Numbered o) where
  pub check_face_numbered : Numbered (and_then o (note_checks true true))
  check_face_numbered = then_numbered o _ h (checks_numbered true true)

  pub rollout_face_numbered : (position : Float) (table days : List ℕ) (amounts : List Float) → Numbered (and_then o (λ n. passed_as (flow_rooms days amounts) (fitted n position table days amounts)))
  rollout_face_numbered position table days amounts = then_numbered o _ h (λ n. passed_numbered _ (fitted n position table days amounts) (rollout_numbered n position table _))

  pub accrued_face_numbered : (today : Date) → Numbered (and_then o (λ n. accrued amounts_in_f64 n today))
  accrued_face_numbered today = then_numbered o _ h (λ n. accrued_numbered amounts_in_f64 n today)

  pub write_face_numbered : (table d : List ℕ) → Numbered (and_then o (λ n. and_then (packed_note n table) (text_in d)))
  write_face_numbered table d = then_numbered o _ h (λ n. shown_numbered (packed_note n table) d (write_numbered n table d))

-- flows after a day
pub after_face_numbered : (day : Day) (flows : List PlainFlow) (places : ℕ) (days currencies : List ℕ) (amounts : List Float) → Numbered (passed_as (listed_in days currencies amounts) (listed_written day flows places))
after_face_numbered day flows places days currencies amounts = passed_numbered _ (listed_written day flows places) (listed_numbered day flows places)
