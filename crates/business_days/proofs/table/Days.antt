-- What the next and the previous business day are: the nearest one on its side, or none up to the
-- calendar's end.
use Prim.Native.Nat.{ℕ, zero, suc, ◌+◌, ◌-◌, ◌*◌, ◌/◌, ◌%◌, ◌≤◌, ◌<◌}
use mathlib.Core.Path.{◌≡◌, refl, sym, ap, ◌∙◌}
use mathlib.Core.Bool.{Bool, true, false, not, or-true, true≢false}
use mathlib.Core.List.{List}
use native.Mathlib.Omega.{arith}
use native.Mathlib.Decide.{dec_lt}
use lib.Dec.{leb}
use borrow.Author.Tests.{le-leb, lt-leb}
use Rattle.outcome.proofs.Outcomes.{given_not_refused, Only}
use Rattle.outcome.specs.Outcome.{Outcome, given, refused, and_then}
use Rattle.calendar.specs.serial.Answers.{weekday_of}
use Rattle.calendar.specs.declared.dates.Day.{Day}
use Rattle.calendar.proofs.dates.Dates.{day_is}
use Rattle.business_days.specs.table.Table.{is_listed}
use Rattle.business_days.specs.table.Business.{serial_day, is_weekend, is_business, first_of, next_from, last_of, prev_from, later_from, earlier_from}
use Rattle.business_days.proofs.table.Steps.{one_last, all_steps, all_refused}

-- the weekday of a day of the calendar, from its serial day
pub weekend_is : (n : ℕ) → 1 ≤ n → n ≤ 3652059 → is_weekend n ≡ leb 6 ((n + 6) % 7 + 1)
unfolding is_weekend weekday_of
weekend_is n h k = rw (day_is (serial_day n) h k)

-- the same without a division: the part of 2 ^ 32 that a multiplication by its seventh leaves tells
-- the remainder
part_left : (m : ℕ) → m ≤ 3652065 → m * 613566757 % 4294967296 ≡ 3 * (m / 7) + m % 7 * 613566757
part_left m h = omega arith

pub weekend_by_part : (n : ℕ) → 1 ≤ n → n ≤ 3652059 → leb 3067833785 ((n + 6) * 613566757 % 4294967296) ≡ is_weekend n
weekend_by_part n h k = by (dec_lt ((n + 6) % 7) 5) ∙ sym (weekend_is n h k)
  where
    by : Dec ((n + 6) % 7 < 5) → leb 3067833785 ((n + 6) * 613566757 % 4294967296) ≡ leb 6 ((n + 6) % 7 + 1)
    by (yes l) = lt-leb 3067833785 ((n + 6) * 613566757 % 4294967296) (omega (arith, part_left (n + 6) (omega arith))) ∙ sym (lt-leb 6 ((n + 6) % 7 + 1) (omega arith))
    by (no l) = le-leb 3067833785 ((n + 6) * 613566757 % 4294967296) (omega (arith, part_left (n + 6) (omega arith))) ∙ sym (le-leb 6 ((n + 6) % 7 + 1) (omega arith))

pub shut_weekend : (t : List ℕ) (n : ℕ) → is_weekend n ≡ true → is_business t n ≡ false
unfolding is_business
shut_weekend t n e = rw e

pub shut_listed : (t : List ℕ) (n : ℕ) → is_listed n t ≡ true → is_business t n ≡ false
unfolding is_business
shut_listed t n e = rw e (ap not (or-true (is_weekend n)))

pub business_is : (t : List ℕ) (n : ℕ) → is_weekend n ≡ false → is_listed n t ≡ false → is_business t n ≡ true
unfolding is_business
business_is t n e f = rw (e, f)

-- forwards, a day at a time
abbrev pub choose : Bool → Day → Outcome Day → Outcome Day
choose b d o = elim b as (λ x. Outcome Day) [ true ↦ given d | false ↦ o ]

module _ (t : List ℕ) (n : ℕ) where
  pub next-none : 3652059 ≤ n → next_from t n ≡ refused 1
  unfolding next_from first_of
  next-none h = ap (λ (l : ℕ). first_of l t (n + 1)) (let z : 3652059 - n ≡ 0 = omega arith in z)

  next_turn : n < 3652059 → next_from t n ≡ choose (is_business t (n + 1)) (serial_day (n + 1)) (next_from t (n + 1))
  unfolding next_from first_of
  next_turn h = ap (λ (l : ℕ). first_of l t (n + 1)) (let z : 3652059 - n ≡ suc (3652059 - (n + 1)) = omega arith in z)

  pub next_here : n < 3652059 → is_business t (n + 1) ≡ true → next_from t n ≡ given (serial_day (n + 1))
  next_here h e = next_turn h ∙ ap (λ (b : Bool). choose b (serial_day (n + 1)) (next_from t (n + 1))) e

  pub next-on : n < 3652059 → is_business t (n + 1) ≡ false → next_from t n ≡ next_from t (n + 1)
  next-on h e = next_turn h ∙ ap (λ (b : Bool). choose b (serial_day (n + 1)) (next_from t (n + 1))) e

  -- and backwards
  pub prev_none : n ≤ 1 → prev_from t n ≡ refused 1
  unfolding prev_from last_of
  prev_none h = ap (last_of t) (let z : n - 1 ≡ 0 = omega arith in z)

  prev_turn : 1 < n → prev_from t n ≡ choose (is_business t (n - 1)) (serial_day (n - 1)) (prev_from t (n - 1))
  unfolding prev_from last_of
  prev_turn h = by (n - 1) (omega arith)
    where
      by : (m : ℕ) → 0 < m → last_of t m ≡ choose (is_business t m) (serial_day m) (last_of t (m - 1))
      by zero k = absurd (omega arith)
      by (suc m) k = ap (λ (j : ℕ). choose (is_business t (suc m)) (serial_day (suc m)) (last_of t j)) (let z : m ≡ suc m - 1 = omega arith in z)

  pub prev_here : 1 < n → is_business t (n - 1) ≡ true → prev_from t n ≡ given (serial_day (n - 1))
  prev_here h e = prev_turn h ∙ ap (λ (b : Bool). choose b (serial_day (n - 1)) (prev_from t (n - 1))) e

  pub prev_on : 1 < n → is_business t (n - 1) ≡ false → prev_from t n ≡ prev_from t (n - 1)
  prev_on h e = prev_turn h ∙ ap (λ (b : Bool). choose b (serial_day (n - 1)) (prev_from t (n - 1))) e

-- no day from a up to b, b left out, is a business day
abbrev pub Shut : List ℕ → ℕ → ℕ → Type 0
Shut t a b = (x : ℕ) → a ≤ x → x < b → is_business t x ≡ false

-- the next business day: later, of the calendar, a business day, and none lies between
pub record NextDay (t : List ℕ) (n e : ℕ) : Type 0 where
  pub later : n < e
  pub dated : e ≤ 3652059
  pub business : is_business t e ≡ true
  pub between : Shut t (n + 1) e

-- the previous business day: earlier, of the calendar, a business day, and none lies between
pub record PrevDay (t : List ℕ) (n e : ℕ) : Type 0 where
  pub earlier : e < n
  pub dated : 1 ≤ e
  pub business : is_business t e ≡ true
  pub between : Shut t (e + 1) n

-- refused with 1, and only where no later, or no earlier, day of the calendar is a business day
pub record NoNext (t : List ℕ) (n m : ℕ) : Type 0 where
  pub number : m ≡ 1
  pub none : Shut t (n + 1) 3652060

pub record NoPrev (t : List ℕ) (n m : ℕ) : Type 0 where
  pub number : m ≡ 1
  pub none : Shut t 1 n

module _ (t : List ℕ) where
  -- one day more at either end
  shut_from : (a b : ℕ) → is_business t a ≡ false → Shut t (a + 1) b → Shut t a b
  shut_from a b e s x h k = by (dec_lt a x)
    where
      by : Dec (a < x) → is_business t x ≡ false
      by (yes d) = s x (omega arith) k
      by (no d) = ap (is_business t) (let z : x ≡ a = omega arith in z) ∙ e

  shut_to : (a b : ℕ) → is_business t b ≡ false → Shut t a b → Shut t a (b + 1)
  shut_to a b e s x h k = by (dec_lt x b)
    where
      by : Dec (x < b) → is_business t x ≡ false
      by (yes d) = s x h d
      by (no d) = ap (is_business t) (let z : x ≡ b = omega arith in z) ∙ e

  -- of the l days from n on
  record First (l n e : ℕ) : Type 0 where
    pub from : n ≤ e
    pub to : e < n + l
    pub business : is_business t e ≡ true
    pub before : Shut t n e

  first_gives : (l n : ℕ) (e : Day) → first_of l t n ≡ given e → First l n e.0
  unfolding first_of
  first_gives zero n e g = absurd (given_not_refused (sym g))
  first_gives (suc l) n e g = by (is_business t n) refl g (first_gives l (n + 1) e)
    where
      by : (b : Bool) → is_business t n ≡ b → choose b (serial_day n) (first_of l t (n + 1)) ≡ given e → (first_of l t (n + 1) ≡ given e → First l (n + 1) e.0) → First (suc l) n e.0
      by true q f r =
          let i : serial_day n ≡ e = cc in
          let j : n ≡ e.0 = ap (λ (d : Day). d.0) i in
          record { from = omega arith; to = omega arith; business = ap (is_business t) (sym j) ∙ q; before = λ x h k. absurd (omega arith) }
      by false q f r =
          let s = r f in
          record { from = omega (arith, s.from); to = omega (arith, s.to); business = s.business; before = shut_from n e.0 q s.before }

  first_refuses : (l n m : ℕ) → first_of l t n ≡ refused m → (m ≡ 1) × Shut t n (n + l)
  unfolding first_of
  first_refuses zero n m g = (let z : 1 ≡ m = cc in sym z, λ x h k. absurd (omega arith))
  first_refuses (suc l) n m g = by (is_business t n) refl g (first_refuses l (n + 1) m)
    where
      by : (b : Bool) → is_business t n ≡ b → choose b (serial_day n) (first_of l t (n + 1)) ≡ refused m → (first_of l t (n + 1) ≡ refused m → (m ≡ 1) × Shut t (n + 1) (n + 1 + l)) → (m ≡ 1) × Shut t n (n + suc l)
      by true q f r = absurd (given_not_refused f)
      by false q f r = ((r f).0, shut_from n (n + suc l) q (λ x h k. (r f).1 x h (omega arith)))

  -- of the days up to n
  last_gives : (n : ℕ) (e : Day) → last_of t n ≡ given e → PrevDay t (n + 1) e.0
  unfolding last_of
  last_gives zero e g = absurd (given_not_refused (sym g))
  last_gives (suc n) e g = by (is_business t (suc n)) refl g (last_gives n e)
    where
      by : (b : Bool) → is_business t (suc n) ≡ b → choose b (serial_day (suc n)) (last_of t n) ≡ given e → (last_of t n ≡ given e → PrevDay t (n + 1) e.0) → PrevDay t (suc n + 1) e.0
      by true q f r =
          let i : serial_day (suc n) ≡ e = cc in
          let j : suc n ≡ e.0 = ap (λ (d : Day). d.0) i in
          record { earlier = omega arith; dated = omega arith; business = ap (is_business t) (sym j) ∙ q; between = λ x h k. absurd (omega arith) }
      by false q f r =
          let s = r f in
          record { earlier = omega (arith, s.earlier); dated = s.dated; business = s.business; between = shut_to (e.0 + 1) (suc n) q (λ x h k. s.between x h (omega arith)) }

  last_refuses : (n m : ℕ) → last_of t n ≡ refused m → NoPrev t (n + 1) m
  unfolding last_of
  last_refuses zero m g = record { number = let z : 1 ≡ m = cc in sym z; none = λ x h k. absurd (omega arith) }
  last_refuses (suc n) m g = by (is_business t (suc n)) refl g (last_refuses n m)
    where
      by : (b : Bool) → is_business t (suc n) ≡ b → choose b (serial_day (suc n)) (last_of t n) ≡ refused m → (last_of t n ≡ refused m → NoPrev t (n + 1) m) → NoPrev t (suc n + 1) m
      by true q f r = absurd (given_not_refused f)
      by false q f r = record { number = (r f).number; none = shut_to 1 (suc n) q (λ x h k. (r f).none x h (omega arith)) }

  pub next_gives : (n : ℕ) (e : Day) → next_from t n ≡ given e → NextDay t n e.0
  unfolding next_from
  next_gives n e g =
      let s = first_gives (3652059 - n) (n + 1) e g in
      record { later = omega (arith, s.from); dated = omega (arith, s.from, s.to); business = s.business; between = s.before }

  pub next_refuses : (n m : ℕ) → next_from t n ≡ refused m → NoNext t n m
  unfolding next_from
  next_refuses n m g =
      let s = first_refuses (3652059 - n) (n + 1) m g in
      record { number = s.0; none = λ x h k. s.1 x h (omega arith) }

  pub prev_gives : (n : ℕ) (e : Day) → prev_from t n ≡ given e → PrevDay t n e.0
  unfolding prev_from
  prev_gives n e g =
      let s = last_gives (n - 1) e g in
      record { earlier = omega (arith, s.earlier, s.dated); dated = s.dated; business = s.business; between = λ x h k. s.between x h (omega arith) }

  pub prev_refuses : (n m : ℕ) → prev_from t n ≡ refused m → NoPrev t n m
  unfolding prev_from
  prev_refuses n m g =
      let s = last_refuses (n - 1) m g in
      record { number = s.number; none = λ x h k. s.none x h (omega arith) }

  clash : (x : ℕ) → is_business t x ≡ true → is_business t x ≡ false → ⊥
  clash x p q = true≢false (sym p ∙ q)

  -- there is one nearest day only
  pub next_found : (n e : ℕ) → NextDay t n e → next_from t n ≡ given (serial_day e)
  next_found n e s = by (next_from t n) refl
    where
      by : (o : Outcome Day) → next_from t n ≡ o → o ≡ given (serial_day e)
      by (refused m) g = absurd (clash e s.business ((next_refuses n m g).none e (omega (arith, s.later)) (omega (arith, s.dated))))
      by (given d) g =
          let u = next_gives n d g in
          let early : d.0 < e → ⊥ = λ l. clash d.0 u.business (s.between d.0 (omega (arith, u.later)) l) in
          let late : e < d.0 → ⊥ = λ l. clash e s.business (u.between e (omega (arith, s.later)) l) in
          ap (λ (x : ℕ). given (serial_day x)) (let z : d.0 ≡ e = omega (arith, early, late) in z)

  pub prev_found : (n e : ℕ) → PrevDay t n e → prev_from t n ≡ given (serial_day e)
  prev_found n e s = by (prev_from t n) refl
    where
      by : (o : Outcome Day) → prev_from t n ≡ o → o ≡ given (serial_day e)
      by (refused m) g = absurd (clash e s.business ((prev_refuses n m g).none e s.dated s.earlier))
      by (given d) g =
          let u = prev_gives n d g in
          let early : d.0 < e → ⊥ = λ l. clash e s.business (u.between e (omega arith) s.earlier) in
          let late : e < d.0 → ⊥ = λ l. clash d.0 u.business (s.between d.0 (omega arith) u.earlier) in
          ap (λ (x : ℕ). given (serial_day x)) (let z : d.0 ≡ e = omega (arith, early, late) in z)

-- a business day of the calendar that lies later, or earlier: where any number of steps but 0 leads
pub record LaterDay (t : List ℕ) (n e : ℕ) : Type 0 where
  pub later : n < e
  pub dated : e ≤ 3652059
  pub business : is_business t e ≡ true

pub record EarlierDay (t : List ℕ) (n e : ℕ) : Type 0 where
  pub earlier : e < n
  pub dated : 1 ≤ e
  pub business : is_business t e ≡ true

module _ (t : List ℕ) (k n : ℕ) where
  pub later_gives : (e : Day) → 0 < k → later_from t k n ≡ given e → LaterDay t n e.0
  later_gives e h g = all_steps (next_from t) (LaterDay t) one join k n e h g
    where
      one : (n : ℕ) (e : Day) → next_from t n ≡ given e → LaterDay t n e.0
      one n e g = let s = next_gives t n e g in record { later = s.later; dated = s.dated; business = s.business }

      join : (a b c : ℕ) → LaterDay t a b → LaterDay t b c → LaterDay t a c
      join a b c u v = record { later = omega (arith, u.later, v.later); dated = v.dated; business = v.business }

  pub earlier_gives : (e : Day) → 0 < k → earlier_from t k n ≡ given e → EarlierDay t n e.0
  earlier_gives e h g = all_steps (prev_from t) (EarlierDay t) one join k n e h g
    where
      one : (n : ℕ) (e : Day) → prev_from t n ≡ given e → EarlierDay t n e.0
      one n e g = let s = prev_gives t n e g in record { earlier = s.earlier; dated = s.dated; business = s.business }

      join : (a b c : ℕ) → EarlierDay t a b → EarlierDay t b c → EarlierDay t a c
      join a b c u v = record { earlier = omega (arith, u.earlier, v.earlier); dated = v.dated; business = v.business }

  -- the only refusal is 1
  pub later_refuses : Only 1 (later_from t k n)
  later_refuses = all_refused (next_from t) 1 (λ x j f. (next_refuses t x j f).number) k n

  pub earlier_refuses : Only 1 (earlier_from t k n)
  earlier_refuses = all_refused (prev_from t) 1 (λ x j f. (prev_refuses t x j f).number) k n

  -- one step more
  pub later_more : later_from t (k + 1) n ≡ and_then (later_from t k n) (λ e. next_from t e.0)
  later_more = one_last (next_from t) k n

  pub earlier_more : earlier_from t (k + 1) n ≡ and_then (earlier_from t k n) (λ e. prev_from t e.0)
  earlier_more = one_last (prev_from t) k n
