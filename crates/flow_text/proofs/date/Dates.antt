-- The text of a date: how long it is, and which answers the tests leave.
use Prim.Native.Nat.{ℕ, ◌≤◌, ◌<◌, ◌^◌, max}
use mathlib.Core.Path.{◌≡◌, ap, ◌∙◌}
use mathlib.Core.Bool.{true, false}
use mathlib.Core.List.{[], ◌∷◌, ◌++◌}
use lib.ListN.{length, length-append}
use Rattle.outcome.specs.Outcome.{given, refused}
use Rattle.number_text.specs.write.Writing.{digits, places, padded_text, HasRoom, Puts}
use Rattle.number_text.specs.declared.write.Writer.{Writer}
use Rattle.number_text.proofs.write.Putting.{puts_then, room_first, room_then}
use Rattle.calendar.specs.dates.Dates.{is_date}
use Rattle.calendar.specs.declared.dates.Date.{Date}
use Rattle.flow_text.specs.date.DateTexts.{date_text, date_shown}
use native.Mathlib.Omega.{arith}
use Rattle.number_text.proofs.length.Digits.{length_digits, places_least}
use Rattle.calendar.proofs.dates.Dates.{date-yes}
use Rattle.calendar.proofs.gregorian.Months.{at_most}

-- ---- a date that exists: every number of its has as many digits as it is padded to

padded_few : (k n : ℕ) → 1 ≤ k → n < 10 ^ k → padded_text k n ≡ digits k n
unfolding padded_text
padded_few k n h l = let e : max k (places n) ≡ k = omega (arith, places_least k n h l) in rw (e)

pub date-digits : (t : Date) → is_date t ≡ true → date_text t ≡ digits 4 t.year ++ ((45 ∷ digits 2 t.month) ++ (45 ∷ digits 2 t.day))
unfolding date_text
date-digits t h =
    let d = date-yes t h in
    let most = at_most t.year t.month in
    rw (padded_few 4 t.year (omega arith) (omega arith), padded_few 2 t.month (omega arith) (omega arith), padded_few 2 t.day (omega arith) (omega arith))

pub month_day_long : (m d : ℕ) → length ((45 ∷ digits 2 m) ++ (45 ∷ digits 2 d)) ≡ 6
month_day_long m d = omega (arith, length-append (45 ∷ digits 2 m) (45 ∷ digits 2 d), length_digits 2 m, length_digits 2 d)

pub date_long : (t : Date) → is_date t ≡ true → length (date_text t) ≡ 10
date_long t h =
    let rest = (45 ∷ digits 2 t.month) ++ (45 ∷ digits 2 t.day) in
    ap length (date-digits t h) ∙ omega (arith, length-append (digits 4 t.year) rest, length_digits 4 t.year, month_day_long t.month t.day)

-- its parts written one after the other
pub date_puts : (u a b c d v : Writer) (t : Date) → is_date t ≡ true → HasRoom u (date_text t) → Puts u a (digits 4 t.year) → Puts a b (45 ∷ []) → Puts b c (digits 2 t.month) → Puts c d (45 ∷ []) → Puts d v (digits 2 t.day) → Puts u v (date_text t)
date_puts u a b c d v t h room p q r s o =
    let month = 45 ∷ digits 2 t.month in
    let day = 45 ∷ digits 2 t.day in
    let all : HasRoom u (digits 4 t.year ++ (month ++ day)) = rw (date-digits t h) at room in
    let rest = room_then u a (digits 4 t.year) (month ++ day) p all in
    let first = puts_then a b c (45 ∷ []) (digits 2 t.month) q r (room_first a month day rest) in
    let last = puts_then c d v (45 ∷ []) (digits 2 t.day) s o (room_then a c month day first rest) in
    rw (date-digits t h) (puts_then u a v (digits 4 t.year) (month ++ day) p (puts_then a c v month day first last rest) all)

-- ---- a date

pub date-given : (t : Date) → is_date t ≡ true → date_shown t ≡ given (date_text t)
unfolding date_shown
date-given t h = rw (h)

pub date-refused : (t : Date) → is_date t ≡ false → date_shown t ≡ refused 1
unfolding date_shown
date-refused t h = rw (h)
