-- The loop keeps: v is at most `most`, and reading the bytes left behind v comes to the same as
-- reading all. Each way out is one law of Decimals.
use Prim.Native.Nat.{ℕ, ◌+◌, ◌*◌}
use mathlib.Core.Path.{◌≡◌}
use native.Mathlib.Omega.{arith}
use lib.ListN.{drop}
use Rattle.std.proofs.Common.{rules, tests}
use Rattle.number_text.specs.read.Reading.{decimal_number}
use Rattle.number_text.proofs.read.Decimals.{remaining, remaining_whole, decimal_empty, remaining_bad, remaining_more, remaining_past, remaining_end, digit_yes, digit_no}
use Rattle.number_text.proofs.read.read_decimal.Goals as goal
use Rattle.number_text.proofs.read.read_decimal.Goals.{After-from}

-- what is left after one digit more
more : (g : _) (c : After-from g) (n : ℕ) → remaining c.args.most n (c.loop-b.v * 10 + c.from.result) (drop (c.loop-b.b-index + 1) c.args.s.now) ≡ decimal_number c.args.most n c.args.s.now
more g c n = rw (c.from.ensures) (remaining_more _ _ _ c.loop-b.b-index c.args.s.now _ (c.loop-b.invariant.1 n) (omega arith) (digit_yes _ (omega (arith, c.if-not-is_ascii_digit.ensures.cases)) (omega (arith, c.if-not-is_ascii_digit.ensures.cases))))

pub returns-then-is_empty : goal.returns-then-is_empty
returns-then-is_empty g c = λ f. decimal_empty _ _ _ (search (rules, tests))

pub loop-b-init : goal.loop-b-init
loop-b-init g c = (omega arith, λ n. remaining_whole _ _ _ (search (rules, tests)))

pub returns-then-not-is_ascii_digit : goal.returns-then-not-is_ascii_digit
returns-then-not-is_ascii_digit g c = λ f. remaining_bad _ _ _ c.loop-b.b-index c.args.s.now _ (c.loop-b.invariant.1 _) (omega arith) (digit_no _ (λ l h. omega (arith, c.if-not-is_ascii_digit.ensures.cases)))

pub returns-then-limit-v : goal.returns-then-limit-v
returns-then-limit-v g c = λ f. remaining_past _ _ _ _ _ (more g (goal.at.returns-then-limit-v g c).After-from _) (omega (arith, c.from-limit.ensures))

pub loop-b-preserved : goal.loop-b-preserved
loop-b-preserved g c = (omega (arith, c.from-limit.ensures), more g (goal.at.loop-b-preserved g c).After-from)

pub returns : goal.returns
returns g c = λ f. remaining_end _ _ _ c.loop-b.b-index c.args.s.now _ (c.loop-b.invariant.1 (f c.args.refusal)) (omega arith) c.loop-b.invariant.0
