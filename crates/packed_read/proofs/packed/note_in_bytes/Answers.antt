-- `packed_read::note_in_bytes` meets its contract: 18, or the note is judged.
use Prim.Native.Nat.{ℕ}
use mathlib.Core.Path.{◌≡◌, sym, subst, ◌∙◌}
use mathlib.Core.Bool.{true, true≢false}
use native.Mathlib.Omega.{arith}
use lib.ListN.{take}
use Rattle.packed_read.specs.table.Tables.{days_from, is_whole}
use Rattle.packed_read.proofs.table.Tables.{whole_long}
use Rattle.packed_read.proofs.packed.Reading.{bytes_short, bytes_whole}
use Rattle.packed_read.proofs.packed.note_in_bytes.Goals as goal

pub returns-then-not-is_whole : goal.returns-then-not-is_whole
returns-then-not-is_whole c =
    let e = sym c.is_whole.ensures ∙ c.if-not-is_whole.true in
    (bytes_short c.args.s.now e, λ p. absurd (true≢false (sym p.0 ∙ e)))

pub table_count-n-requires : goal.table_count-n-requires
table_count-n-requires c =
    let whole : is_whole c.args.s.now ≡ true = sym c.is_whole.ensures ∙ c.if-not-is_whole.false in
    whole_long c.args.s.now whole

pub read_numbers-numbers-requires : goal.read_numbers-numbers-requires
read_numbers-numbers-requires c =
    let whole : is_whole c.args.s.now ≡ true = sym c.is_whole.ensures ∙ c.if-not-is_whole.false in
    omega (arith, whole_long c.args.s.now whole)

pub returns : goal.returns
returns c =
    let whole : is_whole c.args.s.now ≡ true = sym c.is_whole.ensures ∙ c.if-not-is_whole.false in
    let s = c.args.s.now in
    let d = c.is_table_in-taken in (
      c.note_from_numbers.ensures ∙ bytes_whole s _ _ whole c.read_numbers-numbers.ensures d.ensures.0,
      λ p. subst (λ (k : ℕ). take k d.new.days ≡ days_from s 0 k) c.table_count-n.ensures.0 (d.ensures.1 (d.ensures.0 ∙ p.1)),
    )
