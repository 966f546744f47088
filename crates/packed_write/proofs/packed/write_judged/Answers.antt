-- `packed_write::write_judged` meets its contract: 16, or the whole record.
use Prim.Native.Nat.{ℕ}
use mathlib.Core.Path.{ap}
use mathlib.Core.List.{List}
use native.Mathlib.Omega.{arith}
use Rattle.number_text.proofs.write.Writers.{written_fits, written_refused, wrote_is}
use Rattle.packed_write.specs.numbers.Numbers.{numbers_of}
use Rattle.packed_write.specs.packed.Fields.{numbers_bytes}
use Rattle.packed_write.proofs.packed.Fields.{bytes-length}
use Rattle.business_days.proofs.table.Table.{table-most}
use Rattle.packed_write.proofs.packed.write_judged.Goals as goal

pub record_bytes-requires : goal.record_bytes-requires
record_bytes-requires c = table-most c.args.table.now c.requires.1

pub returns-then-out-record_bytes : goal.returns-then-out-record_bytes
returns-then-out-record_bytes c = written_refused c.args.out.now _ (omega (arith, bytes-length (numbers_of c.args.note) c.args.table.now, c.record_bytes.ensures, c.if-out-record_bytes.true))

pub returns : goal.returns
returns c =
    let t = c.args.table.now in
    written_fits c.args.out.now _ _ _ (wrote_is _ _ _ _ _ _ c.put_record.ensures (ap (λ (ns : List ℕ). numbers_bytes ns t) c.numbers_from_note-numbers.ensures))
    (omega (arith, bytes-length (numbers_of c.args.note) t, c.record_bytes.ensures, c.if-out-record_bytes.false))
