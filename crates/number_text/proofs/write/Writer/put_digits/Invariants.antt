use Rattle.std.proofs.Common.{◌≡◌, length}
use Rattle.number_text.specs.write.Writing.{digits, put}
use Rattle.number_text.proofs.write.Writer.put_digits.Given as goal

abbrev pub invariant-loop-i : goal.invariant-loop-i
invariant-loop-i l = record {
  lent : l.self.out.ghost_name ≡ l.initial.self.out.ghost_name;
  size : length l.self.out.now ≡ length l.initial.self.out.now;
  at : l.self.at ≡ l.initial.self.at;
  bytes : put l.self.out.now l.self.at (digits l.i l.rest) ≡ put l.initial.self.out.now l.initial.self.at (digits l.count l.n);
}
