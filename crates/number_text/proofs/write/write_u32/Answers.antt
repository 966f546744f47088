-- A decimal padded to one digit is the shortest: a law of Writers.
use Rattle.number_text.proofs.write.Writers.{padded_one}
use Rattle.number_text.proofs.write.write_u32.Goals as goal

pub returns : goal.returns
returns c = rw (← padded_one c.args.n) c.write_padded.ensures
