-- One byte stored: laws of Putting.
use mathlib.Core.Path.{refl}
use native.Mathlib.Omega.{arith}
use lib.ListN.{length-set}
use Rattle.number_text.proofs.write.Putting.{put_one}
use Rattle.number_text.proofs.write.Writer.put.Goals as goal

pub returns : goal.returns
returns c = record { lent = refl; size = simp length-set refl; at = refl; bytes = put_one _ _ _ (omega arith) }
