-- `decimal::decimal_length` meets its contract: a length for each of the parts. Laws of Answers.
use mathlib.Core.Path.{subst, ap, ◌∙◌}
use Rattle.std.specs.Prelude.{Some}
use Rattle.decimal.specs.float.Parts.{PartsOf}
use Rattle.decimal.proofs.float.Answers.{length-given, length-refused}
use Rattle.decimal.proofs.float.decimal_length.Goals as goal

pub returns-in_default : goal.returns-in_default
returns-in_default c = length-refused _ (subst (PartsOf c.args.x) c.in_default.is c.parts_of.ensures)

pub returns-in-Small : goal.returns-in-Small
returns-in-Small c =
    let p = subst (PartsOf c.args.x) (c.in-Some.is ∙ ap Some c.in-Small.is) c.parts_of.ensures in
    length-given _ _ _ _ p.0 p.1 p.2 c.small_length.ensures

pub returns-in-Large : goal.returns-in-Large
returns-in-Large c =
    let p = subst (PartsOf c.args.x) (c.in-Some.is ∙ ap Some c.in-Large.is) c.parts_of.ensures in
    length-given _ _ _ _ p.0 p.1 p.2 c.large_length.ensures
