-- `decimal::put_decimal_at` meets its contract: the text of each of the parts. Laws of Answers.
use mathlib.Core.Path.{subst, ap, ◌∙◌}
use Rattle.std.specs.Prelude.{Some}
use Rattle.decimal.specs.float.Parts.{PartsOf}
use Rattle.decimal.proofs.float.Answers.{text_is}
use Rattle.decimal.proofs.float.put_decimal_at.Goals as goal

pub put_small-requires : goal.put_small-requires
put_small-requires c =
    let p = subst (PartsOf c.args.x) (c.unwrap.ensures ∙ ap Some c.in-Small.is) c.parts_of.ensures in
    rw (text_is _ _ _ p.1 p.2) c.requires.room

pub put_large-requires-clause-room : goal.put_large-requires-clause-room
put_large-requires-clause-room c =
    let p = subst (PartsOf c.args.x) (c.unwrap.ensures ∙ ap Some c.in-Large.is) c.parts_of.ensures in
    rw (text_is _ _ _ p.1 p.2) c.requires.room

pub returns-in-Small : goal.returns-in-Small
returns-in-Small c =
    let p = subst (PartsOf c.args.x) (c.unwrap.ensures ∙ ap Some c.in-Small.is) c.parts_of.ensures in
    rw (← text_is _ _ _ p.1 p.2) c.put_small.ensures

pub returns-in-Large : goal.returns-in-Large
returns-in-Large c =
    let p = subst (PartsOf c.args.x) (c.unwrap.ensures ∙ ap Some c.in-Large.is) c.parts_of.ensures in
    rw (← text_is _ _ _ p.1 p.2) c.put_large.ensures
