use Rattle.std.proofs.Common.{refl, sym, ap, ◌∙◌, is_some}
use Rattle.dt_tree.proofs.Places.{child-among}
use Rattle.dt_patch.proofs.adding.check_free.Goals as goal

pub returns-in-Ok-None : goal.returns-in-Ok-None
returns-in-Ok-None c = λ d s. sym (child-among d.children c.args.name.now) ∙ ap is_some (rw c.in-Ok-None.field-0-is at (c.in-Ok-None.ensures.stands d s))

pub returns-in-Ok-Some : goal.returns-in-Ok-Some
returns-in-Ok-Some c = λ d s.
    let f = rw c.in-Ok-Some.field-0-is at (c.in-Ok-Some.ensures.stands d s) in
    (refl, sym (child-among d.children c.args.name.now) ∙ ap is_some f.1)

pub returns-in-Err : goal.returns-in-Err
returns-in-Err c = λ d s. absurd (c.in-Err.ensures.stands d s)
