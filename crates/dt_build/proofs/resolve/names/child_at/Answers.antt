use Rattle.std.proofs.Common.{is_some, sym, ap, ◌∙◌}
use Rattle.dt_build.proofs.EditLemmas.FragmentSteps.{child-listed, child-unlisted}
use Rattle.dt_build.proofs.resolve.names.child_at.Goals as goal

pub returns-in-Some : goal.returns-in-Some
returns-in-Some c = sym (child-listed c.args.live.now c.requires c.args.name.now (ap is_some (sym c.child.ensures ∙ c.in-Some.is)))

pub returns-in-None : goal.returns-in-None
returns-in-None c = sym (child-unlisted c.args.live.now c.requires c.args.name.now (ap is_some (sym c.child.ensures ∙ c.in-None.is)))
