use Rattle.dt_overlay.proofs.FixupLemmas.TextLaws.{ended-is}
use Rattle.dt_overlay.proofs.fixup.texts.ended_path.Goals as goal

pub returns-then-is_path-clause-text : goal.returns-then-is_path-clause-text
returns-then-is_path-clause-text c = ended-is c.args.value.now c.in-Some.text.now c.in-Some.ensures
