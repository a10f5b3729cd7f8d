use Rattle.std.proofs.Common.{sym, ap, ◌∙◌}
use Rattle.dt_source.specs.TreeMeaning.DtcStatements.{is_first}
use Rattle.dt_live.specs.Placed.PlacedTrees.{child_path}
use Rattle.dt_build.specs.Edit.Said.{pieces}
use Rattle.dt_build.specs.Edit.Private.DtcEdited.{placed_of}
use Rattle.dt_build.proofs.edit.dtc_child.make_child.Goals as goal

pub returns-in-Ok-make_node-clause-begins : goal.returns-in-Ok-make_node-clause-begins
returns-in-Ok-make_node-clause-begins c =
    c.in-Ok-make_node.ensures.begins pieces ∙ ap (λ b. is_first b (child_path c.args.placed.now c.args.node c.args.name.now) (placed_of c.args.placed.now)) (sym c.if-first.false)
