use Rattle.std.proofs.Common.{◌≡◌, ap, ◌∙◌, arith}
use Rattle.std.proofs.lemmas.Grind.{common_steps}
use Rattle.dt_tree.specs.Phandle.{is_reserved_name}
use Rattle.dt_tree.proofs.node.Node.greatest_in_tree.Goals as goal

pub loop-child-preserved : goal.loop-child-preserved
loop-child-preserved c =
    let is : c.is_reserved_name.result ≡ is_reserved_name c.child-item.result.name = c.is_reserved_name.ensures ∙ ap is_reserved_name c.name_bytes.ensures in
    grind (arith, common_steps, is)
