use Rattle.std.proofs.Common.{◌≡◌, ◌∙◌, arith}
use Rattle.std.proofs.lemmas.Grind.{common_steps}
use Rattle.dt_tree.specs.TreeData.{tree_data}
use Rattle.dt_tree.proofs.tree.Tree.copy.Goals as goal

pub returns : goal.returns
returns c =
    let i = c.self.inside in
    let reserves_are : c.extend_from_slice.new.self.items ≡ i.reserves.items = grind (arith, common_steps) in
    (λ j. tree_data (reserves_are j) i.boot_cpu (c.in_ok-root.ensures j)) ∙ c.self.view_is
