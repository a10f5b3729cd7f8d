use Rattle.std.proofs.Common.{refl, sym, ◌∙◌}
use Rattle.dt_tree.specs.Changes.{without_child}
use Rattle.dt_tree.specs.declared.node.changing.Edit.TheVariants.{RemoveChild}
use Rattle.dt_tree.specs.Path.{path_names}
use Rattle.dt_tree.specs.Private.Edits.{change_at, edited}
use Rattle.dt_tree.proofs.CallLaws.{standing, fault-path, child-there, of_nodes, on_ok, answered}
use Rattle.dt_tree.proofs.ChildLaws.{map-cut}
use Rattle.dt_tree.proofs.Places.{inside, found_at}
use Rattle.dt_tree.proofs.tree.Tree.remove_child.Goals as goal

pub returns-clause-removed : goal.returns-clause-removed
returns-clause-removed c =
    let t = c.args.self.now in
    let path = path_names c.args.path.now in
    let k = c.args.name.now in
    let e = RemoveChild c.args.name in
    on_ok c.edit.result _ _ _ _ _ c.edit.ensures.changed c.edit.ensures.answer
    (λ is f. let n = standing t.root path (sym (fault-path e (λ room m. refl) path 64 t.root) ∙ f) in
    of_nodes t c.edit.new.self (change_at path (edited e) t.root) (without_child path k) is (map-cut path t.root n.0 n.1 k (found_at path t.root n.0 (inside t.root c.edit.ensures.sound) n.1).siblings.distinct))

pub returns-clause-answer : goal.returns-clause-answer
returns-clause-answer c =
    let t = c.args.self.now in
    let path = path_names c.args.path.now in
    let e = RemoveChild c.args.name in
    answered e _ _ _ _ c.edit.result refl (fault-path e (λ room m. refl) path 64 t.root) (child-there c.args.name.now e (λ m. refl) path t.root) c.edit.ensures.answer
