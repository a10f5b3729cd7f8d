use Rattle.std.proofs.Common.{sym, ◌∙◌}
use Rattle.dt_tree.specs.Changes.{IsRefusal, child_fault, with_child}
use Rattle.dt_tree.specs.declared.node.changing.Edit.TheVariants.{AddChild}
use Rattle.dt_tree.specs.Path.{path_names}
use Rattle.dt_tree.specs.PathMap.{path_map}
use Rattle.dt_tree.specs.Private.Edits.{change_at, edited}
use Rattle.dt_tree.proofs.CallLaws.{free, fault-child, of_nodes, refused, passed_on}
use Rattle.dt_tree.proofs.ChildLaws.{map-grown}
use Rattle.dt_tree.proofs.tree.Tree.add_child.Goals as goal

pub returns-in_err-edit-clause-fault : goal.returns-in_err-edit-clause-fault
returns-in_err-edit-clause-fault c =
    let e = AddChild c.args.alloc c.args.name in
    passed_on _ (IsRefusal (child_fault (path_map c.args.self.now.root) (path_names c.args.path.now) c.args.name)) c.in_err-edit.field-0.0 c.from_residual.result c.from_residual.ensures.0 c.from_residual.ensures.1
    (refused e _ _ c.in_err-edit.field-0.0 (fault-child c.args.alloc c.args.name (path_names c.args.path.now) 64 c.args.self.now.root c.in_err-edit.ensures.sound.shallow) c.in_err-edit.ensures.answer)

pub returns-clause-added : goal.returns-clause-added
returns-clause-added c =
    let t = c.args.self.now in
    let path = path_names c.args.path.now in
    let e = AddChild c.args.alloc c.args.name in
    let n = free t.root path c.args.name (sym (fault-child c.args.alloc c.args.name path 64 t.root c.in_ok-edit.ensures.sound.shallow) ∙ c.in_ok-edit.ensures.answer.0) in
    of_nodes t c.edit.new.self (change_at path (edited e) t.root) (with_child path c.args.name) c.in_ok-edit.ensures.changed (map-grown path t.root n.0 n.1 c.args.name n.2)

pub returns-clause-fault : goal.returns-clause-fault
returns-clause-fault c = sym (fault-child c.args.alloc c.args.name (path_names c.args.path.now) 64 c.args.self.now.root c.in_ok-edit.ensures.sound.shallow) ∙ c.in_ok-edit.ensures.answer.0
