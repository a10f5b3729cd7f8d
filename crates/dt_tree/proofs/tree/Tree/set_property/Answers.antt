use Rattle.std.proofs.Common.{refl, sym, ◌∙◌}
use Rattle.dt_tree.specs.Changes.{IsRefusal, path_fault, with_property}
use Rattle.dt_tree.specs.declared.node.changing.Edit.TheVariants.{SetProperty}
use Rattle.dt_tree.specs.Path.{path_names}
use Rattle.dt_tree.specs.PathMap.{path_map}
use Rattle.dt_tree.specs.Private.Edits.{change_at, edited}
use Rattle.dt_tree.proofs.CallLaws.{standing, fault-path, of_nodes, refused, passed_on}
use Rattle.dt_tree.proofs.ChangeLaws.{map-set}
use Rattle.dt_tree.proofs.tree.Tree.set_property.Goals as goal

pub returns-in_err-edit-clause-fault : goal.returns-in_err-edit-clause-fault
returns-in_err-edit-clause-fault c =
    let e = SetProperty (record { name = c.args.name; value = c.args.value }) in
    passed_on _ (IsRefusal (path_fault (path_map c.args.self.now.root) (path_names c.args.path.now))) c.in_err-edit.field-0.0 c.from_residual.result c.from_residual.ensures.0 c.from_residual.ensures.1
    (refused e _ _ c.in_err-edit.field-0.0 (fault-path e (λ room m. refl) (path_names c.args.path.now) 64 c.args.self.now.root) c.in_err-edit.ensures.answer)

pub returns-clause-set : goal.returns-clause-set
returns-clause-set c =
    let t = c.args.self.now in
    let path = path_names c.args.path.now in
    let e = SetProperty (record { name = c.args.name; value = c.args.value }) in
    let n = standing t.root path (sym (fault-path e (λ room m. refl) path 64 t.root) ∙ c.in_ok-edit.ensures.answer.0) in
    of_nodes t c.edit.new.self (change_at path (edited e) t.root) (with_property path c.args.name c.args.value) c.in_ok-edit.ensures.changed (map-set path t.root n.0 n.1 c.args.name c.args.value)

pub returns-clause-fault : goal.returns-clause-fault
returns-clause-fault c =
    let e = SetProperty (record { name = c.args.name; value = c.args.value }) in
    sym (fault-path e (λ room m. refl) (path_names c.args.path.now) 64 c.args.self.now.root) ∙ c.in_ok-edit.ensures.answer.0
