use Rattle.std.proofs.Common.{◌≡◌, refl, ap, sym, ◌∙◌, subst, arith}
use Rattle.std.proofs.lemmas.Grind.{common_steps}
use Rattle.dt_tree.specs.Changes.{IsRefusal}
use Rattle.dt_tree.specs.Merged.{merge_fault, with_merged}
use Rattle.dt_tree.specs.NodeData.{NodeData}
use Rattle.dt_tree.specs.Path.{path_names}
use Rattle.dt_tree.specs.PathMap.{node_at, path_map}
use Rattle.dt_tree.specs.Private.Edits.{change_at, names_in}
use Rattle.dt_tree.specs.Private.Merging.{merge_refusal, merged}
use Rattle.dt_tree.specs.TreeData.{TreeData, tree_data}
use Rattle.dt_tree.proofs.CallLaws.{of_nodes}
use Rattle.dt_tree.proofs.Looks.{change_at-name}
use Rattle.dt_tree.proofs.MergeCall.{refusal, refusal_in, standing_at, handed_on, out_of_memory}
use Rattle.dt_tree.proofs.MergeLaws.{map-merged}
use Rattle.dt_tree.proofs.tree.Tree.merge.Goals as goal

pub returns-in_err-root-clause-fault : goal.returns-in_err-root-clause-fault
returns-in_err-root-clause-fault c =
    let t = c.args.self.now in
    let i = c.self.inside in
    let path = path_names c.args.path.now in
    let b = c.args.node.now in
    let root_is : i.root ≡ t.root = ap (λ (x : TreeData). x.root) c.self.view_is in
    let fault_is : merge_refusal (names_in c.names_between.result) 64 b i.root ≡ merge_fault (path_map t.root) path b =
    ap (λ ns. merge_refusal ns 64 b i.root) c.names_between.ensures ∙ refusal path 64 b i.root c.check.ensures.shallow ∙ ap (λ (r : NodeData). refusal_in path 64 b (node_at r path)) root_is in
    let e = c.in_err-root.field-0.0 in
    handed_on _ _ e c.from_residual.result c.from_residual.ensures.0 c.from_residual.ensures.1 (subst (λ f. IsRefusal f e) fault_is c.in_err-root.ensures.fault)

pub returns-in_err-extend_from_slice-clause-fault : goal.returns-in_err-extend_from_slice-clause-fault
returns-in_err-extend_from_slice-clause-fault c =
    let t = c.args.self.now in
    let i = c.self.inside in
    let path = path_names c.args.path.now in
    let b = c.args.node.now in
    let root_is : i.root ≡ t.root = ap (λ (x : TreeData). x.root) c.self.view_is in
    let fault_is : merge_refusal (names_in c.names_between.result) 64 b i.root ≡ merge_fault (path_map t.root) path b =
    ap (λ ns. merge_refusal ns 64 b i.root) c.names_between.ensures ∙ refusal path 64 b i.root c.check.ensures.shallow ∙ ap (λ (r : NodeData). refusal_in path 64 b (node_at r path)) root_is in
    out_of_memory _ _ c.from_residual-in_err-extend_from_slice.result (sym fault_is ∙ c.in_ok-root.ensures.fault) c.from_residual-in_err-extend_from_slice.ensures.0 c.from_residual-in_err-extend_from_slice.ensures.1

pub invariant_of-result : goal.invariant_of-result
invariant_of-result c =
    let i = c.self.inside in
    let reserves_are : c.extend_from_slice.new.self.items ≡ i.reserves.items = grind (arith, common_steps) in
    record {
      no_end = rw reserves_are c.self.invariant.no_end;
      long = rw reserves_are c.self.invariant.long;
      boot_cpu_fits = c.self.invariant.boot_cpu_fits;
      no_name = ap (λ (x : NodeData). x.name) c.in_ok-root.ensures.merged ∙ change_at-name (names_in c.names_between.result) (λ m. merged m c.args.node.now) (λ m. refl) i.root ∙ c.self.invariant.no_name;
      sound = c.check-2.ensures;
    }

pub returns-clause-merged : goal.returns-clause-merged
returns-clause-merged c =
    let t = c.args.self.now in
    let i = c.self.inside in
    let path = path_names c.args.path.now in
    let b = c.args.node.now in
    let root_is : i.root ≡ t.root = ap (λ (x : TreeData). x.root) c.self.view_is in
    let fault_is : merge_refusal (names_in c.names_between.result) 64 b i.root ≡ merge_fault (path_map t.root) path b =
    ap (λ ns. merge_refusal ns 64 b i.root) c.names_between.ensures ∙ refusal path 64 b i.root c.check.ensures.shallow ∙ ap (λ (r : NodeData). refusal_in path 64 b (node_at r path)) root_is in
    let reserves_are : c.extend_from_slice.new.self.items ≡ i.reserves.items = grind (arith, common_steps) in
    let n = standing_at path 64 b (node_at t.root path) (sym fault_is ∙ c.in_ok-root.ensures.fault) in
    let whole = reserves_are ∙ ap (λ (x : TreeData). x.reserves) c.self.view_is in
    let cpu = ap (λ (x : TreeData). x.boot_cpu) c.self.view_is in
    let root = c.in_ok-root.ensures.merged ∙ (λ j. change_at (c.names_between.ensures j) (λ m. merged m b) (root_is j)) in
    of_nodes t (tree_data c.extend_from_slice.new.self.items i.boot_cpu c.in_ok-root.root) (change_at path (λ m. merged m b) t.root) (with_merged path b) (λ j. tree_data (whole j) (cpu j) (root j)) (map-merged path t.root n.0 n.1 b)

pub returns-clause-fault : goal.returns-clause-fault
returns-clause-fault c =
    let t = c.args.self.now in
    let i = c.self.inside in
    let path = path_names c.args.path.now in
    let b = c.args.node.now in
    let root_is : i.root ≡ t.root = ap (λ (x : TreeData). x.root) c.self.view_is in
    let fault_is : merge_refusal (names_in c.names_between.result) 64 b i.root ≡ merge_fault (path_map t.root) path b =
    ap (λ ns. merge_refusal ns 64 b i.root) c.names_between.ensures ∙ refusal path 64 b i.root c.check.ensures.shallow ∙ ap (λ (r : NodeData). refusal_in path 64 b (node_at r path)) root_is in
    sym fault_is ∙ c.in_ok-root.ensures.fault
