use Rattle.std.proofs.Common.{◌≡◌, ◌∙◌, true, map, Ok, sym, ap}
use Rattle.dt_tree.specs.Steps.{each}
use Rattle.dt_source.specs.TreeMeaning.References.{found_value, references}
use Rattle.dt_live.specs.Rows.{node_path}
use Rattle.dt_build.specs.Edit.Said.{tree_of}
use Rattle.dt_build.specs.Resolve.Founds.{found_properties}
use Rattle.dt_build.specs.Resolve.Private.ReadProperty.{read_property}
use Rattle.dt_build.proofs.ResolveLemmas.Faults.{fault-same}
use Rattle.dt_build.proofs.ResolveLemmas.FoundProperties.{properties-found}
use Rattle.dt_build.proofs.ResolveLemmas.Gathering.{anew-among, fixed-fault, fixed-true}
use Rattle.dt_build.proofs.ResolveLemmas.ReadOrder.{read-order}
use Rattle.dt_build.proofs.resolve.gathered.find_anew.Goals as goal

pub returns-in-Ok : goal.returns-in-Ok
returns-in-Ok c found =
    let d = c.args.live.now in
    let xs = c.args.rest.now.in_preorder.properties.items in
    let slice = c.as_slice.result.now in
    let ts = c.in-Ok.targets.all.items in
    let f = c.in-Ok.ensures.targets in
    let read = ap (map (read_property d.nodes.items)) c.as_slice.ensures.value ∙ read-order d xs c.requires.order.properties in
    let is = properties-found true (tree_of d) d.nodes.items slice f.0 f.1 ts f.2.all ∙ ap (λ ys. found_properties (node_path d) ys ts) c.as_slice.ensures.value in
    let all : references true (tree_of d) ≡ Ok (found_properties (node_path d) xs ts) = ap (each (found_value true (tree_of d))) (sym read) ∙ f.1 ∙ ap (λ es. Ok es) is in
    record {
      fixed = fixed-true c.args.plugin (tree_of d) (found_properties (node_path d) xs ts) c.if-not-plugin.false all;
      targets = c.in-Ok.ensures.known.all_known;
      among = λ test up all. anew-among d test up ts c.in-Ok.ensures.known.all_known c.in-Ok.ensures.known.all_there;
    }

pub returns-in-Err : goal.returns-in-Err
returns-in-Err c found =
    let d = c.args.live.now in
    let xs = c.args.rest.now.in_preorder.properties.items in
    let slice = c.as_slice.result.now in
    let read = ap (map (read_property d.nodes.items)) c.as_slice.ensures.value ∙ read-order d xs c.requires.order.properties in
    fixed-fault c.args.plugin (tree_of d) c.in-Err.error.kind c.if-not-plugin.false
    (fault-same c.in-Err.error.kind (each (found_value true (tree_of d)) (map (read_property d.nodes.items) slice)) (references true (tree_of d)) (ap (each (found_value true (tree_of d))) (sym read)) c.in-Err.ensures.targets)
