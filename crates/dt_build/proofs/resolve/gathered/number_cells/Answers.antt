use Rattle.std.proofs.Common.{◌≡◌, ◌∙◌, [], map, Ok, sym, ap}
use Rattle.dt_tree.specs.Steps.{each, then_do}
use Rattle.dt_source.specs.TreeMeaning.Phandles.{named_in_cells}
use Rattle.dt_source.specs.TreeMeaning.References.{found_value, references}
use Rattle.dt_source.specs.TreeMeaning.DtcPhandles.{given_by_both}
use Rattle.dt_live.specs.Rows.{node_path}
use Rattle.dt_build.specs.Edit.Said.{tree_of}
use Rattle.dt_build.specs.Resolve.Founds.{found_properties}
use Rattle.dt_build.specs.Resolve.Private.GivenByBoth.{given_all}
use Rattle.dt_build.specs.Resolve.Private.ReadProperty.{read_property}
use Rattle.dt_build.specs.Resolve.Private.Wanted.{numbered, phandles_of}
use Rattle.dt_build.proofs.ResolveLemmas.Faults.{fault-same, fault-then}
use Rattle.dt_build.proofs.ResolveLemmas.FoundProperties.{properties-found, targets_in}
use Rattle.dt_build.proofs.ResolveLemmas.ReadOrder.{read-order}
use Rattle.dt_build.proofs.resolve.gathered.number_cells.Goals as goal

pub returns-in-Err : goal.returns-in-Err
returns-in-Err c =
    let d = c.args.live.now in
    let e = c.in-Err.error.kind in
    let xs = c.in_ok-in_preorder.in_preorder.properties.items in
    let read = ap (map (read_property d.nodes.items)) c.as_slice-properties.ensures.value ∙ read-order d xs c.in_ok-in_preorder.ensures.properties in
    fault-then e (references c.args.plugin (tree_of d)) (λ es. given_by_both es [])
    (fault-same e (each (found_value c.args.plugin (tree_of d)) (map (read_property d.nodes.items) c.as_slice-properties.result.now)) (references c.args.plugin (tree_of d)) (ap (each (found_value c.args.plugin (tree_of d))) (sym read)) c.in-Err.ensures.targets)

pub returns-in-Err-given_by_both : goal.returns-in-Err-given_by_both
returns-in-Err-given_by_both c =
    let d = c.args.live.now in
    let e = c.in-Err-given_by_both.error.kind in
    let xs = c.in_ok-in_preorder.in_preorder.properties.items in
    let slice = c.as_slice-properties.result.now in
    let ts = c.in-Ok.targets.all.items in
    let found = c.in-Ok.ensures.targets in
    let read = ap (map (read_property d.nodes.items)) c.as_slice-properties.ensures.value ∙ read-order d xs c.in_ok-in_preorder.ensures.properties in
    let is = properties-found c.args.plugin (tree_of d) d.nodes.items slice found.0 found.1 ts found.2.all in
    let all : references c.args.plugin (tree_of d) ≡ Ok (found_properties (node_path d) slice ts) =
    ap (each (found_value c.args.plugin (tree_of d))) (sym read) ∙ found.1 ∙ ap (λ es. Ok es) is in
    fault-same e (given_all d slice ts []) (then_do (references c.args.plugin (tree_of d)) (λ es. given_by_both es [])) (ap (λ r. then_do r (λ es. given_by_both es [])) all)
    (fault-same e (given_all d slice c.as_slice.result.now []) (given_all d slice ts []) (ap (λ us. given_all d slice us []) (sym c.as_slice.ensures.value)) c.in-Err-given_by_both.ensures.phandles)

pub returns : goal.returns
returns c =
    let d = c.args.live.now in
    let xs = c.in_ok-in_preorder.in_preorder.properties.items in
    let slice = c.as_slice-properties.result.now in
    let ts = c.in-Ok.targets.all.items in
    let found = c.in-Ok.ensures.targets in
    let at : slice ≡ xs = c.as_slice-properties.ensures.value in
    let read = read-order d xs c.in_ok-in_preorder.ensures.properties in
    let is : found.0 ≡ found_properties (node_path d) xs ts =
    properties-found c.args.plugin (tree_of d) d.nodes.items slice found.0 found.1 ts found.2.all ∙ ap (λ ys. found_properties (node_path d) ys ts) at in
    let given = phandles_of d.nodes.items c.in-Ok-given_by_both.given in
    record {
      order = record {
        nodes = c.in_ok-in_preorder.ensures.nodes;
        known = c.in_ok-in_preorder.ensures.known;
        there = c.in_ok-in_preorder.ensures.there;
        properties = c.in_ok-in_preorder.ensures.properties;
        owners = c.in_ok-in_preorder.ensures.owners;
        stand = c.in_ok-in_preorder.ensures.stand;
        targets = c.in-Ok.ensures.known.all_known;
      };
      there = c.in-Ok.ensures.known.all_there;
      named = found.2.all ∙ ap targets_in is;
      found = ap (each (found_value c.args.plugin (tree_of d))) (sym (ap (map (read_property d.nodes.items)) at ∙ read)) ∙ found.1 ∙ ap (λ es. Ok es) is;
      given = ap (λ ys. given_all d ys ts []) (sym at) ∙ ap (λ us. given_all d slice us []) (sym c.as_slice.ensures.value) ∙ c.in-Ok-given_by_both.ensures.phandles;
      owners = c.in-Ok-given_by_both.ensures.owners;
      of_cells = c.in_ok-of_cells.ensures.numbers
          ∙ ap (numbered given 0) (ap (map (node_path d)) c.as_slice-2.ensures.value ∙ found.2.cells ∙ ap named_in_cells is);
      numbered = c.in_ok-of_cells.ensures.stand;
    }
