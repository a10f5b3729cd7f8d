use Rattle.std.proofs.Common.{◌≡◌, ◌∙◌, ◌++◌, if◌then◌else◌, [], ℕ, List, map, true, is_some, Ok, sym, ap, subst}
use Rattle.dt_source.specs.TreeMeaning.Phandles.{given_of}
use Rattle.dt_source.specs.TreeMeaning.References.{found_value, in_order, references}
use Rattle.dt_source.specs.TreeMeaning.Resolved.{names_taken}
use Rattle.dt_tree.specs.Steps.{then_do, each}
use Rattle.dt_live.specs.declared.live_tree.NodeRow.{NodeRow}
use Rattle.dt_live.specs.Rows.{IsNode, is_standing, node_path}
use Rattle.dt_live.proofs.Each.{Each, each-all}
use Rattle.dt_build.specs.Edit.Said.{tree_of}
use Rattle.dt_build.specs.Resolve.NodePhandles.{AreStanding, path_phandle_of}
use Rattle.dt_build.specs.Resolve.Private.Wanted.{HasTaken, labelled_rows, numbered}
use Rattle.dt_build.specs.Resolve.Private.ReadProperty.{read_property}
use Rattle.dt_build.proofs.ResolveLemmas.Faults.{fault-then, fault-same}
use Rattle.dt_build.proofs.ResolveLemmas.Joined.{fault-behind, free-fault, named-paths, named-within}
use Rattle.dt_build.proofs.ResolveLemmas.ReadOrder.{read-order}
use Rattle.dt_build.proofs.resolve.resolving.resolve.Goals as goal

pub returns-in-Err-clause-resolved : goal.returns-in-Err-clause-resolved
returns-in-Err-clause-resolved c =
    let d = c.args.live.now in
    let e = c.in-Err.error.kind in
    let xs = c.args.properties.now in
    let order : map (read_property c.nodes.result.now) xs ≡ in_order (tree_of d) = ap (λ rows. map (read_property rows) xs) c.nodes.ensures ∙ read-order d xs c.requires.definitions in
    free-fault e (names_taken c.args.symbols c.args.plugin (tree_of d)) (then_do (given_of (in_order (tree_of d)) []) (λ _. references c.args.plugin (tree_of d))) (sym c.name_taken.ensures ∙ ap is_some c.in_default.is)
    (fault-then e (given_of (in_order (tree_of d)) []) (λ _. references c.args.plugin (tree_of d))
    (fault-same e (given_of (map (read_property c.nodes.result.now) xs) []) (given_of (in_order (tree_of d)) []) (ap (λ es. given_of es []) (sym order)) c.in-Err.ensures.phandles))

pub returns-in-Err-find_targets-clause-resolved : goal.returns-in-Err-find_targets-clause-resolved
returns-in-Err-find_targets-clause-resolved c =
    let d = c.args.live.now in
    let e = c.in-Err-find_targets.error.kind in
    let xs = c.args.properties.now in
    let order = read-order d xs c.requires.definitions in
    let phandles = map (path_phandle_of c.nodes.result.now) c.in-Ok.given.phandles.items in
    let given : given_of (in_order (tree_of d)) [] ≡ Ok phandles =
    ap (λ es. given_of es []) (sym (ap (λ rows. map (read_property rows) xs) c.nodes.ensures ∙ order)) ∙ c.in-Ok.ensures.phandles in
    free-fault e (names_taken c.args.symbols c.args.plugin (tree_of d)) (then_do (given_of (in_order (tree_of d)) []) (λ _. references c.args.plugin (tree_of d))) (sym c.name_taken.ensures ∙ ap is_some c.in_default.is)
    (fault-behind e (given_of (in_order (tree_of d)) []) (references c.args.plugin (tree_of d)) phandles given
    (fault-same e (each (found_value c.args.plugin (tree_of d)) (map (read_property d.nodes.items) xs)) (references c.args.plugin (tree_of d)) (ap (each (found_value c.args.plugin (tree_of d))) (sym order)) c.in-Err-find_targets.ensures.targets))

pub number_nodes-requires-clause-owners : goal.number_nodes-requires-clause-owners
number_nodes-requires-clause-owners c = subst (λ (rows : List NodeRow). AreStanding rows c.in-Ok.given.phandles.items) c.nodes.ensures c.in-Ok.ensures.owners

pub number_nodes-requires-clause-taken : goal.number_nodes-requires-clause-taken
number_nodes-requires-clause-taken c = subst (λ (rows : List NodeRow). HasTaken rows c.in-Ok.given) c.nodes.ensures c.in-Ok.ensures.taken

pub number_nodes-requires-clause-known : goal.number_nodes-requires-clause-known
number_nodes-requires-clause-known c =
    let d = c.args.live.now in
    let named = c.as_slice-2.ensures.value ∙ c.in_ok-named.ensures ∙ ap (λ (ns : List ℕ). ns ++ (if c.args.symbols then labelled_rows d c.args.order.now else [])) c.as_slice.ensures.value in
    each-all (λ n. IsNode d n) c.as_slice-2.result.now (subst (λ (ns : List ℕ). Each (λ n. IsNode d n) ns) (sym named)
    (named-within (λ n. IsNode d n) d c.args.symbols c.in-Ok-find_targets.targets.cells.items c.args.order.now c.in-Ok-find_targets.ensures.known.known c.requires.known))

pub number_nodes-requires-clause-there : goal.number_nodes-requires-clause-there
number_nodes-requires-clause-there c =
    let d = c.args.live.now in
    let named = c.as_slice-2.ensures.value ∙ c.in_ok-named.ensures ∙ ap (λ (ns : List ℕ). ns ++ (if c.args.symbols then labelled_rows d c.args.order.now else [])) c.as_slice.ensures.value in
    each-all (λ n. is_standing d n ≡ true) c.as_slice-2.result.now (subst (λ (ns : List ℕ). Each (λ n. is_standing d n ≡ true) ns) (sym named)
    (named-within (λ n. is_standing d n ≡ true) d c.args.symbols c.in-Ok-find_targets.targets.cells.items c.args.order.now c.in-Ok-find_targets.ensures.known.there c.requires.there))

pub returns-clause-given : goal.returns-clause-given
returns-clause-given c = subst (λ (rows : List NodeRow). AreStanding rows c.in-Ok.given.phandles.items) c.nodes.ensures c.in-Ok.ensures.owners

pub returns-clause-resolved : goal.returns-clause-resolved
returns-clause-resolved c =
    let d = c.args.live.now in
    let xs = c.args.properties.now in
    let order = read-order d xs c.requires.definitions in
    let given = c.in-Ok.given.phandles.items in
    let t = c.in-Ok-find_targets.targets in
    let found = c.in-Ok-find_targets.ensures.targets in
    let named = c.as_slice-2.ensures.value ∙ c.in_ok-named.ensures ∙ ap (λ (ns : List ℕ). ns ++ (if c.args.symbols then labelled_rows d c.args.order.now else [])) c.as_slice.ensures.value in (
      found.0,
      record {
        free = sym c.name_taken.ensures ∙ ap is_some c.in_default.is;
        given = ap (λ es. given_of es []) (sym (ap (λ rows. map (read_property rows) xs) c.nodes.ensures ∙ order)) ∙ c.in-Ok.ensures.phandles
            ∙ ap (λ (rows : List NodeRow). Ok (map (path_phandle_of rows) given)) c.nodes.ensures;
        found = ap (each (found_value c.args.plugin (tree_of d))) (sym order) ∙ found.1;
        targets = found.2;
        new = c.in_ok-new.ensures.numbers
            ∙ ap (λ ps. numbered (map (path_phandle_of d.nodes.items) given) 0 ps) (ap (map (node_path d)) named ∙ named-paths d c.requires.sound found.0 t found.2 c.args.symbols c.args.order.now c.requires.there c.requires.nodes);
      },
    )
