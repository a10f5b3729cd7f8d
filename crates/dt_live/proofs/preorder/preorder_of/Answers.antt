use Rattle.std.proofs.Common.{◌≡◌, sym, subst, length, map, refl, ap, ap₂, ◌∙◌, arith}
use Rattle.std.specs.List.{flat_map}
use Rattle.dt_tree.specs.declared.limits.TheConstants.{MAX_DEPTH}
use Rattle.dt_source.specs.TreeMeaning.References.{held}
use Rattle.dt_live.specs.Index.{row_of}
use Rattle.dt_live.specs.Rows.{path_of, stands, standing_properties, property_at}
use Rattle.dt_live.specs.Private.Walks.{children_to, node_property_at, properties_to, rows_walk}
use Rattle.dt_live.proofs.Each.{Each, each-all}
use Rattle.dt_live.proofs.KidSteps.{node_property-nodes}
use Rattle.dt_live.proofs.Orders.{Stands, in-preorder, order-stands, as_standing, all-held}
use Rattle.dt_live.proofs.preorder.preorder_of.Goals as goal

pub properties_in_preorder-requires-clause-known : goal.properties_in_preorder-requires-clause-known
properties_in_preorder-requires-clause-known g c i below =
    omega (arith, c.requires.known i, ap (λ rs. (property_at rs i).node) c.properties.ensures, ap length c.nodes-2.ensures)

pub properties_in_preorder-requires-clause-nodes : goal.properties_in_preorder-requires-clause-nodes
properties_in_preorder-requires-clause-nodes g c k d below =
    let da = c.args.live.now in
    let rows = da.nodes.items in
    let order : c.as_slice.result.now ≡ rows_walk MAX_DEPTH (children_to rows (length rows)) 0 =
    c.as_slice.ensures.value ∙ c.in_ok-nodes.ensures ∙ ap (λ rs. rows_walk MAX_DEPTH (children_to rs (length rs)) 0) c.nodes.ensures in
    let all = order-stands rows (row_of da.node_rows) c.requires.grown c.requires.nodes MAX_DEPTH c.as_slice.result.now order in
    omega (arith, ap length c.nodes-2.ensures, (each-all (Stands rows (row_of da.node_rows) c.requires.grown c.requires.nodes) c.as_slice.result.now all k d below).0)

pub returns-clause-nodes : goal.returns-clause-nodes
returns-clause-nodes g c =
    let da = c.args.live.now in
    let rows = da.nodes.items in
    in-preorder rows (row_of da.node_rows) c.requires.grown c.requires.nodes MAX_DEPTH c.in_ok-nodes.nodes.items refl
    (c.in_ok-nodes.ensures ∙ ap (λ rs. rows_walk MAX_DEPTH (children_to rs (length rs)) 0) c.nodes.ensures)

pub returns-clause-known : goal.returns-clause-known
returns-clause-known g c k d below =
    let da = c.args.live.now in
    let rows = da.nodes.items in
    let order = c.in_ok-nodes.ensures ∙ ap (λ rs. rows_walk MAX_DEPTH (children_to rs (length rs)) 0) c.nodes.ensures in
    let all = order-stands rows (row_of da.node_rows) c.requires.grown c.requires.nodes MAX_DEPTH c.in_ok-nodes.nodes.items order in
    (each-all (Stands rows (row_of da.node_rows) c.requires.grown c.requires.nodes) c.in_ok-nodes.nodes.items all k d below).0

pub returns-clause-there : goal.returns-clause-there
returns-clause-there g c k d below =
    let da = c.args.live.now in
    let rows = da.nodes.items in
    let order = c.in_ok-nodes.ensures ∙ ap (λ rs. rows_walk MAX_DEPTH (children_to rs (length rs)) 0) c.nodes.ensures in
    let all = order-stands rows (row_of da.node_rows) c.requires.grown c.requires.nodes MAX_DEPTH c.in_ok-nodes.nodes.items order in
    (each-all (Stands rows (row_of da.node_rows) c.requires.grown c.requires.nodes) c.in_ok-nodes.nodes.items all k d below).1

pub returns-clause-owners : goal.returns-clause-owners
returns-clause-owners g c k d below =
    let da = c.args.live.now in
    let rows = da.nodes.items in
    let ps = da.properties.items in
    let nodes = c.in_ok-nodes.nodes.items in
    let Up = Stands rows (row_of da.node_rows) c.requires.grown c.requires.nodes in
    let order = c.in_ok-nodes.ensures ∙ ap (λ rs. rows_walk MAX_DEPTH (children_to rs (length rs)) 0) c.nodes.ensures in
    let all = order-stands rows (row_of da.node_rows) c.requires.grown c.requires.nodes MAX_DEPTH nodes order in
    let node_property = c.in_ok-properties.ensures ∙ ap₂ (λ rs ns. flat_map (λ n. flat_map (node_property_at rs) (properties_to rs (length rs) n)) ns) c.properties.ensures c.as_slice.ensures.value in
    (each-all (λ x. Up x.node) c.in_ok-properties.properties.items (subst (λ xs. Each (λ x. Up x.node) xs) (sym node_property) (node_property-nodes ps Up nodes all)) k d below).0

pub returns-clause-stand : goal.returns-clause-stand
returns-clause-stand g c k d below =
    let da = c.args.live.now in
    let rows = da.nodes.items in
    let ps = da.properties.items in
    let nodes = c.in_ok-nodes.nodes.items in
    let Up = Stands rows (row_of da.node_rows) c.requires.grown c.requires.nodes in
    let order = c.in_ok-nodes.ensures ∙ ap (λ rs. rows_walk MAX_DEPTH (children_to rs (length rs)) 0) c.nodes.ensures in
    let all = order-stands rows (row_of da.node_rows) c.requires.grown c.requires.nodes MAX_DEPTH nodes order in
    let node_property = c.in_ok-properties.ensures ∙ ap₂ (λ rs ns. flat_map (λ n. flat_map (node_property_at rs) (properties_to rs (length rs) n)) ns) c.properties.ensures c.as_slice.ensures.value in
    (each-all (λ x. Up x.node) c.in_ok-properties.properties.items (subst (λ xs. Each (λ x. Up x.node) xs) (sym node_property) (node_property-nodes ps Up nodes all)) k d below).1

pub returns-clause-properties : goal.returns-clause-properties
returns-clause-properties g c =
    let da = c.args.live.now in
    let rows = da.nodes.items in
    let ps = da.properties.items in
    let nodes = c.in_ok-nodes.nodes.items in
    let order = c.in_ok-nodes.ensures ∙ ap (λ rs. rows_walk MAX_DEPTH (children_to rs (length rs)) 0) c.nodes.ensures in
    let all = order-stands rows (row_of da.node_rows) c.requires.grown c.requires.nodes MAX_DEPTH nodes order in
    ap (map (as_standing rows (row_of da.node_rows) c.requires.grown c.requires.nodes ps))
    (c.in_ok-properties.ensures ∙ ap₂ (λ rs ns. flat_map (λ n. flat_map (node_property_at rs) (properties_to rs (length rs) n)) ns) c.properties.ensures c.as_slice.ensures.value)
    ∙ all-held rows (row_of da.node_rows) c.requires.grown c.requires.nodes ps nodes all
    ∙ ap (flat_map (held (standing_properties (path_of rows) (stands rows) ps))) (in-preorder rows (row_of da.node_rows) c.requires.grown c.requires.nodes MAX_DEPTH nodes refl order)
