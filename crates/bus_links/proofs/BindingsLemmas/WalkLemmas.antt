-- A walk over a tree, node by node.
use Rattle.std.proofs.Common.{◌≡◌, ◌∙◌, ap, sym, ℕ, ◌≤◌, List, length, drop}
use Rattle.std.proofs.lemmas.List.{at_drop_all}
use Rattle.dt_tree.specs.NodeData.{Siblings, more, NodeData, siblings}
use Rattle.dt_tree.specs.Private.PhandleWalk.{unreserved}
use Rattle.bus_links.specs.Bindings.LinkNodes.{Above, Met, here, with_node, with_siblings}
use Rattle.bus_links.specs.Bindings.Private.Walk.{with_tree}

-- the node itself, and then those below it
pub walk-begin : (above : Above) (met : Met) (b : NodeData) (below : Above) (after : Met) (f : Siblings) → below ≡ here above met b.properties → after ≡ with_node above met b.name b.properties
    → f ≡ b.children → with_siblings below after f ≡ with_tree above met b
walk-begin above met b below after f is met_it all =
    ap (λ (a : Above). with_siblings a after f) is ∙ ap (λ (m : Met). with_siblings (here above met b.properties) m f) met_it
    ∙ ap (λ (g : Siblings). with_siblings (here above met b.properties) (with_node above met b.name b.properties) g) all

-- one of several nodes
pub walk-next : (above : Above) (before after whole : Met) (f rest : Siblings) (b : NodeData) → f ≡ more b.name b.properties b.children rest → after ≡ with_tree above before b
    → with_siblings above before f ≡ whole → with_siblings above after rest ≡ whole
walk-next above before after whole f rest b next is left =
    ap (λ (m : Met). with_siblings above m rest) is ∙ ap (λ (g : Siblings). with_siblings above before g) (sym next) ∙ left

-- nothing is left
pub walk-last : (above : Above) (before whole : Met) (bs : List NodeData) (i : ℕ) → length bs ≤ i → with_siblings above before (siblings (drop i bs)) ≡ whole → before ≡ whole
walk-last above before whole bs i h left = sym (at_drop_all (λ ds. with_siblings above before (siblings ds)) bs i h) ∙ left

pub walk-last-top : (above : Above) (before whole : Met) (bs : List NodeData) (i : ℕ) → length bs ≤ i → with_siblings above before (unreserved (siblings (drop i bs))) ≡ whole → before ≡ whole
walk-last-top above before whole bs i h left = sym (at_drop_all (λ ds. with_siblings above before (unreserved (siblings ds))) bs i h) ∙ left
