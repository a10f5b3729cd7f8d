-- A walk over a tree, node by node.
use Rattle.std.proofs.Common.{◌≡◌, ◌∙◌, ap, sym, ℕ, ◌+◌, ◌<◌, ◌≤◌, List, ◌∷◌, length, drop, get_or, Option}
use Rattle.std.proofs.lemmas.List.{at_drop_all, at_drop_more}
use Rattle.dt_tree.specs.NodeData.{Siblings, more, NodeData, siblings}
use Rattle.dt_check.specs.Nodes.{PlacedData, with_siblings, with_tree}

-- the next of several nodes
pub next-node : (bs : List NodeData) (i : ℕ) (b : NodeData) → i < length bs → b ≡ get_or bs i b
    → siblings (drop i bs) ≡ more b.name b.properties b.children (siblings (drop (i + 1) bs))
next-node bs i b h e = at_drop_more siblings bs i b h ∙ ap (λ (x : NodeData). siblings (x ∷ drop (i + 1) bs)) (sym e)

-- one of several nodes
pub walk-next : (above : Option ℕ) (before after whole : List PlacedData) (f rest : Siblings) (b : NodeData) → f ≡ more b.name b.properties b.children rest → after ≡ with_tree above before b
    → with_siblings above before f ≡ whole → with_siblings above after rest ≡ whole
walk-next above before after whole f rest b next is left =
    ap (λ (m : List PlacedData). with_siblings above m rest) is ∙ ap (λ (g : Siblings). with_siblings above before g) (sym next) ∙ left

-- nothing is left
pub walk-last : (above : Option ℕ) (before whole : List PlacedData) (bs : List NodeData) (i : ℕ) → length bs ≤ i → with_siblings above before (siblings (drop i bs)) ≡ whole → before ≡ whole
walk-last above before whole bs i h left = sym (at_drop_all (λ ds. with_siblings above before (siblings ds)) bs i h) ∙ left
