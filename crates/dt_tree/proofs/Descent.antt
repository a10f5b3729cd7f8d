-- One step down a path.
use Rattle.std.proofs.Common.{◌≡◌, ℕ, ◌+◌, ◌<◌, ◌≤◌, List, length, get_or, drop, Option, Some, None, option_and_then, ap, sym, ◌∙◌}
use Rattle.std.proofs.lemmas.List.{at_drop_more, at_drop_all}
use Rattle.dt_tree.specs.NodeData.{NodeData}
use Rattle.dt_tree.specs.PathMap.{child_named, node_at}

pub node_at-step : (all : List (List ℕ)) (i : ℕ) (k : List ℕ) (b : NodeData) → (i < length all) × (k ≡ get_or all i k)
    → node_at b (drop i all) ≡ option_and_then (λ c. node_at c (drop (i + 1) all)) (child_named b.children k)
node_at-step all i k b h = at_drop_more (node_at b) all i k h.0 ∙ ap (λ (x : List ℕ). option_and_then (λ c. node_at c (drop (i + 1) all)) (child_named b.children x)) (sym h.1)

pub node_at-none : (all : List (List ℕ)) (i : ℕ) (k : List ℕ) (b : NodeData) → (i < length all) × (k ≡ get_or all i k) → child_named b.children k ≡ None → node_at b (drop i all) ≡ None
node_at-none all i k b h e = node_at-step all i k b h ∙ ap (λ (o : Option NodeData). option_and_then (λ c. node_at c (drop (i + 1) all)) o) e

pub node_at-some : (all : List (List ℕ)) (i : ℕ) (k : List ℕ) (b child : NodeData) → (i < length all) × (k ≡ get_or all i k) → child_named b.children k ≡ Some child → node_at b (drop i all) ≡ node_at child (drop (i + 1) all)
node_at-some all i k b child h e = node_at-step all i k b h ∙ ap (λ (o : Option NodeData). option_and_then (λ c. node_at c (drop (i + 1) all)) o) e

pub node_at-end : (all : List (List ℕ)) (i : ℕ) (b : NodeData) → length all ≤ i → node_at b (drop i all) ≡ Some b
node_at-end all i b h = at_drop_all (node_at b) all i h
