-- One step down a path.
use Rattle.std.proofs.Common.{◌≡◌, ℕ, ◌+◌, ◌<◌, ◌≤◌, List, length, get_or, drop, Option, Some, None, option_and_then, ap, sym, ◌∙◌}
use Rattle.std.proofs.lemmas.List.{at_drop_more, at_drop_all}
use Rattle.dt_tree.specs.NodeData.{NodeData}
use Rattle.dt_check.specs.Links.Aliases.{below, at_names}

pub names-step : (all : List (List ℕ)) (i : ℕ) (k : List ℕ) (b : NodeData) → (i < length all) × (k ≡ get_or all i k)
    → at_names b (drop i all) ≡ option_and_then (λ c. at_names c (drop (i + 1) all)) (below k b)
names-step all i k b h = at_drop_more (at_names b) all i k h.0 ∙ ap (λ (x : List ℕ). option_and_then (λ c. at_names c (drop (i + 1) all)) (below x b)) (sym h.1)

pub names-none : (all : List (List ℕ)) (i : ℕ) (k : List ℕ) (b : NodeData) → (i < length all) × (k ≡ get_or all i k) → below k b ≡ None → at_names b (drop i all) ≡ None
names-none all i k b h e = names-step all i k b h ∙ ap (λ (o : Option NodeData). option_and_then (λ c. at_names c (drop (i + 1) all)) o) e

pub names-some : (all : List (List ℕ)) (i : ℕ) (k : List ℕ) (b child : NodeData) → (i < length all) × (k ≡ get_or all i k) → below k b ≡ Some child → at_names b (drop i all) ≡ at_names child (drop (i + 1) all)
names-some all i k b child h e = names-step all i k b h ∙ ap (λ (o : Option NodeData). option_and_then (λ c. at_names c (drop (i + 1) all)) o) e

pub names-end : (all : List (List ℕ)) (i : ℕ) (b : NodeData) → length all ≤ i → at_names b (drop i all) ≡ Some b
names-end all i b h = at_drop_all (at_names b) all i h
