-- Names listed in turn, and what stands in another order counted in turn.
use Rattle.std.proofs.Common.{◌≡◌, ℕ, ◌+◌, ◌<◌, Bool, true, List, [], ◌∷◌, ◌++◌, length, get_or, drop, Option, Some, None, Bor, ap, ◌∙◌, arith}
use Rattle.std.specs.Option.{option_map_or}
use Rattle.std.proofs.lemmas.List.{map-append}
use Rattle.dt_tree.specs.NodeData.{Siblings, more, NodeData, node_data}
use Rattle.dt_tree.specs.PathMap.{child_named}
use Rattle.dtman_blobs.specs.Difference.Private.Listed.{listed}
use Rattle.dtman_blobs.specs.Difference.Private.Orders.{moves_below, node_moves, own_moves}
use Rattle.dtman_blobs.specs.Difference.Private.Views.{now_of}
use Rattle.dtman_blobs.proofs.DifferenceLemmas.ListedLemmas.{listed-next}

-- a name that passes is pushed
pub name-next : {A : Type 0} (passes : A → Bool) (made : A → List ℕ) (names after : List (Bor (List ℕ))) (n : Bor (List ℕ)) (items : List A) (i : ℕ) (x : A)
    → after ≡ names ++ n ∷ [] → i < length items → x ≡ get_or items i x → n.now ≡ made x → passes x ≡ true
    → now_of after ++ listed passes made (drop (i + 1) items) ≡ now_of names ++ listed passes made (drop i items)
name-next passes made names after n items i x grown below at is pass =
    ap (λ (l : List (Bor (List ℕ))). now_of l ++ listed passes made (drop (i + 1) items)) grown
    ∙ ap (λ (l : List (List ℕ)). l ++ listed passes made (drop (i + 1) items)) (map-append (λ (b : Bor (List ℕ)). b.now) names (n ∷ []))
    ∙ listed-next passes made (now_of names) items i x n.now below at is pass

module _ (g : Siblings) where
  abbrev pub moves_in_child : NodeData → Option NodeData → ℕ
  moves_in_child b o = option_map_or (λ d. own_moves (node_data b.name b.properties b.children) d + moves_below b.children d.children) o 0

  -- a child that both have is counted with all below it
  pub moves-found : (before after whole : ℕ) (f rest : Siblings) (b d : NodeData) → f ≡ more b.name b.properties b.children rest → child_named g b.name ≡ Some d
      → after ≡ before + node_moves b d → before + moves_below f g ≡ whole → after + moves_below rest g ≡ whole
  moves-found before after whole f rest b d next found is left =
      let here : moves_in_child b (child_named g b.name) ≡ node_moves b d = ap (moves_in_child b) found in
      let there : moves_below f g ≡ moves_in_child b (child_named g b.name) + moves_below rest g = ap (λ (s : Siblings). moves_below s g) next in
      omega arith

  pub moves-missing : (before whole : ℕ) (f rest : Siblings) (b : NodeData) → f ≡ more b.name b.properties b.children rest → child_named g b.name ≡ None
      → before + moves_below f g ≡ whole → before + moves_below rest g ≡ whole
  moves-missing before whole f rest b next missing left =
      let here : moves_in_child b (child_named g b.name) ≡ 0 = ap (moves_in_child b) missing in
      let there : moves_below f g ≡ moves_in_child b (child_named g b.name) + moves_below rest g = ap (λ (s : Siblings). moves_below s g) next in
      omega arith
