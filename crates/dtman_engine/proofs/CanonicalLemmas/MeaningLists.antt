-- What a canonical source makes are the lists of its tree.
use Rattle.std.proofs.Common.{◌≡◌, ℕ, List, [], ◌∷◌, ◌++◌, map, Some, None, if◌then◌else◌, refl, sym, ap, ap₂, ◌∙◌, append_assoc}
use Rattle.std.specs.List.{flat_map}
use Rattle.std.proofs.lemmas.List.{map-append}
use Rattle.dt_tree.specs.declared.property.Property.{Property}
use Rattle.dt_tree.specs.NodeData.{Siblings, none, more, NodeData}
use Rattle.dt_tree.specs.PathMap.{path_map}
use Rattle.dt_tree.specs.Preorder.{paths_among}
use Rattle.dt_tree.specs.Sound.{IsSound}
use Rattle.dt_source.specs.TreeMeaning.Paths.{Path}
use Rattle.dt_source.specs.TreeMeaning.Syntax.{Piece}
use Rattle.dt_source.specs.TreeMeaning.Edits.{Definition, definition}
use Rattle.dt_source.specs.TreeMeaning.MapOf.{map_of, value_in}
use Rattle.dt_source.specs.TreeMeaning.References.{held, preorder}
use Rattle.dt_source.specs.TreeMeaning.Resolved.{Resolved}
use Rattle.dt_live.specs.Builder.Lists.{defined_at, below_child, defined_among, lists_of}
use Rattle.dt_live.specs.Builder.Standing.{walked}
use Rattle.dt_live.proofs.BuilderLemmas.Orders.{map-walked}
use Rattle.dt_live.proofs.BuilderLemmas.TreeLists.{map-lists}
use Rattle.dt_live.proofs.BuilderLemmas.TreeNodes.{below-root, map-map, paths-more, paths_below, tree-nodes}
use Rattle.dtman_engine.specs.Canonical.SourceOf.{value_of}
use Rattle.dtman_engine.proofs.CanonicalLemmas.MeaningEdits.{said_at, nodes_below, said_below}

-- ---- the nodes
paths-said : (p : Path) (f : Siblings) → nodes_below p f ≡ paths_below p f
paths-said p none = refl
paths-said p (more n ps c rest) =
    ap₂ (λ xs ys. (p ++ n ∷ []) ∷ (xs ++ ys)) (paths-said (p ++ n ∷ []) c) (paths-said p rest) ∙ sym (paths-more p n ps c rest)

pub nodes-listed : (f : Siblings) → nodes_below [] f ≡ paths_among f
nodes-listed f = paths-said [] f ∙ below-root f

-- ---- the properties
-- a property of a tree, with the path of its node
abbrev pub Placed : Type 0
Placed = Definition (List ℕ)

abbrev pub said_of : Placed → Definition (List Piece)
said_of e = definition e.path e.name (value_of e.value)

abbrev said_from : Path → Placed → Definition (List Piece)
said_from p e = definition (p ++ e.path) e.name (value_of e.value)

own-said : (p : Path) (n : List ℕ) (ps : List Property) → said_at (p ++ n ∷ []) ps ≡ map (said_from p) (map (below_child n) (defined_at [] ps))
own-said p n [] = refl
own-said p n (x ∷ ps) = ap (λ xs. definition (p ++ n ∷ []) x.name (value_of x.value) ∷ xs) (own-said p n ps)

root-said : (ps : List Property) → said_at [] ps ≡ map said_of (defined_at [] ps)
root-said [] = refl
root-said (x ∷ ps) = ap (λ xs. definition [] x.name (value_of x.value) ∷ xs) (root-said ps)

all-said : (p : Path) (f : Siblings) → said_below p f ≡ map (said_from p) (defined_among f)
all-said p none = refl
all-said p (more n ps c rest) =
    let own = defined_at [] ps in
    let below = defined_among c in
    ap₂ (λ xs ys. xs ++ ys) (own-said p n ps)
    (ap₂ (λ xs ys. xs ++ ys)
    (all-said (p ++ n ∷ []) c
    ∙ sym (map-map (said_from p) (below_child n) (said_from (p ++ n ∷ [])) below (λ e. ap (λ q. definition q e.name (value_of e.value)) (sym (append_assoc p (n ∷ []) e.path)))))
    (all-said p rest))
    ∙ sym (append_assoc (map (said_from p) (map (below_child n) own)) (map (said_from p) (map (below_child n) below)) (map (said_from p) (defined_among rest)))
    ∙ ap (λ xs. xs ++ map (said_from p) (defined_among rest))
    (sym (map-append (said_from p) (map (below_child n) own) (map (below_child n) below)) ∙ ap (map (said_from p)) (sym (map-append (below_child n) own below)))
    ∙ sym (map-append (said_from p) (map (below_child n) (own ++ below)) (defined_among rest))

pub properties-listed : (b : NodeData) → said_at [] b.properties ++ said_below [] b.children ≡ map said_of (lists_of b).properties
properties-listed b =
    ap₂ (λ xs ys. xs ++ ys) (root-said b.properties) (all-said [] b.children) ∙ sym (map-append said_of (defined_at [] b.properties) (defined_among b.children))

-- ---- the lists with the properties in order of the walk
module _ (b : NodeData) (sound : IsSound b) where
  abbrev pub in_turn : List Placed
  in_turn = flat_map (held (lists_of b).properties) (preorder (paths_among b.children))

  abbrev pub meant : Resolved
  meant = record { nodes = paths_among b.children; properties = in_turn }

  pub map-meant : path_map b ≡ map_of meant
  map-meant =
      let q = lists_of b in
      let order = map-walked q (tree-nodes b sound) in
      let there : (p : Path) → (map_of q).has p ≡ (map_of (walked q)).has p = λ p. ap (λ m. m.has p) order in
      map-lists b sound
      ∙ (λ i. record {
        has = (map_of q).has;
        properties = λ p. (ap (λ m. m.properties p) order ∙ ap (λ t. if t then Some (map (λ e. e.name) (held in_turn p)) else None) (sym (there p))) i;
        children = (map_of q).children;
        value = λ p n. (ap (λ m. m.value p n) order ∙ ap (λ t. if t then value_in in_turn p n else None) (sym (there p))) i;
      })
