-- The steps of a tree builder over its fields.
use Rattle.std.proofs.Common.{◌≡◌, ℕ, ◌-◌, ◌<◌, true, false, List, [], ◌∷◌, ◌++◌, length, map, take, refl, sym, ap, ◌∙◌, subst, append_assoc, arith}
use Rattle.std.proofs.lemmas.Bool.Decides.{nat_tests}
use Rattle.std.proofs.lemmas.List.{map-append, length-map}
use Rattle.dt_tree.specs.declared.limits.TheConstants.{MAX_DEPTH}
use Rattle.dt_tree.specs.declared.property.Property.{Property}
use Rattle.dt_tree.specs.Fault.{are_named}
use Rattle.dt_tree.specs.Name.{is_name}
use Rattle.dt_tree.specs.NodeData.{NodeData, node_data, none, property_names}
use Rattle.dt_tree.specs.Sound.{are_distinct}
use Rattle.dt_source.specs.TreeMeaning.Paths.{is_listed}
use Rattle.dt_live.specs.declared.builder.node_builder.NodeBuilder.{NodeBuilder}
use Rattle.dt_live.specs.Builder.Lists.{lists_of, with_last}
use Rattle.dt_live.specs.Builder.Private.NodeBuilders.{node_so_far}
use Rattle.dt_live.specs.Builder.Builders.{tree_of, last_path, is_filled, IsTreeBuilder}
use Rattle.dt_live.proofs.BuilderLemmas.Chains.{named-all, joined, tree-joined, joined-builder, last_node-joined, IsWhole, last-whole, more-builder, last_node-more, last_node-length, lists-more, tree-fresh}

abbrev pub viewed : List NodeBuilder → NodeBuilder → List NodeData
viewed above last = map node_so_far above ++ node_so_far last ∷ []

pub levels : (above : List NodeBuilder) (last : NodeBuilder) → length (last_path (viewed above last)) ≡ length above
levels above last = last_node-length (map node_so_far above) (node_so_far last) ∙ length-map above node_so_far

-- one above the other
two : (above init : List NodeBuilder) (parent last : NodeBuilder) → above ≡ init ++ parent ∷ [] → viewed above last ≡ map node_so_far init ++ node_so_far parent ∷ node_so_far last ∷ []
two above init parent last e =
    ap (λ xs. viewed xs last) e ∙ ap (λ xs. xs ++ node_so_far last ∷ []) (map-append node_so_far init (parent ∷ []))
    ∙ append_assoc (map node_so_far init) (node_so_far parent ∷ []) (node_so_far last ∷ [])

pub whole : (above : List NodeBuilder) (last : NodeBuilder) → IsTreeBuilder (viewed above last) → IsWhole (node_so_far last)
whole above last a = last-whole (map node_so_far above) (node_so_far last) a

pub named : (last : NodeBuilder) → IsWhole (node_so_far last) → are_named last.children.items ≡ true
named last w = named-all last.children.items ∙ w.children.named

-- the last node gets no more children
module _ (above init : List NodeBuilder) (parent last next : NodeBuilder) (e : above ≡ init ++ parent ∷ []) (made : node_so_far next ≡ joined (node_so_far parent) (node_so_far last)) where
  joined-view : viewed init next ≡ map node_so_far init ++ joined (node_so_far parent) (node_so_far last) ∷ []
  joined-view = ap (λ b. map node_so_far init ++ b ∷ []) made

  pub close-builder : IsTreeBuilder (viewed above last) → IsTreeBuilder (viewed init next)
  close-builder a =
      subst IsTreeBuilder (sym joined-view) (joined-builder (node_so_far parent) (node_so_far last) (map node_so_far init) (subst IsTreeBuilder (two above init parent last e) a))

  pub close-tree : tree_of (viewed init next) ≡ tree_of (viewed above last)
  close-tree = ap tree_of joined-view ∙ tree-joined (node_so_far parent) (node_so_far last) (map node_so_far init) ∙ ap tree_of (sym (two above init parent last e))

  pub close-last_node : last_path (viewed init next) ≡ take (length (last_path (viewed above last)) - 1) (last_path (viewed above last))
  close-last_node =
      ap last_path joined-view ∙ last_node-joined (node_so_far parent) (node_so_far last) (map node_so_far init)
      ∙ ap (λ bs. take (length (last_path bs) - 1) (last_path bs)) (sym (two above init parent last e))

-- a node more
filled : (n : List ℕ) → is_name n ≡ true → is_filled n ≡ true
filled [] e = absurd (cc e)
filled (x ∷ xs) e = grind (arith, nat_tests)

module _ (above more : List NodeBuilder) (last next : NodeBuilder) (name : List ℕ) (ps : List Property) (e : more ≡ above ++ last ∷ []) (made : node_so_far next ≡ node_data name ps none) where
  new : NodeData
  new = node_data name ps none

  grown : viewed more next ≡ map node_so_far above ++ node_so_far last ∷ new ∷ []
  unfolding new
  grown = two more above last next e ∙ ap (λ b. map node_so_far above ++ node_so_far last ∷ b ∷ []) made

  pub grow-builder : is_name name ≡ true → are_distinct (property_names ps) ≡ true → length (last_path (viewed above last)) < MAX_DEPTH
      → is_listed (last_path (viewed above last) ++ name ∷ []) (lists_of (tree_of (viewed above last))).nodes ≡ false → IsTreeBuilder (viewed above last) → IsTreeBuilder (viewed more next)
  unfolding new
  grow-builder is_named differ low fresh a =
      subst IsTreeBuilder (sym grown)
      (more-builder (node_so_far last) new refl (map node_so_far above) (filled name is_named) differ (tree-fresh (node_so_far last) name (map node_so_far above) fresh)
      (omega (arith, last_node-length (map node_so_far above) (node_so_far last), low)) a)

  pub grow-last_node : last_path (viewed more next) ≡ last_path (viewed above last) ++ name ∷ []
  unfolding new
  grow-last_node = ap last_path grown ∙ last_node-more (node_so_far last) new refl (map node_so_far above)

  pub grow-lists : lists_of (tree_of (viewed more next)) ≡ with_last (last_path (viewed above last) ++ name ∷ []) ps (lists_of (tree_of (viewed above last)))
  unfolding new
  grow-lists = ap (λ bs. lists_of (tree_of bs)) grown ∙ lists-more (node_so_far last) new refl (map node_so_far above)
