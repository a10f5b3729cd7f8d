-- A whole live tree in preorder is what its tree is made of.
use Rattle.std.proofs.Common.{◌≡◌, ℕ, ◌-◌, true, List, [], ◌∷◌, ◌++◌, map, Bool, false, cond, refl, sym, ap, ap₂, ◌∙◌, append-nil, subst, arith}
use Rattle.std.specs.Prelude.{All}
use Rattle.std.specs.List.{flat_map, list_all}
use Rattle.std.proofs.lemmas.Bool.{and_parts}
use Rattle.std.proofs.lemmas.List.{map-append}
use Rattle.dt_tree.specs.Name.{is_name}
use Rattle.dt_source.specs.TreeMeaning.Paths.{Path, same_path}
use Rattle.dt_source.specs.TreeMeaning.Edits.{Definition, definition}
use Rattle.dt_source.specs.TreeMeaning.References.{held, in_order, preorder}
use Rattle.dt_live.specs.declared.live_tree.LiveTree.{LiveTree}
use Rattle.dt_live.specs.declared.preorder.Preorder.{Preorder}
use Rattle.dt_live.specs.declared.preorder.properties.NodeProperty.{NodeProperty}
use Rattle.dt_live.specs.ByRow.{is_named}
use Rattle.dt_live.specs.Flattened.{IsWhole, Lent, plain, lists}
use Rattle.dt_live.specs.Preorder.{definition_of}
use Rattle.dt_live.specs.Rows.{IsNode, is_standing, no_row, node_path, state_of}
use Rattle.dt_live.proofs.Each.{Each, each-all}
use Rattle.dt_live.proofs.MakingNodes.{AreInOrder, row-known}
use Rattle.dt_live.proofs.Runs.{HasName, all-named}
use Rattle.dt_live.proofs.WholeTrees.{whole-properties-named}
use Rattle.dt_live.specs.Builder.Standing.{AreNodes}
use Rattle.dt_live.specs.Making.Made.{IsInPreorder, IsRest, entries, values_in}
use Rattle.dt_overlay.specs.Private.Making.{copied}
use Rattle.dt_overlay.proofs.MakingApart.{own-apart}

abbrev Entry : Type 0
Entry = Definition (List ℕ)

-- ---- values that are lent
held-plain : (es : List (Definition Lent)) (q : Path) → map plain (held es q) ≡ held (map plain es) q
held-plain [] q = refl
held-plain (e ∷ es) q = by_test (same_path q e.path) (held-plain es q) where
  by_test : (t : Bool) → map plain (held es q) ≡ held (map plain es) q → map plain (cond t (e ∷ held es q) (held es q)) ≡ cond t (plain e ∷ held (map plain es) q) (held (map plain es) q)
  by_test true ih = ap (λ xs. plain e ∷ xs) ih
  by_test false ih = ih

walk-plain : (es : List (Definition Lent)) (qs : List Path) → map plain (flat_map (held es) qs) ≡ flat_map (held (map plain es)) qs
walk-plain es [] = refl
walk-plain es (q ∷ qs) = map-append plain (held es q) (flat_map (held es) qs) ∙ ap₂ (λ xs ys. xs ++ ys) (held-plain es q) (walk-plain es qs)

each-named : (es : List Entry) → list_all is_named es ≡ true → Each HasName es
each-named [] all = tt
each-named (e ∷ es) all = let parts = and_parts (is_named e) (list_all is_named es) all in (parts.0, each-named es parts.1)

module _ (d : LiveTree Lent) (y : Preorder Lent) (whole : IsWhole d) (properties : map (definition_of d) y.properties.items ≡ in_order (state_of d)) where
  copies : (xs : List (NodeProperty Lent)) → entries (node_path d) xs (map (λ v. v.now) (values_in xs)) ≡ map plain (map (definition_of d) xs)
  copies [] = refl
  copies (x ∷ xs) = ap (λ es. definition (node_path d x.node) x.name.now x.value.now ∷ es) (copies xs)

  all-copies : entries (node_path d) y.properties.items (map (λ v. v.now) (values_in y.properties.items)) ≡ flat_map (held (lists d).properties) (preorder (lists d).nodes)
  all-copies = copies y.properties.items ∙ ap (map plain) properties ∙ walk-plain (state_of d).properties (preorder (state_of d).nodes)

  pub all-rest : IsRest d y (copied d) (λ vs. map (λ v. v.now) vs) 0 0
  all-rest = record { within = omega arith; bytes = all-copies }

  properties-named : (xs : List (NodeProperty Lent)) → Each HasName (map plain (map (definition_of d) xs)) → Each (λ x. is_name x.name.now ≡ true) xs
  properties-named [] h = tt
  properties-named (x ∷ xs) h = (h.0, properties-named xs h.1)

  module _ (standing : AreNodes (lists d).nodes) (nodes : map (node_path d) y.nodes.items ≡ preorder (lists d).nodes) (known : All (λ n. IsNode d n) y.nodes.items)
      (there : All (λ n. is_standing d n ≡ true) y.nodes.items) (stand : All (λ x. is_standing d x.node ≡ true) y.properties.items) where
    order-of : AreInOrder d y.nodes.items (lists d)
    order-of = record { order = nodes; standing = standing; known = known }

    pub in-preorder : IsInPreorder d y (copied d)
    in-preorder = record {
      sound = whole.sound;
      nodes = nodes;
      standing = standing;
      known = known;
      there = there;
      stand = stand;
      named_nodes = λ k n some below here. whole.named_nodes (n - 1) no_row (row-known order-of k some below n here);
      named = each-all (λ x. is_name x.name.now ≡ true) y.properties.items
          (properties-named y.properties.items
          (subst (λ (es : List Entry). Each HasName es) (sym (sym (copies y.properties.items) ∙ all-copies))
          (all-named (lists d).properties (preorder (lists d).nodes) (each-named (lists d).properties (whole-properties-named d whole)))));
      apart = own-apart d whole;
      own = λ n known up. sym (append-nil (held (lists d).properties (node_path d n)));
    }
