-- A tree without a property, without a node, and with an empty node more: its tokens, and that it is a tree.
use Rattle.std.proofs.Common.{◌≡◌, ℕ, ◌<◌, Bool, true, false, List, [], ◌∷◌, ◌++◌, length, Option, Some, None, option_and_then, refl, ap, sym, subst, ◌∙◌, arith, append_assoc}
use Rattle.std.specs.Str.{bytes_eq}
use Rattle.std.proofs.lemmas.Slice.Eq.{bytes_eq-Decides}
use Rattle.std.proofs.lemmas.List.{append-nil}
use Rattle.dt_tree.specs.declared.property.Property.{Property}
use Rattle.dt_tree.specs.Changes.{without_child, without_property}
use Rattle.dt_tree.specs.Name.{is_name}
use Rattle.dt_tree.specs.NodeData.{NodeData, Siblings, none, more, node_data, child_names}
use Rattle.dt_tree.specs.Path.{path_names}
use Rattle.dt_tree.specs.PathMap.{child_named, node_at, value_of}
use Rattle.dt_tree.specs.Private.Edits.{change_at, drop_child, drop_property}
use Rattle.dt_tree.specs.Sound.{IsSoundBelow, is_among}
use Rattle.dt_tree.specs.TreeData.{TreeData, IsTree}
use Rattle.dt_tree.proofs.CallLaws.{of_nodes}
use Rattle.dt_tree.proofs.ChangeLaws.{map-unset}
use Rattle.dt_tree.proofs.ChildLaws.{map-cut}
use Rattle.dt_tree.proofs.NameLists.{distinct-without, names-without}
use Rattle.dt_tree.proofs.Places.{IsSoundInside, found_at, inside, node_at-append}
use Rattle.dt_tree.proofs.StillSound.{child_names-drop, drop_sound, height-drop}
use Rattle.dt_blob.specs.Token.{Token, begin_node, end_node, property, property_tokens, sibling_tokens, tokens_of}
use Rattle.dt_patch.specs.declared.view.nodes.NodeOffset.{NodeOffset}
use Rattle.dt_patch.specs.declared.view.properties.PlacedProperty.{PlacedProperty}
use Rattle.dt_patch.specs.declared.view.view.View.{View}
use Rattle.dt_patch.specs.View.Placing.{IsPlaced}
use Rattle.dt_patch.specs.View.Reaching.{Reached, before_child, before_node, before_property}
use Rattle.dt_patch.proofs.ViewLemmas.Levels.{before_last, child_own, within}
use Rattle.dt_patch.specs.declared.splicing.Span.{Span}
use Rattle.dt_patch.specs.Adding.{IsWithNode, with_first_child}
use Rattle.dt_patch.specs.Private.Cutting.{Comes}
use Rattle.dt_patch.specs.Private.Places.{IsNodeOf, IsPropertyOf}
use Rattle.dt_patch.specs.Private.Planning.{IsEnd, Replaces}
use Rattle.dt_patch.specs.Removing.{IsWithoutNode, IsWithoutProperty}
use Rattle.dt_patch.proofs.Firsts.{map-first}
use Rattle.dt_patch.proofs.Sets.{reached_next}
use Rattle.dt_patch.proofs.Trees.{Turns, changed_tree, is_changed, regrouped, turns_at}

some_same : {A : Type 0} (x y : A) → Some x ≡ Some y → x ≡ y
some_same x y e = cc e

-- other tokens in the place of a node's make another tree
pub replaces_by : (view : View) (tree : TreeData) (path : List (List ℕ)) (n : NodeData) (g : NodeData → NodeData) (before olds news : List Token) (span : Span) → node_at tree.root path ≡ Some n → Turns n (g n) before olds news → IsTree (changed_tree tree path g)
    → Reached view span.at (before_node tree.root path ++ before) → Reached view span.next ((before_node tree.root path ++ before) ++ olds) → Replaces view tree (changed_tree tree path g) span news
replaces_by view tree path n g before olds news span e t is r s =
    let turns = turns_at tree.root path n g before olds news e t in
    record {
      before = before_node tree.root path ++ before;
      olds = olds;
      after = turns.after;
      at = r;
      next = s;
      was = turns.was;
      now = turns.now;
      reserves = refl;
      boot_cpu = refl;
      is = is;
    }

-- ---- without a property

abbrev pub unset : List ℕ → NodeData → NodeData
unset k m = node_data m.name (drop_property k m.properties) m.children

record DropSplit (ps : List Property) (k v : List ℕ) : Type 0 where
  after : List Token
  own : property_tokens ps ≡ before_property ps k ++ property k v ∷ after
  gone : property_tokens (drop_property k ps) ≡ before_property ps k ++ after

drop_split : (ps : List Property) (k v : List ℕ) → value_of ps k ≡ Some v → DropSplit ps k v
drop_split [] k v e = absurd (cc e)
drop_split (p ∷ ps) k v e = by_test _ refl e (drop_split ps k v) where
  by_test : (t : Bool) → bytes_eq p.name k ≡ t → value_of (p ∷ ps) k ≡ Some v → (value_of ps k ≡ Some v → DropSplit ps k v) → DropSplit (p ∷ ps) k v
  by_test true h e ih =
      let named : p.name ≡ k = (bytes_eq-Decides p.name k).0 h in
      let is : p.value ≡ v = some_same p.value v (rw h at e) in
      record {
        after = property_tokens ps;
        own = rw h (ap (λ (x : List ℕ). property x p.value ∷ property_tokens ps) named ∙ ap (λ (x : List ℕ). property k x ∷ property_tokens ps) is);
        gone = rw h refl;
      }
  by_test false h e ih =
      let r = ih (rw h at e) in
      record {
        after = r.after;
        own = rw h (ap (λ (x : List Token). property p.name p.value ∷ x) r.own);
        gone = rw h (ap (λ (x : List Token). property p.name p.value ∷ x) r.gone);
      }

pub unset_turns : (n : NodeData) (k v : List ℕ) → value_of n.properties k ≡ Some v → Turns n (unset k n) (begin_node n.name ∷ before_property n.properties k) (property k v ∷ []) []
unset_turns n k v f =
    let p = drop_split n.properties k v f in
    let before : List Token = before_property n.properties k in
    let rest : List Token = sibling_tokens n.children ++ end_node ∷ [] in
    record {
      after = p.after ++ rest;
      was = ap (λ (x : List Token). begin_node n.name ∷ (x ++ rest)) p.own ∙ ap (λ (x : List Token). begin_node n.name ∷ x) (append_assoc before (property k v ∷ p.after) rest);
      now = ap (λ (x : List Token). begin_node n.name ∷ (x ++ rest)) p.gone ∙ ap (λ (x : List Token). begin_node n.name ∷ x) (append_assoc before p.after rest);
    }

unset_inside : (n : NodeData) (k : List ℕ) → IsSoundInside n → IsSoundInside (unset k n)
unset_inside n k s = record {
  properties = (drop_sound (node_data [] n.properties none) k (record { own_name = refl; properties = s.properties; siblings = record { named = refl; distinct = refl }; below = tt; shallow = omega arith })).properties;
  siblings = s.siblings;
  below = s.below;
}

pub property_unset : (tree : TreeData) (path : List (List ℕ)) (n : NodeData) (k : List ℕ) → node_at tree.root path ≡ Some n → IsTree tree → IsWithoutProperty path k tree (changed_tree tree path (unset k))
property_unset tree path n k e t = record {
  is = is_changed tree path n (unset k) 0 e refl (omega arith) (omega arith) (unset_inside n k) t;
  map = of_nodes tree (changed_tree tree path (unset k)) (change_at path (unset k) tree.root) (without_property path k) refl (map-unset path tree.root n e (inside tree.root t.sound) k);
}

pub property_out : (view : View) (tree : TreeData) (path name : List ℕ) (p : PlacedProperty) → IsPropertyOf view tree path name p → IsPlaced view p name → IsTree tree → Comes (IsWithoutProperty (path_names path) name) view tree (record { at = p.at; next = p.next }) []
property_out view tree path name p i s t =
    let names : List (List ℕ) = path_names path in
    let value : List ℕ = p.value.now in
    let front : List Token = before_node tree.root names ++ begin_node i.node.name ∷ before_property i.node.properties name in
    let is = property_unset tree names i.node name i.there t in
    let less = s.1 in
    record {
      changed = changed_tree tree names (unset name);
      is = is;
      replaces =
          replaces_by view tree names i.node (unset name) (begin_node i.node.name ∷ before_property i.node.properties name) (property name value ∷ []) [] (record { at = p.at; next = p.next }) i.there (unset_turns i.node name value i.value) is.is i.reached
          (reached_next view p.at p.next (property name value) front i.reached (s.0) refl (omega (arith, less)) (s.2));
    }

-- ---- without a node

abbrev pub cut_out : List ℕ → NodeData → NodeData
cut_out k m = node_data m.name m.properties (drop_child k m.children)

record GoneSplit (s : Siblings) (k : List ℕ) (c : NodeData) : Type 0 where
  after : List Token
  own : sibling_tokens s ≡ before_child s k ++ (tokens_of c ++ after)
  gone : sibling_tokens (drop_child k s) ≡ before_child s k ++ after

first_child : (n : List ℕ) (p : List Property) (d rest : Siblings) → sibling_tokens (more n p d rest) ≡ tokens_of (node_data n p d) ++ sibling_tokens rest
first_child n p d rest = ap (λ (x : List Token). begin_node n ∷ x) (sym (regrouped p d none (sibling_tokens rest)))

gone_split : (s : Siblings) (k : List ℕ) (c : NodeData) → child_named s k ≡ Some c → GoneSplit s k c
gone_split none k c e = absurd (cc e)
gone_split (more n p d rest) k c e = by_test _ refl e (gone_split rest k c) where
  by_test : (t : Bool) → bytes_eq n k ≡ t → child_named (more n p d rest) k ≡ Some c → (child_named rest k ≡ Some c → GoneSplit rest k c) → GoneSplit (more n p d rest) k c
  by_test true h e ih =
      let is : node_data n p d ≡ c = some_same (node_data n p d) c (rw h at e) in
      subst (GoneSplit (more n p d rest) k) is (record { after = sibling_tokens rest; own = rw h (first_child n p d rest); gone = rw h refl })
  by_test false h e ih =
      let r = ih (rw h at e) in
      let first : List Token = tokens_of (node_data n p d) in
      record {
        after = r.after;
        own = rw h (first_child n p d rest ∙ ap (λ (x : List Token). first ++ x) r.own ∙ sym (append_assoc first (before_child rest k) (tokens_of c ++ r.after)));
        gone = rw h (first_child n p d (drop_child k rest) ∙ ap (λ (x : List Token). first ++ x) r.gone ∙ sym (append_assoc first (before_child rest k) r.after));
      }

pub cut_turns : (n c : NodeData) (k : List ℕ) → child_named n.children k ≡ Some c → Turns n (cut_out k n) (within n k) (tokens_of c) []
cut_turns n c k e =
    let s = gone_split n.children k c e in
    let props : List Token = property_tokens n.properties in
    let front : List Token = before_child n.children k in
    let last : List Token = end_node ∷ [] in
    record {
      after = s.after ++ last;
      was = child_own n c k s.after s.own;
      now =
          ap (λ (x : List Token). begin_node n.name ∷ (props ++ (x ++ last))) s.gone
          ∙ ap (λ (x : List Token). begin_node n.name ∷ (props ++ x)) (append_assoc front s.after last)
          ∙ ap (λ (x : List Token). begin_node n.name ∷ x) (sym (append_assoc props front (s.after ++ last)));
    }

below_drop : (k : List ℕ) (f : Siblings) → IsSoundBelow f → IsSoundBelow (drop_child k f)
below_drop k none s = tt
below_drop k (more n p c rest) s = by_test _ refl (below_drop k rest s.3) where
  by_test : (t : Bool) → bytes_eq n k ≡ t → IsSoundBelow (drop_child k rest) → IsSoundBelow (drop_child k (more n p c rest))
  by_test true e ih = rw e s.3
  by_test false e ih = rw e (s.0, s.1, s.2, ih)

cut_inside : (n : NodeData) (k : List ℕ) → IsSoundInside n → IsSoundInside (cut_out k n)
cut_inside n k s = record {
  properties = s.properties;
  siblings = record {
    named = rw (child_names-drop k n.children s.siblings.distinct) (names-without (child_names n.children) k s.siblings.named);
    distinct = rw (child_names-drop k n.children s.siblings.distinct) (distinct-without (child_names n.children) k s.siblings.distinct);
  };
  below = below_drop k n.children s.below;
}

pub node_cut : (tree : TreeData) (above : List (List ℕ)) (n : NodeData) (k : List ℕ) → node_at tree.root above ≡ Some n → IsTree tree → IsWithoutNode (above ++ k ∷ []) tree (changed_tree tree above (cut_out k))
node_cut tree above n k e t = record {
  above = above;
  name = k;
  is_path = refl;
  is = is_changed tree above n (cut_out k) 0 e refl (let h = height-drop k n.children in omega (arith, h)) (omega arith) (cut_inside n k) t;
  map = of_nodes tree (changed_tree tree above (cut_out k)) (change_at above (cut_out k) tree.root) (without_child above k) refl (map-cut above tree.root n e k (found_at above tree.root n (inside tree.root t.sound) e).siblings.distinct);
}

-- the parent of a node that isn't the root
pub record Above (root d : NodeData) (path : List (List ℕ)) : Type 0 where
  pub above : List (List ℕ)
  pub name : List ℕ
  pub is : path ≡ above ++ name ∷ []
  pub parent : NodeData
  pub there : node_at root above ≡ Some parent
  pub child : child_named parent.children name ≡ Some d

record Last (path : List (List ℕ)) : Type 0 where
  above : List (List ℕ)
  name : List ℕ
  is : path ≡ above ++ name ∷ []

last_of : (k : List ℕ) (ks : List (List ℕ)) → Last (k ∷ ks)
last_of k [] = record { above = []; name = k; is = refl }
last_of k (j ∷ js) = let l = last_of j js in record { above = k ∷ l.above; name = l.name; is = ap (λ (x : List (List ℕ)). k ∷ x) l.is }

above_by : (root d : NodeData) (path : List (List ℕ)) (l : Last path) → node_at root path ≡ Some d → Above root d path
above_by root d path l e = by_node (node_at root l.above) refl (sym (node_at-append l.above root l.name) ∙ ap (node_at root) (sym l.is) ∙ e) where
  by_node : (o : Option NodeData) → node_at root l.above ≡ o → option_and_then (λ (c : NodeData). child_named c.children l.name) o ≡ Some d → Above root d path
  by_node None h f = absurd (cc f)
  by_node (Some p) h f = record { above = l.above; name = l.name; is = l.is; parent = p; there = h; child = f }

pub above_of : (root d : NodeData) (path : List (List ℕ)) → (length path ≡ 0 → ⊥) → node_at root path ≡ Some d → Above root d path
above_of root d [] n e = absurd (n refl)
above_of root d (k ∷ ks) n e = above_by root d (k ∷ ks) (last_of k ks) e

-- what leads to a node leads through its parent
pub through_parent : (root d : NodeData) (path : List (List ℕ)) (a : Above root d path) → before_node root path ≡ before_node root a.above ++ within a.parent a.name
through_parent root d path a = ap (before_node root) a.is ∙ before_last a.above root a.parent a.name a.there

-- ---- with an empty node more

abbrev pub grown : List ℕ → NodeData → NodeData
grown k m = node_data m.name m.properties (more k [] none m.children)

pub grown_turns : (n : NodeData) (k : List ℕ) → Turns n (grown k n) (begin_node n.name ∷ property_tokens n.properties) [] (begin_node k ∷ end_node ∷ [])
grown_turns n k = record { after = sibling_tokens n.children ++ end_node ∷ []; was = refl; now = refl }

grown_inside : (n : NodeData) (k : List ℕ) → is_name k ≡ true → is_among k (child_names n.children) ≡ false → IsSoundInside n → IsSoundInside (grown k n)
grown_inside n k e a s =
    let named = s.siblings.named in
    let distinct = s.siblings.distinct in
    record {
      properties = s.properties;
      siblings = record { named = rw e named; distinct = rw a distinct };
      below = (record { named = refl; distinct = refl }, record { named = refl; distinct = refl }, tt, s.below);
    }

pub node_grown : (tree : TreeData) (path : List (List ℕ)) (n : NodeData) (k : List ℕ) → node_at tree.root path ≡ Some n → is_name k ≡ true → is_among k (child_names n.children) ≡ false → length path < 64 → IsTree tree → IsWithNode path k tree (changed_tree tree path (grown k))
node_grown tree path n k e f a l t = record {
  is = is_changed tree path n (grown k) 64 e refl (omega (arith, l)) (omega arith) (grown_inside n k f a) t;
  map = of_nodes tree (changed_tree tree path (grown k)) (change_at path (grown k) tree.root) (with_first_child path k) refl (map-first path tree.root n e k a);
}

pub node_out : (view : View) (tree : TreeData) (path : List ℕ) (n : NodeOffset) (next : ℕ) → (i : IsNodeOf view tree path n) → (length (path_names path) ≡ 0 → ⊥) → Reached view next (before_node tree.root (path_names path) ++ tokens_of i.node) → IsTree tree
    → Comes (IsWithoutNode (path_names path)) view tree (record { at = n.at; next = next }) []
node_out view tree path n next i some r t =
    let names : List (List ℕ) = path_names path in
    let a = above_of tree.root i.node names some i.there in
    let lead = through_parent tree.root i.node names a in
    let is = node_cut tree a.above a.parent a.name a.there t in
    record {
      changed = changed_tree tree a.above (cut_out a.name);
      is = subst (λ (x : List (List ℕ)). IsWithoutNode x tree (changed_tree tree a.above (cut_out a.name))) (sym a.is) is;
      replaces =
          replaces_by view tree a.above a.parent (cut_out a.name) (within a.parent a.name) (tokens_of i.node) [] (record { at = n.at; next = next }) a.there (cut_turns a.parent i.node a.name a.child) is.is
          (subst (Reached view n.at) lead i.reached) (subst (λ (x : List Token). Reached view next (x ++ tokens_of i.node)) lead r);
    }

pub node_in : (view : View) (tree : TreeData) (path name : List ℕ) (n : NodeOffset) (span : Span) → (i : IsNodeOf view tree path n) → IsEnd view (before_node tree.root (path_names path)) i.node span → is_name name ≡ true → is_among name (child_names i.node.children) ≡ false
    → length (path_names path) < 64 → IsTree tree → Comes (IsWithNode (path_names path) name) view tree span (begin_node name ∷ end_node ∷ [])
node_in view tree path name n span i e named absent short t =
    let names : List (List ℕ) = path_names path in
    let front : List Token = before_node tree.root names ++ begin_node i.node.name ∷ property_tokens i.node.properties in
    let empty = e.empty in
    let is = node_grown tree names i.node name i.there named absent short t in
    record {
      changed = changed_tree tree names (grown name);
      is = is;
      replaces =
          replaces_by view tree names i.node (grown name) (begin_node i.node.name ∷ property_tokens i.node.properties) [] (begin_node name ∷ end_node ∷ []) span i.there (grown_turns i.node name) is.is e.reached
          (subst (λ (k : ℕ). Reached view k (front ++ [])) (sym empty) (subst (Reached view span.at) (sym (append-nil front)) e.reached));
    }
