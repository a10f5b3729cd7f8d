-- What a child added before the others does to the path map.
use Rattle.std.proofs.Common.{◌≡◌, ℕ, Bool, true, false, ◌&&◌, ◌||◌, List, [], ◌∷◌, ◌++◌, Option, Some, None, if◌then◌else◌, is_some, option_and_then, refl, ap, sym, ◌∙◌}
use Rattle.std.specs.Option.{option_map, option_map_or}
use Rattle.std.specs.Str.{bytes_eq}
use Rattle.std.proofs.lemmas.Slice.Eq.{bytes_eq-Decides}
use Rattle.dt_tree.specs.declared.property.Property.{Property}
use Rattle.dt_tree.specs.Changes.{same_path}
use Rattle.dt_tree.specs.NodeData.{none, more, NodeData, node_data, child_names, property_names}
use Rattle.dt_tree.specs.PathMap.{child_named, node_at, value_of, path_map}
use Rattle.dt_tree.specs.Private.Edits.{change_at}
use Rattle.dt_tree.specs.Sound.{is_among}
use Rattle.dt_tree.proofs.ChangeLaws.{through}
use Rattle.dt_tree.proofs.Looks.{look, look_at, same-behind, same-end, same_path-eq, map_of, path_map-look}
use Rattle.dt_tree.proofs.MapLaws.{missing_child}
use Rattle.dt_tree.proofs.Places.{node_at-append}
use Rattle.dt_patch.specs.Adding.{with_first_child}

module _ (path : List (List ℕ)) (b n : NodeData) (is : node_at b path ≡ Some n) (k : List ℕ) (absent : is_among k (child_names n.children) ≡ false) where
  abbrev grown : NodeData → NodeData
  grown m = node_data m.name m.properties (more k [] none m.children)

  abbrev longer : (List Property × List (List ℕ)) → (List Property × List (List ℕ))
  longer l = (l.0, k ∷ l.1)

  abbrev shown : Bool → Bool → Option (List Property × List (List ℕ)) → Option (List Property × List (List ℕ))
  shown new at o = if new then Some ([], []) else (if at then option_map longer o else o)

  below_new : (ys : List (List ℕ)) → look_at (node_data k [] none) ys ≡ (if same_path [] ys then Some ([], []) else None)
  below_new [] = refl
  below_new (z ∷ zs) = refl

  grown_here : (rest : List (List ℕ)) → look_at (grown n) rest ≡ shown (same_path (k ∷ []) rest) (same_path [] rest) (look_at n rest)
  grown_here [] = refl
  grown_here (y ∷ ys) = at_name _ refl where
    at_name : (t : Bool) → bytes_eq k y ≡ t → option_map look (option_and_then (λ c. node_at c ys) (if bytes_eq k y then Some (node_data k [] none) else child_named n.children y))
        ≡ (if bytes_eq k y && same_path [] ys then Some ([], []) else option_map look (option_and_then (λ c. node_at c ys) (child_named n.children y)))
    at_name true e =
        let gone : is_among y (child_names n.children) ≡ false = ap (λ (m : List ℕ). is_among m (child_names n.children)) (sym ((bytes_eq-Decides k y).0 e)) ∙ absent in
        rw (e, missing_child n.children y gone) (below_new ys)
    at_name false e = rw e refl

  grown_look : (q : List (List ℕ)) → look_at (change_at path grown b) q ≡ shown (same_path (path ++ k ∷ []) q) (same_path path q) (look_at b q)
  grown_look q =
      through path b n is grown (λ m. refl) (λ o l. shown (option_map_or (same_path (k ∷ [])) o false) (option_map_or (same_path []) o false) l) (λ l. refl) grown_here q
      ∙ sym (λ i. shown (same-behind path (k ∷ []) q i) (same-end path q i) (look_at b q))

  grown_has : (s t : Bool) (o : Option (List Property × List (List ℕ))) → is_some (shown s t o) ≡ (s || is_some o)
  grown_has true t o = refl
  grown_has false true None = refl
  grown_has false true (Some l) = refl
  grown_has false false o = refl

  grown_names : (s t : Bool) (o : Option (List Property × List (List ℕ))) → option_map (λ l. property_names l.0) (shown s t o) ≡ (if s then Some [] else option_map (λ l. property_names l.0) o)
  grown_names true t o = refl
  grown_names false true None = refl
  grown_names false true (Some l) = refl
  grown_names false false o = refl

  grown_children : (s t : Bool) (o : Option (List Property × List (List ℕ))) → option_map (λ l. l.1) (shown s t o) ≡ (if s then Some [] else (if t then option_map (λ ns. k ∷ ns) (option_map (λ l. l.1) o) else option_map (λ l. l.1) o))
  grown_children true t o = refl
  grown_children false true None = refl
  grown_children false true (Some l) = refl
  grown_children false false o = refl

  grown_value : (j : List ℕ) (s t : Bool) (o : Option (List Property × List (List ℕ))) → (s ≡ true → o ≡ None) → option_and_then (λ l. value_of l.0 j) (shown s t o) ≡ option_and_then (λ l. value_of l.0 j) o
  grown_value j true t o gone = rw (gone refl) refl
  grown_value j false true None gone = refl
  grown_value j false true (Some l) gone = refl
  grown_value j false false o gone = refl

  not_there : (q : List (List ℕ)) → same_path (path ++ k ∷ []) q ≡ true → look_at b q ≡ None
  not_there q e =
      let same : path ++ k ∷ [] ≡ q = same_path-eq (path ++ k ∷ []) q e in
      ap (look_at b) (sym same) ∙ ap (option_map look) (node_at-append path b k ∙ ap (λ (o : Option NodeData). option_and_then (λ (c : NodeData). child_named c.children k) o) is ∙ missing_child n.children k absent)

  pub map-first : path_map (change_at path grown b) ≡ with_first_child path k (path_map b)
  map-first =
      path_map-look (change_at path grown b) ∙ (λ i. map_of (λ q. grown_look q i))
      ∙ (λ i. record {
        has = λ q. grown_has (same_path (path ++ k ∷ []) q) (same_path path q) (look_at b q) i;
        properties = λ q. grown_names (same_path (path ++ k ∷ []) q) (same_path path q) (look_at b q) i;
        children = λ q. grown_children (same_path (path ++ k ∷ []) q) (same_path path q) (look_at b q) i;
        value = λ q j. grown_value j (same_path (path ++ k ∷ []) q) (same_path path q) (look_at b q) (not_there q) i;
      })
      ∙ ap (with_first_child path k) (sym (path_map-look b))
