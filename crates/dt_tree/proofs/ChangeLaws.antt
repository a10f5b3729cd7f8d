-- What each change of a node does to the path map.
use Rattle.std.proofs.Common.{◌≡◌, ℕ, Bool, true, false, ◌&&◌, List, [], ◌∷◌, Option, Some, None, if◌then◌else◌, is_some, option_and_then, refl, ap, sym, ◌∙◌}
use Rattle.std.specs.Option.{option_map, option_map_or}
use Rattle.std.specs.Str.{bytes_eq}
use Rattle.std.proofs.lemmas.Slice.Eq.{bytes_eq-Decides}
use Rattle.dt_tree.specs.declared.property.Property.{Property}
use Rattle.dt_tree.specs.Changes.{same_path, with_name, without_name, with_property, without_property}
use Rattle.dt_tree.specs.NodeData.{Siblings, none, more, NodeData, node_data, child_names, property_names}
use Rattle.dt_tree.specs.PathMap.{child_named, node_at, value_of, path_map}
use Rattle.dt_tree.specs.Private.Edits.{put_property, drop_property, push_child, drop_child, change_at}
use Rattle.dt_tree.specs.Sound.{is_among, are_distinct}
use Rattle.dt_tree.proofs.Looks.{look, look_at, behind, same-end, same_path-eq, look_at-change, look-behind, map_of, path_map-look}
use Rattle.dt_tree.proofs.NameLists.{bytes_eq-sym, head-absent}
use Rattle.dt_tree.proofs.MapLaws.{missing_value, missing_child}
use Rattle.dt_tree.proofs.Places.{IsSoundInside, found_at, distinct_tail}
use Rattle.dt_tree.proofs.StillSound.{property_names-put, property_names-drop}

-- ---- values
value-put : (k v j : List ℕ) (ps : List Property) → value_of (put_property (record { name = k; value = v }) ps) j ≡ (if bytes_eq k j then Some v else value_of ps j)
value-put k v j [] = refl
value-put k v j (p ∷ ps) = at_head _ refl _ refl (value-put k v j ps) where
  at_head : (t : Bool) → bytes_eq p.name k ≡ t → (u : Bool) → bytes_eq p.name j ≡ u → value_of (put_property (record { name = k; value = v }) ps) j ≡ (if bytes_eq k j then Some v else value_of ps j)
      → value_of (put_property (record { name = k; value = v }) (p ∷ ps)) j ≡ (if bytes_eq k j then Some v else value_of (p ∷ ps) j)
  at_head true e u f ih =
      let same : p.name ≡ k = (bytes_eq-Decides p.name k).0 e in
      let kj = ap (λ (m : List ℕ). bytes_eq m j) (sym same) ∙ f in
      at_name u f kj where
        at_name : (u : Bool) → bytes_eq p.name j ≡ u → bytes_eq k j ≡ u → value_of (put_property (record { name = k; value = v }) (p ∷ ps)) j ≡ (if bytes_eq k j then Some v else value_of (p ∷ ps) j)
        at_name true f g = rw (e, f, g) refl
        at_name false f g = rw (e, f, g) refl
  at_head false e true f ih =
      let same : p.name ≡ j = (bytes_eq-Decides p.name j).0 f in
      let kj = bytes_eq-sym j k false (ap (λ (m : List ℕ). bytes_eq m k) (sym same) ∙ e) in
      rw (e, f, kj) refl
  at_head false e false f ih = rw (e, f) ih

value-drop : (k j : List ℕ) (ps : List Property) → are_distinct (property_names ps) ≡ true → value_of (drop_property k ps) j ≡ (if bytes_eq k j then None else value_of ps j)
value-drop k j [] d = none_either (bytes_eq k j) where
  none_either : (t : Bool) → ◌≡◌ {A = Option (List ℕ)} None (if t then None else None)
  none_either true = refl
  none_either false = refl
value-drop k j (p ∷ ps) d = at_head _ refl _ refl (value-drop k j ps (distinct_tail p.name (property_names ps) _ refl d)) where
  at_head : (t : Bool) → bytes_eq p.name k ≡ t → (u : Bool) → bytes_eq p.name j ≡ u → value_of (drop_property k ps) j ≡ (if bytes_eq k j then None else value_of ps j)
      → value_of (drop_property k (p ∷ ps)) j ≡ (if bytes_eq k j then None else value_of (p ∷ ps) j)
  at_head true e true f ih =
      let same : p.name ≡ k = (bytes_eq-Decides p.name k).0 e in
      let kj : bytes_eq k j ≡ true = ap (λ (m : List ℕ). bytes_eq m j) (sym same) ∙ f in
      let pj : p.name ≡ j = (bytes_eq-Decides p.name j).0 f in
      let gone : is_among j (property_names ps) ≡ false = head-absent p.name j (property_names ps) f d in
      rw (e, kj) (missing_value ps j gone)
  at_head true e false f ih =
      let same : p.name ≡ k = (bytes_eq-Decides p.name k).0 e in
      let kj : bytes_eq k j ≡ false = ap (λ (m : List ℕ). bytes_eq m j) (sym same) ∙ f in
      rw (e, f, kj) refl
  at_head false e true f ih =
      let same : p.name ≡ j = (bytes_eq-Decides p.name j).0 f in
      let kj = bytes_eq-sym j k false (ap (λ (m : List ℕ). bytes_eq m k) (sym same) ∙ e) in
      rw (e, f, kj) refl
  at_head false e false f ih = rw (e, f) ih

-- ---- children
pub child-push : (k y : List ℕ) (f : Siblings) → is_among k (child_names f) ≡ false → child_named (push_child k f) y ≡ (if bytes_eq k y then Some (node_data k [] none) else child_named f y)
child-push k y none a = refl
child-push k y (more n p c rest) a = at_head _ refl _ refl a (child-push k y rest) where
  at_head : (t : Bool) → bytes_eq n k ≡ t → (u : Bool) → bytes_eq n y ≡ u → is_among k (n ∷ child_names rest) ≡ false → (is_among k (child_names rest) ≡ false → child_named (push_child k rest) y ≡ (if bytes_eq k y then Some (node_data k [] none) else child_named rest y))
      → child_named (push_child k (more n p c rest)) y ≡ (if bytes_eq k y then Some (node_data k [] none) else child_named (more n p c rest) y)
  at_head true e u f a ih = absurd (let h : true ≡ false = (rw e at a) in cc)
  at_head false e true f a ih =
      let same : n ≡ y = (bytes_eq-Decides n y).0 f in
      let ky = bytes_eq-sym y k false (ap (λ (m : List ℕ). bytes_eq m k) (sym same) ∙ e) in
      rw (f, ky) refl
  at_head false e false f a ih = rw f (ih (rw e at a))

pub child-drop : (k y : List ℕ) (f : Siblings) → are_distinct (child_names f) ≡ true → child_named (drop_child k f) y ≡ (if bytes_eq k y then None else child_named f y)
child-drop k y none d = none_either (bytes_eq k y) where
  none_either : (t : Bool) → ◌≡◌ {A = Option NodeData} None (if t then None else None)
  none_either true = refl
  none_either false = refl
child-drop k y (more n p c rest) d = at_head _ refl _ refl (child-drop k y rest (distinct_tail n (child_names rest) _ refl d)) where
  at_head : (t : Bool) → bytes_eq n k ≡ t → (u : Bool) → bytes_eq n y ≡ u → child_named (drop_child k rest) y ≡ (if bytes_eq k y then None else child_named rest y)
      → child_named (drop_child k (more n p c rest)) y ≡ (if bytes_eq k y then None else child_named (more n p c rest) y)
  at_head true e true f ih =
      let same : n ≡ k = (bytes_eq-Decides n k).0 e in
      let ky : bytes_eq k y ≡ true = ap (λ (m : List ℕ). bytes_eq m y) (sym same) ∙ f in
      rw (e, ky) (missing_child rest y (head-absent n y (child_names rest) f d))
  at_head true e false f ih =
      let same : n ≡ k = (bytes_eq-Decides n k).0 e in
      let ky : bytes_eq k y ≡ false = ap (λ (m : List ℕ). bytes_eq m y) (sym same) ∙ f in
      rw (e, f, ky) refl
  at_head false e true f ih =
      let same : n ≡ y = (bytes_eq-Decides n y).0 f in
      let ky = bytes_eq-sym y k false (ap (λ (m : List ℕ). bytes_eq m k) (sym same) ∙ e) in
      rw (e, f, ky) refl
  at_head false e false f ih = rw (e, f) ih

-- ---- from one node to the whole map: a change shows R at each path, where it shows so from the changed node on
module _ (path : List (List ℕ)) (b n : NodeData) (is : node_at b path ≡ Some n) where
  pub through : (g : NodeData → NodeData) → ((m : NodeData) → (g m).name ≡ m.name) → (R : Option (List (List ℕ)) → Option (List Property × List (List ℕ)) → Option (List Property × List (List ℕ))) → ((l : Option (List Property × List (List ℕ))) → R None l ≡ l)
      → ((rest : List (List ℕ)) → look_at (g n) rest ≡ R (Some rest) (look_at n rest)) → (q : List (List ℕ)) → look_at (change_at path g b) q ≡ R (behind path q) (look_at b q)
  through g named R others local q = look_at-change g named path q b ∙ at_rest (behind path q) refl where
    at_rest : (o : Option (List (List ℕ))) → behind path q ≡ o → option_map_or (λ rest. option_and_then (λ m. look_at (g m) rest) (node_at b path)) (behind path q) (look_at b q) ≡ R (behind path q) (look_at b q)
    at_rest None e = rw e (sym (others (look_at b q)))
    at_rest (Some rest) e = rw (e, is) (local rest ∙ ap (R (Some rest)) (sym (look-behind path q rest b n e is)))

  known : (q : List (List ℕ)) → same_path path q ≡ true → is_some (look_at b q) ≡ true
  known q e = let same : path ≡ q = same_path-eq path q e in ap (λ (p : List (List ℕ)). is_some (look_at b p)) (sym same) ∙ ap (λ (o : Option NodeData). is_some (option_map look o)) is

pub distinct_at : (b : NodeData) (q : List (List ℕ)) (l : (List Property × List (List ℕ))) → IsSoundInside b → look_at b q ≡ Some l → (are_distinct (property_names l.0) ≡ true) × (are_distinct l.1 ≡ true)
distinct_at b q l s e = at_node (node_at b q) refl e where
  at_node : (o : Option NodeData) → node_at b q ≡ o → option_map look o ≡ Some l → (are_distinct (property_names l.0) ≡ true) × (are_distinct l.1 ≡ true)
  at_node None f e = absurd (cc e)
  at_node (Some c) f e =
      let c_is : look c ≡ l = cc e in
      let i = found_at q b c s f in
      rw (← c_is) (i.properties.distinct, i.siblings.distinct)

-- ---- a property set
module _ (path : List (List ℕ)) (b n : NodeData) (is : node_at b path ≡ Some n) (k v : List ℕ) where
  abbrev property : Property
  property = record { name = k; value = v }

  abbrev set : NodeData → NodeData
  set m = node_data m.name (put_property property m.properties) m.children

  abbrev put : (List Property × List (List ℕ)) → (List Property × List (List ℕ))
  put l = (put_property property l.0, l.1)

  set_here : (rest : List (List ℕ)) → look_at (set n) rest ≡ (if same_path [] rest then option_map put (look_at n rest) else look_at n rest)
  set_here [] = refl
  set_here (y ∷ ys) = refl

  set_look : (q : List (List ℕ)) → look_at (change_at path set b) q ≡ (if same_path path q then option_map put (look_at b q) else look_at b q)
  set_look q =
      through path b n is set (λ m. refl) (λ o l. if option_map_or (same_path []) o false then option_map put l else l) (λ l. refl) set_here q
      ∙ ap (λ (t : Bool). if t then option_map put (look_at b q) else look_at b q) (sym (same-end path q))

  set_has : (t : Bool) (o : Option (List Property × List (List ℕ))) → is_some (if t then option_map put o else o) ≡ is_some o
  set_has true None = refl
  set_has true (Some l) = refl
  set_has false o = refl

  set_names : (t : Bool) (o : Option (List Property × List (List ℕ))) → option_map (λ l. property_names l.0) (if t then option_map put o else o) ≡ (if t then option_map (with_name k) (option_map (λ l. property_names l.0) o) else option_map (λ l. property_names l.0) o)
  set_names true None = refl
  set_names true (Some l) = ap (λ (ns : List (List ℕ)). Some ns) (property_names-put property l.0)
  set_names false o = refl

  set_children : (t : Bool) (o : Option (List Property × List (List ℕ))) → option_map (λ l. l.1) (if t then option_map put o else o) ≡ option_map (λ l. l.1) o
  set_children true None = refl
  set_children true (Some l) = refl
  set_children false o = refl

  set_value : (j : List ℕ) (t : Bool) (o : Option (List Property × List (List ℕ))) → (t ≡ true → is_some o ≡ true) → option_and_then (λ l. value_of l.0 j) (if t then option_map put o else o) ≡ (if t && bytes_eq k j then Some v else option_and_then (λ l. value_of l.0 j) o)
  set_value j true None there = absurd (let h : false ≡ true = there refl in cc h)
  set_value j true (Some l) there = value-put k v j l.0
  set_value j false o there = refl

  pub map-set : path_map (change_at path set b) ≡ with_property path k v (path_map b)
  map-set =
      path_map-look (change_at path set b) ∙ (λ i. map_of (λ q. set_look q i))
      ∙ (λ i. record {
        has = λ q. set_has (same_path path q) (look_at b q) i;
        properties = λ q. set_names (same_path path q) (look_at b q) i;
        children = λ q. set_children (same_path path q) (look_at b q) i;
        value = λ q j. set_value j (same_path path q) (look_at b q) (known path b n is q) i;
      })
      ∙ ap (with_property path k v) (sym (path_map-look b))

-- ---- a property removed
module _ (path : List (List ℕ)) (b n : NodeData) (is : node_at b path ≡ Some n) (s : IsSoundInside b) (k : List ℕ) where
  abbrev unset : NodeData → NodeData
  unset m = node_data m.name (drop_property k m.properties) m.children

  abbrev out : (List Property × List (List ℕ)) → (List Property × List (List ℕ))
  out l = (drop_property k l.0, l.1)

  unset_here : (rest : List (List ℕ)) → look_at (unset n) rest ≡ (if same_path [] rest then option_map out (look_at n rest) else look_at n rest)
  unset_here [] = refl
  unset_here (y ∷ ys) = refl

  unset_look : (q : List (List ℕ)) → look_at (change_at path unset b) q ≡ (if same_path path q then option_map out (look_at b q) else look_at b q)
  unset_look q =
      through path b n is unset (λ m. refl) (λ o l. if option_map_or (same_path []) o false then option_map out l else l) (λ l. refl) unset_here q
      ∙ ap (λ (t : Bool). if t then option_map out (look_at b q) else look_at b q) (sym (same-end path q))

  unset_has : (t : Bool) (o : Option (List Property × List (List ℕ))) → is_some (if t then option_map out o else o) ≡ is_some o
  unset_has true None = refl
  unset_has true (Some l) = refl
  unset_has false o = refl

  unset_names : (t : Bool) (o : Option (List Property × List (List ℕ))) → ((l : (List Property × List (List ℕ))) → o ≡ Some l → are_distinct (property_names l.0) ≡ true)
      → option_map (λ l. property_names l.0) (if t then option_map out o else o) ≡ (if t then option_map (without_name k) (option_map (λ l. property_names l.0) o) else option_map (λ l. property_names l.0) o)
  unset_names true None d = refl
  unset_names true (Some l) d = ap (λ (ns : List (List ℕ)). Some ns) (property_names-drop k l.0 (d l refl))
  unset_names false o d = refl

  unset_children : (t : Bool) (o : Option (List Property × List (List ℕ))) → option_map (λ l. l.1) (if t then option_map out o else o) ≡ option_map (λ l. l.1) o
  unset_children true None = refl
  unset_children true (Some l) = refl
  unset_children false o = refl

  unset_value : (j : List ℕ) (t : Bool) (o : Option (List Property × List (List ℕ))) → ((l : (List Property × List (List ℕ))) → o ≡ Some l → are_distinct (property_names l.0) ≡ true)
      → option_and_then (λ l. value_of l.0 j) (if t then option_map out o else o) ≡ (if t && bytes_eq k j then None else option_and_then (λ l. value_of l.0 j) o)
  unset_value j true None d = none_either (bytes_eq k j) where
    none_either : (t : Bool) → ◌≡◌ {A = Option (List ℕ)} None (if t then None else None)
    none_either true = refl
    none_either false = refl
  unset_value j true (Some l) d = value-drop k j l.0 (d l refl)
  unset_value j false o d = refl

  pub map-unset : path_map (change_at path unset b) ≡ without_property path k (path_map b)
  map-unset =
      path_map-look (change_at path unset b) ∙ (λ i. map_of (λ q. unset_look q i))
      ∙ (λ i. record {
        has = λ q. unset_has (same_path path q) (look_at b q) i;
        properties = λ q. unset_names (same_path path q) (look_at b q) (λ l e. (distinct_at b q l s e).0) i;
        children = λ q. unset_children (same_path path q) (look_at b q) i;
        value = λ q j. unset_value j (same_path path q) (look_at b q) (λ l e. (distinct_at b q l s e).0) i;
      })
      ∙ ap (without_property path k) (sym (path_map-look b))
