-- What a walk over a tree meets is what the definitions of `Nodes` say of it.
use Rattle.std.proofs.Common.{◌≡◌, ◌≢◌, ℕ, nat_eq, Bool, true, false, not, ◌&&◌, ◌==◌, List, [], ◌∷◌, map, filter, length, append-nil, codes, Option, Some, None, option_and_then, refl, ap, sym, ◌∙◌, subst}
use Rattle.std.specs.Option.{option_map, option_map_or, unwrap_or}
use Rattle.std.specs.List.{AllPairs, find}
use Rattle.std.specs.Str.{bytes_eq}
use Rattle.std.proofs.lemmas.List.Folds.{list_all-map}
use Rattle.std.proofs.lemmas.List.Kept.{AllPairs-filter}
use Rattle.std.proofs.lemmas.Slice.Eq.{bytes_eq-Decides}
use Rattle.dt_tree.specs.declared.property.Property.{Property}
use Rattle.dt_tree.specs.NodeData.{Siblings, none, more, NodeData, child_names}
use Rattle.dt_tree.specs.Path.{path_text}
use Rattle.dt_tree.specs.PathMap.{child_named, value_of, properties_at, path_map}
use Rattle.dt_tree.specs.Phandle.{is_reserved, is_reserved_name, phandle_in, phandle_at, phandle_of}
use Rattle.dt_tree.specs.Private.PhandleWalk.{unreserved}
use Rattle.dt_tree.specs.Preorder.{paths_among, preorder}
use Rattle.dt_tree.specs.Sound.{is_among}
use Rattle.dt_tree.specs.TreeData.{TreeData, IsTree}
use Rattle.dt_tree.proofs.PhandleLaws.{IsApart, apart}
use Rattle.dt_tree.proofs.Places.{IsSoundInside, inside}
use Rattle.dt_tree.proofs.PreorderLaws.{all_once}
use Rattle.dt_tree.proofs.ReservedLaws.{apart-unreserved}
use Rattle.bus_drivers.specs.Nodes.{properties_of, node_paths_down, is_okay, is_compatible, is_device, nearest_device, device_nodes, tree_device, tree_devices, path_with, target_of}
use Rattle.bus_drivers.specs.Private.Entries.{Entry, entries, device_count, own_properties, is_device_entry, device_of_entry, target_of_entry, devices_met, has_phandle, target_met}
use Rattle.bus_drivers.proofs.EntryPlaces.{entry_at, IsMet}
use Rattle.bus_drivers.proofs.EntryWalk.{count_from, entries_from}
use Rattle.bus_drivers.proofs.EntryPaths.{NodePath, node_paths_from, node_paths_from-root, is_free, free_paths, filter_both, filter_map, find_filter, find_map, map_map, map_same, own_last}

-- ---- the root's children that aren't reserved
free_name : (f : Siblings) (y : List ℕ) → is_among y (child_names (unreserved f)) ≡ true → is_reserved_name y ≡ false
free_name none y e = absurd (let bad : false ≡ true = e in cc bad)
free_name (more n p c rest) y e = at_head _ refl _ refl e (free_name rest y) where
  at_head : (r : Bool) → is_reserved_name n ≡ r → (t : Bool) → bytes_eq n y ≡ t → is_among y (child_names (unreserved (more n p c rest))) ≡ true → (is_among y (child_names (unreserved rest)) ≡ true → is_reserved_name y ≡ false)
      → is_reserved_name y ≡ false
  at_head true er t et e ih = ih (rw er at e)
  at_head false er true et e ih = let same : n ≡ y = (bytes_eq-Decides n y).0 et in subst (λ (z : List ℕ). is_reserved_name z ≡ false) same er
  at_head false er false et e ih = ih (rw (er, et) at e)

child_free : (f : Siblings) (y : List ℕ) → is_reserved_name y ≡ false → child_named (unreserved f) y ≡ child_named f y
child_free none y e = refl
child_free (more n p c rest) y e = at_head _ refl _ refl (child_free rest y e) where
  at_head : (r : Bool) → is_reserved_name n ≡ r → (t : Bool) → bytes_eq n y ≡ t → child_named (unreserved rest) y ≡ child_named rest y → child_named (unreserved (more n p c rest)) y ≡ child_named (more n p c rest) y
  at_head true er true et ih =
      let same : n ≡ y = (bytes_eq-Decides n y).0 et in
      let gone : is_reserved_name y ≡ true = subst (λ (z : List ℕ). is_reserved_name z ≡ true) same er in
      absurd (let bad : true ≡ false = sym gone ∙ e in cc bad)
  at_head true er false et ih = rw (er, et) ih
  at_head false er true et ih = rw (er, et) refl
  at_head false er false et ih = rw (er, et) ih

itself : (o : Option NodeData) → option_and_then (λ (c : NodeData). Some c) o ≡ o
itself None = refl
itself (Some c) = refl

-- the walk begins at them
met_first : (root : NodeData) → IsMet root [] (unreserved root.children)
met_first root = record {
  stands = λ y e. itself (child_named root.children y) ∙ sym (child_free root.children y (free_name root.children y e));
  free = free_name root.children;
}

-- ---- devices in preorder
and_again : (a b c : Bool) → (a && b && c) ≡ (b && (a && b && c))
and_again true true c = refl
and_again true false c = refl
and_again false true c = refl
and_again false false c = refl

devices_first : (root : NodeData) → device_nodes root ≡ filter (is_device root) (node_paths_from [] (unreserved root.children))
devices_first root =
    sym (filter_both (is_device root) is_free (is_device root) (λ node_path. and_again (not (length node_path == 0)) (is_free node_path) (is_compatible (properties_of root node_path))) (paths_among root.children))
    ∙ ap (λ (ws : List NodePath). filter (is_device root) ws) (free_paths root.children ∙ sym (node_paths_from-root (unreserved root.children)))

apart_children : (root : NodeData) → IsSoundInside root → IsApart (unreserved root.children)
apart_children root s = apart-unreserved root.children (apart root.children s.siblings.distinct s.below)

pub apart_devices : (root : NodeData) → IsSoundInside root → AllPairs (λ p q. p ≢ q) (device_nodes root)
apart_devices root s = AllPairs-filter (λ p q. p ≢ q) (is_device root) (preorder root) (all_once root s)

-- ---- the laws
met_in_preorder : (root : NodeData) → IsSoundInside root → entries root ≡ map (entry_at root) (filter is_free (preorder root))
met_in_preorder root s =
    let walked = entries_from root (apart_devices root s) (unreserved root.children) [] (root.properties ∷ []) None 0 [] [] (apart_children root s) (met_first root) refl refl
    (devices_first root ∙ sym (append-nil (filter (is_device root) (node_paths_from [] (unreserved root.children))))) refl in
    ap (λ (es : List Entry). entry_at root [] ∷ es) (walked ∙ ap (λ (ws : List NodePath). map (entry_at root) ws) (node_paths_from-root (unreserved root.children) ∙ sym (free_paths root.children)))

-- each node that isn't reserved is met, once and in preorder
pub entries-preorder : (t : TreeData) → IsTree t → entries t.root ≡ map (entry_at t.root) (filter (λ node_path. not (is_reserved node_path)) (preorder t.root))
entries-preorder t is = met_in_preorder t.root (inside t.root is.sound)

-- ---- what is read off an entry
own_at : (root : NodeData) (node_path : NodePath) → own_properties (map (properties_of root) (node_paths_down node_path)) ≡ properties_of root node_path
own_at root node_path = own_last node_path (properties_of root)

met_device : (root : NodeData) (node_path : NodePath) → device_of_entry (entry_at root node_path) ≡ tree_device root node_path
met_device root node_path = λ i. record { path = path_text node_path; available = list_all-map is_okay (properties_of root) (node_paths_down node_path) i; properties = own_at root node_path i }

and_swap : (a b c : Bool) → (a && b && c) ≡ (b && (a && c))
and_swap true true c = refl
and_swap true false c = refl
and_swap false true c = refl
and_swap false false c = refl

met_is_device : (root : NodeData) (node_path : NodePath) → is_device root node_path ≡ (is_free node_path && is_device_entry (entry_at root node_path))
met_is_device root node_path =
    and_swap (not (length node_path == 0)) (is_free node_path) (is_compatible (properties_of root node_path))
    ∙ ap (λ (ps : List Property). is_free node_path && (not (length node_path == 0) && is_compatible ps)) (sym (own_at root node_path))

-- the devices that are met are those of the tree
pub tree_devices-met : (t : TreeData) → IsTree t → tree_devices t.root ≡ devices_met (entries t.root)
tree_devices-met t is =
    let root = t.root in
    let at : NodePath → Entry = entry_at root in
    let free : List NodePath = filter is_free (preorder root) in
    let all : filter (λ (w : NodePath). is_device_entry (at w)) free ≡ device_nodes root = filter_both (λ (w : NodePath). is_device_entry (at w)) is_free (is_device root) (met_is_device root) (preorder root) in
    sym (ap devices_met (entries-preorder t is)
    ∙ ap (λ (es : List Entry). map device_of_entry es) (filter_map is_device_entry at free)
    ∙ map_map device_of_entry at (filter (λ (w : NodePath). is_device_entry (at w)) free)
    ∙ ap (λ (ws : List NodePath). map (λ (w : NodePath). device_of_entry (at w)) ws) all
    ∙ map_same (λ (w : NodePath). device_of_entry (at w)) (tree_device root) (met_device root) (device_nodes root))

phandle_in_own : (o : Option (List Property)) → option_and_then phandle_in (option_and_then (λ ps. value_of ps (codes "phandle")) o) ≡ phandle_of (unwrap_or o [])
phandle_in_own None = refl
phandle_in_own (Some ps) = refl

met_has_phandle : (root : NodeData) (phandle : ℕ) (node_path : NodePath) → option_map_or (nat_eq phandle) (phandle_at (path_map root) node_path) false ≡ (is_free node_path && has_phandle phandle (entry_at root node_path))
met_has_phandle root phandle node_path = by_name (is_reserved node_path) refl where
  by_name : (t : Bool) → is_reserved node_path ≡ t → option_map_or (nat_eq phandle) (phandle_at (path_map root) node_path) false ≡ (is_free node_path && has_phandle phandle (entry_at root node_path))
  by_name true e = rw e refl
  by_name false e =
      rw e (ap (λ (o : Option ℕ). option_map_or (nat_eq phandle) o false) (phandle_in_own (properties_at root node_path))
      ∙ ap (λ (ps : List Property). option_map_or (nat_eq phandle) (phandle_of ps) false) (sym (own_at root node_path)))

met_target : (root : NodeData) (o : Option NodePath) → option_map target_of_entry (option_map (entry_at root) o) ≡ option_map (λ node_path. record { properties = properties_of root node_path; device = nearest_device root node_path }) o
met_target root None = refl
met_target root (Some node_path) = λ i. Some (record { properties = own_at root node_path i; device = nearest_device root node_path })

-- and so are the targets of phandles
pub target_of-met : (t : TreeData) → IsTree t → (phandle : ℕ) → target_of t.root phandle ≡ target_met (entries t.root) phandle
target_of-met t is phandle =
    let root = t.root in
    let at : NodePath → Entry = entry_at root in
    let free : List NodePath = filter is_free (preorder root) in
    let found : find (λ (w : NodePath). has_phandle phandle (at w)) free ≡ path_with root phandle =
    find_filter (λ (w : NodePath). has_phandle phandle (at w)) is_free (λ (w : NodePath). option_map_or (nat_eq phandle) (phandle_at (path_map root) w) false) (met_has_phandle root phandle) (preorder root) in
    sym (ap (λ (es : List Entry). target_met es phandle) (entries-preorder t is)
    ∙ ap (λ (o : Option Entry). option_map target_of_entry o) (find_map (has_phandle phandle) at free)
    ∙ ap (λ (o : Option NodePath). option_map target_of_entry (option_map at o)) found
    ∙ met_target root (path_with root phandle))

-- and there are as many as the walk counts
pub device_count-node_paths : (t : TreeData) → IsTree t → length (device_nodes t.root) ≡ device_count (unreserved t.root.children)
device_count-node_paths t is =
    let s = inside t.root is.sound in
    ap length (devices_first t.root) ∙ count_from t.root (unreserved t.root.children) [] (apart_children t.root s) (met_first t.root)
