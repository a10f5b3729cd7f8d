-- A walk meets each node below a path, once and in preorder, with its own properties and those above it, and the place of its device.
use Rattle.std.proofs.Common.{◌≡◌, ◌≢◌, ℕ, ◌+◌, Bool, true, false, if◌then◌else◌, List, [], ◌∷◌, ◌++◌, length, map, filter, append_assoc, Option, Some, refl, ap, sym, ◌∙◌, subst, arith}
use Rattle.std.specs.List.{AllPairs, position}
use Rattle.std.proofs.lemmas.List.{map-append, map_push, length-append}
use Rattle.std.proofs.lemmas.List.Elements.{filter-append}
use Rattle.dt_tree.specs.declared.property.Property.{Property}
use Rattle.dt_tree.specs.NodeData.{Siblings, none, more, NodeData}
use Rattle.dt_tree.proofs.PhandleLaws.{IsApart}
use Rattle.bus_drivers.specs.Nodes.{properties_of, node_paths_down, is_compatible, is_device, device_nodes, node_paths_eq, nearest_device}
use Rattle.bus_drivers.specs.Private.Entries.{entry, entries_among, device_count, device_here}
use Rattle.bus_drivers.proofs.EntryPlaces.{entry_at, place_after, nearest_below, IsMet, own_properties_of, own_device, met_below, met_beside}
use Rattle.bus_drivers.proofs.EntryPaths.{NodePath, node_paths_from, filter_first, node_paths_down-push}

-- ---- lists in parts
one_or_none : (t : Bool) (w : NodePath) → length (if t then w ∷ [] else []) ≡ (if t then 1 else 0)
one_or_none true w = refl
one_or_none false w = refl

place_here : (ws done later : List NodePath) (node_path : NodePath) (met : ℕ) → AllPairs (λ p q. p ≢ q) ws → ws ≡ done ++ node_path ∷ later → length done ≡ met → position (node_paths_eq node_path) ws ≡ Some met
place_here ws done later node_path met apart split long =
    ap (λ (xs : List NodePath). position (node_paths_eq node_path) xs) split
    ∙ place_after done later node_path (subst (λ (xs : List NodePath). AllPairs (λ p q. p ≢ q) xs) split apart)
    ∙ ap (λ (k : ℕ). Some k) long

module _ (done own below beside later : List NodePath) where
  split_below : done ++ ((own ++ (below ++ beside)) ++ later) ≡ (done ++ own) ++ (below ++ (beside ++ later))
  split_below = simp append_assoc

  split_beside : done ++ ((own ++ (below ++ beside)) ++ later) ≡ ((done ++ own) ++ below) ++ (beside ++ later)
  split_beside = simp append_assoc

-- ---- the devices below a path
module _ (root : NodeData) where
  abbrev devices_from : NodePath → Siblings → List NodePath
  devices_from node_path f = filter (is_device root) (node_paths_from node_path f)

  abbrev own_node_path : NodePath → List Property → List NodePath
  own_node_path node_path p = if is_compatible p then node_path ∷ [] else []

  devices_more : (node_path : NodePath) (n : List ℕ) (p : List Property) (c rest : Siblings) → IsMet root node_path (more n p c rest)
      → devices_from node_path (more n p c rest) ≡ own_node_path (node_path ++ n ∷ []) p ++ (devices_from (node_path ++ n ∷ []) c ++ devices_from node_path rest)
  devices_more node_path n p c rest m =
      filter_first (is_device root) (node_path ++ n ∷ []) (node_paths_from (node_path ++ n ∷ []) c ++ node_paths_from node_path rest)
      ∙ ap (λ (t : Bool). (if t then (node_path ++ n ∷ []) ∷ [] else []) ++ filter (is_device root) (node_paths_from (node_path ++ n ∷ []) c ++ node_paths_from node_path rest)) (own_device root node_path n p c rest m)
      ∙ ap (λ (ws : List NodePath). own_node_path (node_path ++ n ∷ []) p ++ ws) (filter-append (is_device root) (node_paths_from (node_path ++ n ∷ []) c) (node_paths_from node_path rest))

  pub count_from : (f : Siblings) (node_path : NodePath) → IsApart f → IsMet root node_path f → length (devices_from node_path f) ≡ device_count f
  count_from none node_path a m = refl
  count_from (more n p c rest) node_path a m =
      let whole = ap length (devices_more node_path n p c rest m) in
      let outer = length-append (own_node_path (node_path ++ n ∷ []) p) (devices_from (node_path ++ n ∷ []) c ++ devices_from node_path rest) in
      let inner = length-append (devices_from (node_path ++ n ∷ []) c) (devices_from node_path rest) in
      let own = one_or_none (is_compatible p) (node_path ++ n ∷ []) in
      let down = count_from c (node_path ++ n ∷ []) a.1 (met_below root node_path n p c rest m) in
      let on = count_from rest node_path a.2 (met_beside root node_path n p c rest m a.0) in
      omega (arith, whole, outer, inner, own, down, on)

  chain_below : (node_path : NodePath) (n : List ℕ) (p : List Property) (chain : List (List Property)) → chain ≡ map (properties_of root) (node_paths_down node_path) → properties_of root (node_path ++ n ∷ []) ≡ p
      → chain ++ p ∷ [] ≡ map (properties_of root) (node_paths_down (node_path ++ n ∷ []))
  chain_below node_path n p chain is own =
      (λ i. is i ++ sym own i ∷ [])
      ∙ sym (map_push (properties_of root) (node_paths_down node_path) (node_path ++ n ∷ []))
      ∙ ap (λ (ws : List NodePath). map (properties_of root) ws) (sym (node_paths_down-push node_path n))

  module _ (apart_node_paths : AllPairs (λ p q. p ≢ q) (device_nodes root)) where
    pub entries_from : (f : Siblings) (node_path : NodePath) (chain : List (List Property)) (above : Option ℕ) (met : ℕ) (done later : List NodePath) → IsApart f → IsMet root node_path f
        → chain ≡ map (properties_of root) (node_paths_down node_path) → above ≡ nearest_device root node_path → device_nodes root ≡ done ++ (devices_from node_path f ++ later) → length done ≡ met
        → entries_among node_path chain above met f ≡ map (entry_at root) (node_paths_from node_path f)
    entries_from none node_path chain above met done later a m is up split long = refl
    entries_from (more n p c rest) node_path chain above met done later a m is up split long =
        let here : NodePath = node_path ++ n ∷ [] in
        let own : List NodePath = own_node_path here p in
        let below : List NodePath = devices_from here c in
        let beside : List NodePath = devices_from node_path rest in
        let m_below = met_below root node_path n p c rest m in
        let m_beside = met_beside root node_path n p c rest m a.0 in
        let whole : device_nodes root ≡ done ++ ((own ++ (below ++ beside)) ++ later) = split ∙ ap (λ (ws : List NodePath). done ++ (ws ++ later)) (devices_more node_path n p c rest m) in
        let own_long : length own ≡ (if is_compatible p then 1 else 0) = one_or_none (is_compatible p) here in
        let below_long : length below ≡ device_count c = count_from c here a.1 m_below in
        let long_own : length (done ++ own) ≡ length done + length own = length-append done own in
        let long_below : length ((done ++ own) ++ below) ≡ length (done ++ own) + length below = length-append (done ++ own) below in
        let chain_is = chain_below node_path n p chain is (own_properties_of root node_path n p c rest m) in
        let at_place : is_compatible p ≡ true → position (node_paths_eq here) (device_nodes root) ≡ Some met =
        λ e. place_here (device_nodes root) done ((below ++ beside) ++ later) here met apart_node_paths
        (whole ∙ ap (λ (t : Bool). done ++ (((if t then here ∷ [] else []) ++ (below ++ beside)) ++ later)) e) long in
        let up_is = nearest_below root node_path n p met above (own_device root node_path n p c rest m) at_place up in
        let kids = entries_from c here (chain ++ p ∷ []) (device_here p met above) ((if is_compatible p then 1 else 0) + met) (done ++ own) (beside ++ later) a.1 m_below chain_is up_is
        (whole ∙ split_below done own below beside later) (omega arith) in
        let others = entries_from rest node_path chain above (((if is_compatible p then 1 else 0) + device_count c) + met) ((done ++ own) ++ below) later a.2 m_beside is up
        (whole ∙ split_beside done own below beside later) (omega arith) in
        λ i. entry here (chain_is i) (up_is i) ∷ (((λ j. kids j ++ others j) ∙ sym (map-append (entry_at root) (node_paths_from here c) (node_paths_from node_path rest))) i)
