-- What a walk meets at each node: its own properties, those above it, and the place of its device.
use Rattle.std.proofs.Common.{◌≡◌, ◌≢◌, ℕ, ◌+◌, ◌<◌, Bool, true, false, if◌then◌else◌, nat_lt, List, [], ◌∷◌, ◌++◌, length, get_or, map, Option, Some, None, option_and_then, refl, ap, sym, ◌∙◌, subst, arith}
use Rattle.std.specs.Option.{option_map, unwrap_or}
use Rattle.std.specs.List.{AllPairs, position, position_or_len}
use Rattle.std.specs.Str.{bytes_eq}
use Rattle.std.proofs.lemmas.List.{length-append, get_or_at}
use Rattle.std.proofs.lemmas.List.Sums.{position_or_len_is}
use Rattle.std.proofs.lemmas.Bool.Decides.{nat_tests}
use Rattle.std.proofs.lemmas.Slice.Eq.{bytes_eq-Decides}
use Rattle.dt_tree.specs.declared.property.Property.{Property}
use Rattle.dt_tree.specs.NodeData.{Siblings, more, NodeData, node_data, child_names}
use Rattle.dt_tree.specs.PathMap.{child_named, node_at}
use Rattle.dt_tree.specs.Phandle.{is_reserved, or_else}
use Rattle.dt_tree.specs.Sound.{is_among}
use Rattle.dt_tree.proofs.PhandleLaws.{among_apart}
use Rattle.dt_tree.proofs.Places.{bytes_eq-refl, node_at-append, both}
use Rattle.bus_drivers.specs.Nodes.{properties_of, node_paths_down, is_compatible, is_device, device_nodes, node_paths_eq, last_device, nearest_device}
use Rattle.bus_drivers.specs.Private.Entries.{Entry, entry, device_here}
use Rattle.bus_drivers.proofs.EntryPaths.{NodePath, reserved_below, not_root, node_paths_down-push}

-- what is met at a path
abbrev pub entry_at : NodeData → NodePath → Entry
entry_at root node_path = entry node_path (map (properties_of root) (node_paths_down node_path)) (nearest_device root node_path)

-- ---- equal paths
pub node_paths_eq-same : (x y : NodePath) → node_paths_eq x y ≡ true → x ≡ y
node_paths_eq-same [] [] e = refl
node_paths_eq-same [] (m ∷ ms) e = absurd (let bad : false ≡ true = e in cc bad)
node_paths_eq-same (n ∷ ns) [] e = absurd (let bad : false ≡ true = e in cc bad)
node_paths_eq-same (n ∷ ns) (m ∷ ms) e =
    let parts = both (bytes_eq n m) (node_paths_eq ns ms) e in
    let first : n ≡ m = (bytes_eq-Decides n m).0 parts.0 in
    let rest = node_paths_eq-same ns ms parts.1 in
    λ i. first i ∷ rest i

pub node_paths_eq-refl : (x : NodePath) → node_paths_eq x x ≡ true
node_paths_eq-refl [] = refl
node_paths_eq-refl (n ∷ ns) = rw (bytes_eq-refl n) (node_paths_eq-refl ns)

node_paths_differ : (x y : NodePath) → (x ≢ y) → (t : Bool) → node_paths_eq y x ≡ t → node_paths_eq y x ≡ false
node_paths_differ x y apart true e = absurd (apart (sym (node_paths_eq-same y x e)))
node_paths_differ x y apart false e = e

-- the place of a path among paths that differ
pub place_after : (done later : List NodePath) (node_path : NodePath) → AllPairs (λ p q. p ≢ q) (done ++ node_path ∷ later) → position (node_paths_eq node_path) (done ++ node_path ∷ later) ≡ Some (length done)
place_after done later node_path apart =
    let all : List NodePath = done ++ node_path ∷ later in
    let long : length all ≡ length done + length (node_path ∷ later) = length-append done (node_path ∷ later) in
    let here : get_or all (length done) node_path ≡ node_path = get_or_at done node_path later node_path (length done) refl in
    let within : length done < length all = omega (arith, long) in
    let place : position_or_len (node_paths_eq node_path) all ≡ length done =
    position_or_len_is (node_paths_eq node_path) all (length done) node_path (omega arith)
    (λ k lt. node_paths_differ (get_or all k node_path) node_path (subst (λ (w : NodePath). get_or all k node_path ≢ w) here (apart k (length done) node_path lt within)) _ refl)
    (λ lt. ap (node_paths_eq node_path) here ∙ node_paths_eq-refl node_path) in
    let inside : nat_lt (length done) (length all) ≡ true = grind (arith, nat_tests) in
    rw (place, inside) refl

-- ---- the nearest device
or_else_none : {A : Type 0} (o : Option A) → or_else o None ≡ o
or_else_none None = refl
or_else_none (Some x) = refl

or_else_assoc : {A : Type 0} (a b c : Option A) → or_else (or_else a b) c ≡ or_else a (or_else b c)
or_else_assoc None b c = refl
or_else_assoc (Some x) b c = refl

pub last_device-push : (root : NodeData) (ws : List NodePath) (w : NodePath) → last_device root (ws ++ w ∷ []) ≡ or_else (if is_device root w then Some w else None) (last_device root ws)
last_device-push root [] w = sym (or_else_none (if is_device root w then Some w else None))
last_device-push root (v ∷ vs) w =
    ap (λ (o : Option NodePath). or_else o (if is_device root v then Some v else None)) (last_device-push root vs w)
    ∙ or_else_assoc (if is_device root w then Some w else None) (last_device root vs) (if is_device root v then Some v else None)

module _ (root : NodeData) (node_path : NodePath) (n : List ℕ) (p : List Property) (met : ℕ) (above : Option ℕ) where
  abbrev here : NodePath
  here = node_path ++ n ∷ []

  abbrev place : NodePath → Option ℕ
  place d = position (node_paths_eq d) (device_nodes root)

  here_or_above : (t : Bool) → is_compatible p ≡ t → is_device root here ≡ is_compatible p → (is_compatible p ≡ true → place here ≡ Some met) → above ≡ nearest_device root node_path
      → device_here p met above ≡ option_and_then place (or_else (if is_device root here then Some here else None) (last_device root (node_paths_down node_path)))
  here_or_above true e is at_place up = rw (is, e) (sym (at_place e))
  here_or_above false e is at_place up = rw (is, e) up

  pub nearest_below : is_device root here ≡ is_compatible p → (is_compatible p ≡ true → place here ≡ Some met) → above ≡ nearest_device root node_path → device_here p met above ≡ nearest_device root here
  nearest_below is at_place up =
      here_or_above (is_compatible p) refl is at_place up
      ∙ ap (λ (o : Option NodePath). option_and_then place o) (sym (last_device-push root (node_paths_down node_path) here))
      ∙ ap (λ (ws : List NodePath). option_and_then place (last_device root ws)) (sym (node_paths_down-push node_path n))

-- ---- what stands below a path
pub record IsMet (root : NodeData) (node_path : NodePath) (f : Siblings) : Type 0 where
  pub stands : (y : List ℕ) → is_among y (child_names f) ≡ true → node_at root (node_path ++ y ∷ []) ≡ child_named f y
  pub free : (y : List ℕ) → is_among y (child_names f) ≡ true → is_reserved (node_path ++ y ∷ []) ≡ false

module _ (root : NodeData) (node_path : NodePath) (n : List ℕ) (p : List Property) (c rest : Siblings) (m : IsMet root node_path (more n p c rest)) where
  among_first : is_among n (n ∷ child_names rest) ≡ true
  among_first = rw (bytes_eq-refl n) refl

  first_stands : node_at root (node_path ++ n ∷ []) ≡ Some (node_data n p c)
  first_stands = m.stands n among_first ∙ rw (bytes_eq-refl n) refl

  pub own_properties_of : properties_of root (node_path ++ n ∷ []) ≡ p
  own_properties_of = ap (λ (o : Option NodeData). unwrap_or (option_map (λ (x : NodeData). x.properties) o) []) first_stands

  pub own_device : is_device root (node_path ++ n ∷ []) ≡ is_compatible p
  own_device = rw (not_root node_path n, m.free n among_first) (ap is_compatible own_properties_of)

  pub met_below : IsMet root (node_path ++ n ∷ []) c
  met_below = record {
    stands = λ y e. node_at-append (node_path ++ n ∷ []) root y ∙ ap (λ (o : Option NodeData). option_and_then (λ (x : NodeData). child_named x.children y) o) first_stands;
    free = λ y e. reserved_below node_path n (y ∷ []) ∙ m.free n among_first;
  }

  pub met_beside : is_among n (child_names rest) ≡ false → IsMet root node_path rest
  met_beside alone = record {
    stands = λ y e. let other = among_apart n y (child_names rest) alone e _ refl in m.stands y (rw other e) ∙ rw other refl;
    free = λ y e. let other = among_apart n y (child_names rest) alone e _ refl in m.free y (rw other e);
  }
