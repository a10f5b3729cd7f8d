-- The paths of a tree's devices, and the places that targets name.
use Rattle.std.proofs.Common.{◌≡◌, ◌≢◌, ℕ, ◌<◌, Bool, true, false, not, ◌&&◌, ◌==◌, List, [], ◌∷◌, length, get_or, map, Some, is_some, refl, ap, sym, ◌∙◌, subst, arith}
use Rattle.std.specs.List.{All, AllPairs, position}
use Rattle.std.specs.Str.{bytes_eq}
use Rattle.std.proofs.lemmas.List.{get_or-map, length-map}
use Rattle.std.proofs.lemmas.List.Elements.{All-filter, All-map, filter_passes}
use Rattle.std.proofs.lemmas.List.Quantifiers.{position-Some}
use Rattle.std.proofs.lemmas.Option.{option_and_then_some}
use Rattle.std.proofs.lemmas.Slice.Eq.{bytes_eq-Decides}
use Rattle.dt_tree.specs.Name.{are_names}
use Rattle.dt_tree.specs.NodeData.{NodeData}
use Rattle.dt_tree.specs.Path.{path_names, path_text}
use Rattle.dt_tree.specs.PathMap.{node_at}
use Rattle.dt_tree.specs.Phandle.{is_reserved}
use Rattle.dt_tree.specs.Preorder.{preorder}
use Rattle.dt_tree.proofs.PathTexts.{is_path-path_text, path_names-path_text}
use Rattle.dt_tree.proofs.Places.{IsSoundInside, names_at, some_inj}
use Rattle.dt_tree.proofs.PreorderLaws.{all_stand}
use Rattle.bus_plan.specs.Plan.{is_device_path}
use Rattle.bus_drivers.specs.Nodes.{properties_of, node_paths_down, is_compatible, is_device, node_paths_eq, device_nodes, tree_device, tree_devices, TreeDevice, last_device, nearest_device, path_with, target_of, Target}
use Rattle.bus_drivers.proofs.Entries.{apart_devices}
use Rattle.bus_drivers.proofs.EntryPaths.{NodePath}

-- ---- the path of a device
first_of_three : (a b c : Bool) → (a && b && c) ≡ true → a ≡ true
first_of_three true b c e = refl
first_of_three false b c e = e

below_root : (root : NodeData) (node_path : NodePath) → is_device root node_path ≡ true → not (length node_path == 0) ≡ true
below_root root node_path e = first_of_three (not (length node_path == 0)) (not (is_reserved node_path)) (is_compatible (properties_of root node_path)) e

device_names : (root : NodeData) → IsSoundInside root → All (λ node_path. are_names node_path ≡ true) (device_nodes root)
device_names root s = λ k d lt. names_at (get_or (device_nodes root) k d) root s (All-filter (is_device root) (λ node_path. is_some (node_at root node_path) ≡ true) (preorder root) (all_stand root s) k d lt)

-- ---- its path
same_text : (v w : NodePath) → are_names v ≡ true → are_names w ≡ true → path_text v ≡ path_text w → v ≡ w
same_text v w a b e = sym (path_names-path_text v a) ∙ ap path_names e ∙ path_names-path_text w b

not_slash : (node_path : NodePath) → are_names node_path ≡ true → not (length node_path == 0) ≡ true → (t : Bool) → bytes_eq (path_text node_path) (47 ∷ []) ≡ t → bytes_eq (path_text node_path) (47 ∷ []) ≡ false
not_slash node_path a below true e =
    let same : path_text node_path ≡ 47 ∷ [] = (bytes_eq-Decides (path_text node_path) (47 ∷ [])).0 e in
    let root : node_path ≡ [] = same_text node_path [] a refl same in
    absurd (let bad : false ≡ true = subst (λ (w : NodePath). not (length w == 0) ≡ true) root below in cc bad)
not_slash node_path a below false e = e

path_lawful : (root : NodeData) (node_path : NodePath) → are_names node_path ≡ true → is_device root node_path ≡ true → is_device_path (path_text node_path) ≡ true
path_lawful root node_path a e = rw (is_path-path_text node_path a, not_slash node_path a (below_root root node_path e) _ refl) refl

-- each is the path of a device
pub device_paths : (root : NodeData) → IsSoundInside root → All (λ d. is_device_path d.path ≡ true) (tree_devices root)
device_paths root s =
    All-map (λ (d : TreeDevice). is_device_path d.path ≡ true) (tree_device root) (device_nodes root)
    (λ k d lt. path_lawful root (get_or (device_nodes root) k d) (device_names root s k d lt) (filter_passes (is_device root) (preorder root) k d lt))

-- no two are the same
pub device_paths-apart : (root : NodeData) → IsSoundInside root → AllPairs (λ p q. p ≢ q) (map (λ (d : TreeDevice). d.path) (tree_devices root))
device_paths-apart root s = λ i j d lt within same.
    let node_paths : List NodePath = device_nodes root in
    let devices : List TreeDevice = tree_devices root in
    let long : length devices ≡ length node_paths = length-map node_paths (tree_device root) in
    let longer : length (map (λ (x : TreeDevice). x.path) devices) ≡ length devices = length-map devices (λ (x : TreeDevice). x.path) in
    let in_j : j < length node_paths = omega arith in
    let in_i : i < length node_paths = omega arith in
    let text_i : get_or (map (λ (x : TreeDevice). x.path) devices) i d ≡ path_text (get_or node_paths i []) =
    get_or-map (λ (x : TreeDevice). x.path) devices i (tree_device root []) d (omega arith) ∙ ap (λ (x : TreeDevice). x.path) (get_or-map (tree_device root) node_paths i [] (tree_device root []) in_i) in
    let text_j : get_or (map (λ (x : TreeDevice). x.path) devices) j d ≡ path_text (get_or node_paths j []) =
    get_or-map (λ (x : TreeDevice). x.path) devices j (tree_device root []) d (omega arith) ∙ ap (λ (x : TreeDevice). x.path) (get_or-map (tree_device root) node_paths j [] (tree_device root []) in_j) in
    apart_devices root s i j [] lt in_j (same_text (get_or node_paths i []) (get_or node_paths j []) (device_names root s i [] in_i) (device_names root s j [] in_j) (sym text_i ∙ same ∙ text_j))

-- ---- fixup sites
place_within : (root : NodeData) (node_path : NodePath) (d : ℕ) → nearest_device root node_path ≡ Some d → d < length (tree_devices root)
place_within root node_path d e =
    option_and_then_some (λ (w : NodePath). position (node_paths_eq w) (device_nodes root)) (last_device root (node_paths_down node_path)) d e
    (λ w _ at. let found = position-Some (node_paths_eq w) (device_nodes root) d w at in let long = length-map (device_nodes root) (tree_device root) in omega (arith, found, long))

-- the device of a target is one of the tree's
pub target_within : (root : NodeData) (phandle : ℕ) (t : Target) → target_of root phandle ≡ Some t → (d : ℕ) → t.device ≡ Some d → d < length (tree_devices root)
target_within root phandle t e d is =
    option_and_then_some (λ (w : NodePath). Some (record { properties = properties_of root w; device = nearest_device root w })) (path_with root phandle) t e
    (λ w _ at. place_within root w d (ap (λ (x : Target). x.device) (some_inj (record { properties = properties_of root w; device = nearest_device root w }) t at) ∙ is))
