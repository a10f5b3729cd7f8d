-- Plans by links are lawful.
use Rattle.std.proofs.Common.{◌≡◌, ◌≢◌, ℕ, zero, suc, ◌+◌, ◌<◌, ◌≤◌, Bool, true, false, if◌then◌else◌, not, nat_lt, ◌&&◌, List, [], ◌∷◌, ◌++◌, length, map, Option, Some, None, option_and_then, refl, ap, sym, ◌∙◌, subst, arith}
use Rattle.std.specs.Prelude.{codes, filter, slice_get, ◌==◌}
use Rattle.std.specs.Str.{bytes_eq}
use Rattle.std.specs.Option.{option_map_or, option_to_list}
use Rattle.std.specs.List.{All, AllPairs, Contains}
use Rattle.std.proofs.lemmas.List.{length-map}
use Rattle.std.proofs.lemmas.List.Elements.{All-nil, All-cons, All-head, All-tail, All-append, All-filter, All-map}
use Rattle.std.proofs.lemmas.Option.{option_and_then_some, slice_get_within}
use Rattle.dt_tree.specs.NodeData.{NodeData}
use Rattle.dt_tree.specs.TreeData.{TreeData, IsTree}
use Rattle.dt_tree.proofs.Places.{IsSoundInside, inside}
use Rattle.bus_plan.specs.Limits.{most_devices}
use Rattle.bus_plan.specs.Plan.{PlannedDevice, is_device_path, paths, suppliers_of, IsLawfulDevice, IsLawful}
use Rattle.bus_drivers.specs.Driver.{DriverSetData, IsDriverSet}
use Rattle.bus_drivers.specs.Nodes.{TreeDevice, device_nodes, tree_device, tree_devices}
use Rattle.bus_drivers.specs.TreePlan.{suppliers_among, planned_device}
use Rattle.bus_drivers.proofs.DevicePaths.{device_paths, device_paths-apart}
use Rattle.bus_drivers.proofs.Lawful.{planned_lawful}
use Rattle.bus_drivers.proofs.Mentions.{suppliers_all, suppliers_apart, suppliers_others}
use Rattle.bus_links.specs.LinkDrivers.{LinkDriversData}
use Rattle.bus_links.specs.Bindings.LinkNodes.{LinkNode, node_at, tree_nodes, device_places}
use Rattle.bus_links.specs.LinkPlan.{is_counted, is_lasting, is_waited_for, lacks_driver, late_link, late_links, left_links, links_at, parent_at, planned_by, planned_late, suppliers_by, with_supplier}
use Rattle.bus_links.specs.Links.{LinkData, device_if, is_made, linux_devices, made_from, tree_buses, supplier_at, supplier_of, link_by, links_by, flags, is_bus_for, bus_above, bus_link, links_of, node_of, links_from, parents_from, has_string, tree_links, tree_parents}
use Rattle.bus_links.specs.Bindings.Endpoints.{found_of}
use Rattle.bus_links.specs.Bindings.Mentions.{MentionData}

-- ---- suppliers are devices
abbrev IsWithin : ℕ → LinkData → Type 0
IsWithin n l = l.supplier < n

some_if : {A : Type 0} (t : Bool) (x y : A) → (if t then Some x else None) ≡ Some y → x ≡ y
some_if true x y e = cc
some_if false x y e = absurd (cc e)

-- what an option gives, as a list
of_option : (P : LinkData → Type 0) (f : ℕ → LinkData) (o : Option ℕ) → ((s : ℕ) → o ≡ Some s → P (f s)) → All P (map f (option_to_list o))
of_option P f None h = All-nil P
of_option P f (Some s) h = All-cons P (f s) [] (h s refl) (All-nil P)

module _ (nodes : List LinkNode) (devices : List TreeDevice) where
  at_place : (own place s : ℕ) → supplier_at devices own place ≡ Some s → s < length devices
  at_place own place s e = by (slice_get devices place) refl e where
    by : (o : Option TreeDevice) → slice_get devices place ≡ o → (if option_map_or (λ d. d.available) o false && not (place == own) then Some place else None) ≡ Some s → s < length devices
    by None is h = absurd (cc h)
    by (Some d) is h = subst (λ (k : ℕ). k < length devices) (some_if (d.available && not (place == own)) place s h) (slice_get_within devices place d is)

  of_node : (own node s : ℕ) → supplier_of nodes devices own node ≡ Some s → s < length devices
  of_node own node s e = by (node_at nodes node).usable e where
    by : (t : Bool) → (if t then option_and_then (supplier_at devices own) (node_at nodes node).device else None) ≡ Some s → s < length devices
    by false h = absurd (cc h)
    by true h = option_and_then_some (supplier_at devices own) (node_at nodes node).device s h (λ place _ at. at_place own place s at)

  by_mentions : (own : ℕ) (ms : List MentionData) → All (IsWithin (length devices)) (links_by nodes devices own ms)
  by_mentions own [] = All-nil (IsWithin (length devices))
  by_mentions own (m ∷ ms) =
      All-append (IsWithin (length devices)) (map (link_by nodes own m) (option_to_list (supplier_of nodes devices own m.node))) (links_by nodes devices own ms)
      (of_option (IsWithin (length devices)) (link_by nodes own m) (supplier_of nodes devices own m.node) (λ s is. of_node own m.node s is))
      (by_mentions own ms)

  module _ (buses : List Bool) (long : length buses ≡ length devices) where
    of_bus : (own bus : ℕ) → is_bus_for buses own bus ≡ true → bus < length devices
    of_bus own bus e = by (slice_get buses bus) refl e where
      by : (o : Option Bool) → slice_get buses bus ≡ o → (nat_lt bus own && option_map_or not o false) ≡ true → bus < length devices
      by None is h = absurd (no (nat_lt bus own) h) where
        no : (t : Bool) → (t && false) ≡ true → ⊥
        no true g = let bad : false ≡ true = g in cc bad
        no false g = let bad : false ≡ true = g in cc bad
      by (Some b) is h = let within : bus < length buses = slice_get_within buses bus b is in omega arith

    of_bus_above : (own node s : ℕ) → bus_above nodes buses own node ≡ Some s → s < length devices
    of_bus_above own node s e =
        option_and_then_some (λ bus. if is_bus_for buses own bus then Some bus else None) (node_at nodes (node_at nodes node).above).device s e (λ bus _ at. by bus (is_bus_for buses own bus) refl at) where
          by : (bus : ℕ) (t : Bool) → is_bus_for buses own bus ≡ t → (if t then Some bus else None) ≡ Some s → s < length devices
          by bus true is h = let same : bus ≡ s = cc in subst (λ (k : ℕ). k < length devices) same (of_bus own bus is)
          by bus false is h = absurd (cc h)

    of_device : (strict : Bool) (d : TreeDevice) (own node : ℕ) → All (IsWithin (length devices)) (links_of nodes devices buses strict d own node)
    of_device strict d own node = by d.available where
      by : (t : Bool) → All (IsWithin (length devices)) (if t then links_by nodes devices own (found_of nodes strict own node).mentions ++ map (bus_link own) (option_to_list (bus_above nodes buses own node)) else [])
      by false = All-nil (IsWithin (length devices))
      by true =
          All-append (IsWithin (length devices)) (links_by nodes devices own (found_of nodes strict own node).mentions) (map (bus_link own) (option_to_list (bus_above nodes buses own node)))
          (by_mentions own (found_of nodes strict own node).mentions)
          (of_option (IsWithin (length devices)) (bus_link own) (bus_above nodes buses own node) (λ s is. of_bus_above own node s is))

    pub all_within : (strict : Bool) (places : List ℕ) (ds : List TreeDevice) (own k : ℕ) → All (IsWithin (length devices)) (links_at (links_from nodes devices buses strict places own ds) k)
    all_within strict places [] own k = All-nil (IsWithin (length devices))
    all_within strict places (d ∷ ds) own zero = of_device strict d own (node_of places own)
    all_within strict places (d ∷ ds) own (suc k) = all_within strict places ds (own + 1) k

    pub parents_within : (places : List ℕ) (ds : List TreeDevice) (own k s : ℕ) → parent_at (parents_from nodes buses places own ds) k ≡ Some s → s < length devices
    parents_within places [] own k s e = absurd (cc e)
    parents_within places (d ∷ ds) own zero s e = of_bus_above own (node_of places own) s e
    parents_within places (d ∷ ds) own (suc k) s e = parents_within places ds (own + 1) k s e

-- ---- devices as Linux makes them
module _ (nodes : List LinkNode) (early buses : List Bool) (places : List ℕ) where
  made_paths : (ds : List TreeDevice) (own : ℕ) → map (λ d. d.path) (made_from nodes early buses places own ds) ≡ map (λ d. d.path) ds
  made_paths [] own = refl
  made_paths (d ∷ ds) own = ap (λ (ps : List (List ℕ)). d.path ∷ ps) (made_paths ds (own + 1))

  pub made_length : (ds : List TreeDevice) (own : ℕ) → length (made_from nodes early buses places own ds) ≡ length ds
  made_length [] own = refl
  made_length (d ∷ ds) own = ap suc (made_length ds (own + 1))

  made_all : (P : List ℕ → Type 0) (ds : List TreeDevice) (own : ℕ) → All (λ d. P d.path) ds → All (λ d. P d.path) (made_from nodes early buses places own ds)
  made_all P [] own h = All-nil (λ d. P d.path)
  made_all P (d ∷ ds) own h =
      All-cons (λ x. P x.path) (device_if (is_made nodes early buses own (node_of places own)) d) (made_from nodes early buses places (own + 1) ds) (All-head (λ x. P x.path) d ds h)
      (made_all P ds (own + 1) (All-tail (λ x. P x.path) d ds h))

-- ---- what is left behind the timeout
left_within : (n : ℕ) (strict : Bool) (plan : List PlannedDevice) (buses : List (Option ℕ)) (l : LinkData) → ((k s : ℕ) → parent_at buses k ≡ Some s → s < n) → IsWithin n l
    → All (IsWithin n) (late_link strict plan buses l)
left_within n strict plan buses l parental h = by (not strict && bytes_eq l.property (codes "iommus")) (not (is_lasting l) && lacks_driver plan l.supplier) where
  by : (s t : Bool) → All (IsWithin n) (if s then [] else (if t then map (with_supplier l) (option_to_list (parent_at buses l.supplier)) else l ∷ []))
  by true t = All-nil (IsWithin n)
  by false true = of_option (IsWithin n) (with_supplier l) (parent_at buses l.supplier) (λ s is. parental l.supplier s is)
  by false false = All-cons (IsWithin n) l [] h (All-nil (IsWithin n))

module _ (n : ℕ) (strict : Bool) (plan : List PlannedDevice) (buses : List (Option ℕ)) (test : LinkData → Bool) (parental : (k s : ℕ) → parent_at buses k ≡ Some s → s < n) where
  all_left : (ls : List LinkData) → All (IsWithin n) ls → All (IsWithin n) (late_links test (late_link strict plan buses) ls)
  all_left [] h = All-nil (IsWithin n)
  all_left (l ∷ ls) h =
      All-append (IsWithin n) (if test l then late_link strict plan buses l else []) (late_links test (late_link strict plan buses) ls) (by (test l)) (all_left ls (All-tail (IsWithin n) l ls h)) where
        by : (t : Bool) → All (IsWithin n) (if t then late_link strict plan buses l else [])
        by true = left_within n strict plan buses l parental (All-head (IsWithin n) l ls h)
        by false = All-nil (IsWithin n)

  left_at : (links : List (List LinkData)) (k : ℕ) → All (IsWithin n) (links_at links k) → All (IsWithin n) (links_at (map (late_links test (late_link strict plan buses)) links) k)
  left_at [] k h = All-nil (IsWithin n)
  left_at (ls ∷ more) zero h = all_left ls h
  left_at (ls ∷ more) (suc k) h = left_at more k h

-- a parent, as a list
of_parent : (n : ℕ) (o : Option ℕ) → ((s : ℕ) → o ≡ Some s → s < n) → All (λ s. s < n) (option_to_list o)
of_parent n None h = All-nil (λ s. s < n)
of_parent n (Some s) h = All-cons (λ s. s < n) s [] (h s refl) (All-nil (λ s. s < n))

-- ---- one by one
module _ (set : DriverSetData) (test : LinkData → Bool) (parents : List (Option ℕ)) (links : List (List LinkData)) where
  planned_paths : (ds : List TreeDevice) (own : ℕ) → paths (planned_by set test parents links own ds) ≡ map (λ d. d.path) ds
  planned_paths [] own = refl
  planned_paths (d ∷ ds) own = ap (λ (ps : List (List ℕ)). d.path ∷ ps) (planned_paths ds (own + 1))

  all_lawful : IsDriverSet set → (ds : List TreeDevice) (own : ℕ) → All (λ d. is_device_path d.path ≡ true) ds → All IsLawfulDevice (planned_by set test parents links own ds)
  all_lawful s [] own h = All-nil IsLawfulDevice
  all_lawful s (d ∷ ds) own h =
      All-cons IsLawfulDevice (planned_device set d (suppliers_by test own (links_at links own) (parent_at parents own))) (planned_by set test parents links (own + 1) ds)
      (planned_lawful set s d (suppliers_by test own (links_at links own) (parent_at parents own)) (All-head (λ x. is_device_path x.path ≡ true) d ds h))
      (all_lawful s ds (own + 1) (All-tail (λ x. is_device_path x.path ≡ true) d ds h))

  module _ (n : ℕ) (within : (k : ℕ) → All (IsWithin n) (links_at links k)) (parental : (k s : ℕ) → parent_at parents k ≡ Some s → s < n) where
    abbrev SuppliersAt : List PlannedDevice → ℕ → ℕ → Type 0
    SuppliersAt plan k place = (mentioned : List ℕ) × All (λ s. s < n) mentioned × (suppliers_of plan k ≡ suppliers_among place mentioned)

    mentioned_at : (own : ℕ) → All (λ s. s < n) (map (λ l. l.supplier) (filter test (links_at links own)) ++ option_to_list (parent_at parents own))
    mentioned_at own =
        All-append (λ s. s < n) (map (λ l. l.supplier) (filter test (links_at links own))) (option_to_list (parent_at parents own))
        (All-map (λ s. s < n) (λ (l : LinkData). l.supplier) (filter test (links_at links own)) (All-filter test (IsWithin n) (links_at links own) (within own)))
        (of_parent n (parent_at parents own) (parental own))

    suppliers_at : (ds : List TreeDevice) (own k : ℕ) → SuppliersAt (planned_by set test parents links own ds) k (own + k)
    suppliers_at [] own k = ([], All-nil (λ s. s < n), refl)
    suppliers_at (d ∷ ds) own zero =
        let same : own ≡ own + 0 = omega arith in
        subst (λ (p : ℕ). SuppliersAt (planned_by set test parents links own (d ∷ ds)) 0 p) same (map (λ l. l.supplier) (filter test (links_at links own)) ++ option_to_list (parent_at parents own), mentioned_at own, refl)
    suppliers_at (d ∷ ds) own (suc k) =
        let same : (own + 1) + k ≡ own + suc k = omega arith in
        subst (λ (p : ℕ). SuppliersAt (planned_by set test parents links (own + 1) ds) k p) same (suppliers_at ds (own + 1) k)

-- ---- the plan
-- of devices whose paths are those of a tree's
pub lawful_by : (t : TreeData) → IsTree t → (set : DriverSetData) → IsDriverSet set → length (device_nodes t.root) ≤ most_devices → (devices : List TreeDevice) → length devices ≡ length (tree_devices t.root)
    → map (λ d. d.path) devices ≡ map (λ d. d.path) (tree_devices t.root) → All (λ d. is_device_path d.path ≡ true) devices → (test : LinkData → Bool) (parents : List (Option ℕ)) (links : List (List LinkData))
    → ((k : ℕ) → All (IsWithin (length devices)) (links_at links k)) → ((k s : ℕ) → parent_at parents k ≡ Some s → s < length devices)
    → IsLawful (planned_by set test parents links 0 devices)
lawful_by t is set named few devices many same paths_are test parents links within parental =
    let root : NodeData = t.root in
    let s : IsSoundInside root = inside root is.sound in
    let plan : List PlannedDevice = planned_by set test parents links 0 devices in
    let n : ℕ = length devices in
    let texts : paths plan ≡ map (λ (d : TreeDevice). d.path) devices = planned_paths set test parents links devices 0 in
    let long_plan = length-map plan (λ (d : PlannedDevice). d.path) in
    let long_devices = length-map devices (λ (d : TreeDevice). d.path) in
    let long_nodes = length-map (device_nodes root) (tree_device root) in
    let long : length plan ≡ n = sym long_plan ∙ ap length texts ∙ long_devices in
    let of_tree : paths plan ≡ map (λ (d : TreeDevice). d.path) (tree_devices root) = texts ∙ same in
    let at : (k : ℕ) → SuppliersAt set test parents links n within parental plan k k =
    λ k. let same : 0 + k ≡ k = omega arith in subst (λ (p : ℕ). SuppliersAt set test parents links n within parental plan k p) same (suppliers_at set test parents links n within parental devices 0 k) in
    record {
      few = omega (arith, long, many, long_nodes, few);
      devices = all_lawful set test parents links named devices 0 paths_are;
      distinct = subst (λ (ts : List (List ℕ)). AllPairs (λ a b. a ≢ b) ts) (sym of_tree) (device_paths-apart root s);
      suppliers = λ k. let here = at k in
          subst (λ (ds : List ℕ). All (λ x. x < length plan) ds) (sym here.2) (subst (λ (m : ℕ). All (λ x. x < m) (suppliers_among k here.0)) (sym long) (suppliers_all (λ x. x < n) k here.0 here.1));
      apart = λ k. let here = at k in subst (λ (ds : List ℕ). AllPairs (λ a b. a ≢ b) ds) (sym here.2) (suppliers_apart k here.0);
      others = λ k. let here = at k in subst (λ (ds : List ℕ). ¬ Contains ds k) (sym here.2) (suppliers_others k here.0);
    }

-- the parents of a tree's devices are devices
pub tree_parents_within : (root : NodeData) (parents : List (Option ℕ)) → parents ≡ tree_parents root → (k s : ℕ) → parent_at parents k ≡ Some s → s < length (tree_devices root)
tree_parents_within root parents are k s e =
    let all : List TreeDevice = tree_devices root in
    let long : length (flags [] all) ≡ length all = length-map all (has_string []) in
    parents_within (tree_nodes root) all (flags [] all) long (device_places (tree_nodes root)) all 0 k s (ap (λ (ps : List (Option ℕ)). parent_at ps k) (sym are) ∙ e)

pub no_parents_within : (n k s : ℕ) → parent_at [] k ≡ Some s → s < n
no_parents_within n k s e = absurd (cc e)

-- those of a tree, by its root
pub linux_length : (root : NodeData) (set : LinkDriversData) → length (linux_devices root set) ≡ length (tree_devices root)
linux_length root set = made_length (tree_nodes root) (flags set.early (tree_devices root)) (flags set.buses (tree_devices root)) (device_places (tree_nodes root)) (tree_devices root) 0

linux_paths : (root : NodeData) (set : LinkDriversData) → map (λ d. d.path) (linux_devices root set) ≡ map (λ d. d.path) (tree_devices root)
linux_paths root set = made_paths (tree_nodes root) (flags set.early (tree_devices root)) (flags set.buses (tree_devices root)) (device_places (tree_nodes root)) (tree_devices root) 0

linux_all : (root : NodeData) (set : LinkDriversData) → IsSoundInside root → All (λ d. is_device_path d.path ≡ true) (linux_devices root set)
linux_all root set s =
    made_all (tree_nodes root) (flags set.early (tree_devices root)) (flags set.buses (tree_devices root)) (device_places (tree_nodes root)) (λ p. is_device_path p ≡ true) (tree_devices root) 0 (device_paths root s)

-- the buses of a tree's devices are devices
pub tree_buses_within : (root : NodeData) (set : LinkDriversData) (buses : List (Option ℕ)) → buses ≡ tree_buses root set → (k s : ℕ) → parent_at buses k ≡ Some s → s < length (tree_devices root)
tree_buses_within root set buses are k s e =
    let all : List TreeDevice = tree_devices root in
    let long : length (flags set.buses all) ≡ length all = length-map all (has_string set.buses) in
    parents_within (tree_nodes root) all (flags set.buses all) long (device_places (tree_nodes root)) all 0 k s (ap (λ (ps : List (Option ℕ)). parent_at ps k) (sym are) ∙ e)

-- and so for what is made of the tree's links
links_within : (root : NodeData) (set : LinkDriversData) (strict : Bool) (k : ℕ) → All (IsWithin (length (linux_devices root set))) (links_at (tree_links root set strict) k)
links_within root set strict k =
    let all : List TreeDevice = linux_devices root set in
    let marks : List Bool = flags set.buses (tree_devices root) in
    let long : length marks ≡ length all = length-map (tree_devices root) (has_string set.buses) ∙ sym (linux_length root set) in
    all_within (tree_nodes root) all marks long strict (device_places (tree_nodes root)) all 0 k

lawful_of : (t : TreeData) → IsTree t → (set : LinkDriversData) → IsDriverSet set.drivers → length (device_nodes t.root) ≤ most_devices → (parents : List (Option ℕ)) (links : List (List LinkData))
    → ((k : ℕ) → All (IsWithin (length (linux_devices t.root set))) (links_at links k)) → ((k s : ℕ) → parent_at parents k ≡ Some s → s < length (tree_devices t.root)) → (test : LinkData → Bool)
    → IsLawful (planned_by set.drivers test parents links 0 (linux_devices t.root set))
lawful_of t is set named few parents links within parental test =
    lawful_by t is set.drivers named few (linux_devices t.root set) (linux_length t.root set) (linux_paths t.root set) (linux_all t.root set (inside t.root is.sound)) test parents links within
    (λ k s e. subst (λ (n : ℕ). s < n) (sym (linux_length t.root set)) (parental k s e))

pub lawful_linked : (t : TreeData) → IsTree t → (set : LinkDriversData) → IsDriverSet set.drivers → length (device_nodes t.root) ≤ most_devices → (strict : Bool)
    → (matcher : DriverSetData) (parents : List (Option ℕ)) (links : List (List LinkData)) (devices : List TreeDevice) → matcher ≡ set.drivers → links ≡ tree_links t.root set strict → devices ≡ linux_devices t.root set
    → ((k s : ℕ) → parent_at parents k ≡ Some s → s < length (tree_devices t.root)) → (test : LinkData → Bool) → IsLawful (planned_by matcher test parents links 0 devices)
lawful_linked t is set named few strict matcher parents links devices by_set by_links by_tree parental test =
    let all : List TreeDevice = linux_devices t.root set in
    let lawful : IsLawful (planned_by set.drivers test parents (tree_links t.root set strict) 0 all) =
    lawful_of t is set named few parents (tree_links t.root set strict) (links_within t.root set strict) parental test in
    subst (λ (m : DriverSetData). IsLawful (planned_by m test parents links 0 devices)) (sym by_set)
    (subst (λ (ls : List (List LinkData)). IsLawful (planned_by set.drivers test parents ls 0 devices)) (sym by_links)
    (subst (λ (ds : List TreeDevice). IsLawful (planned_by set.drivers test parents (tree_links t.root set strict) 0 ds)) (sym by_tree) lawful))

-- and behind the timeout
pub lawful_late : (t : TreeData) → IsTree t → (set : LinkDriversData) → IsDriverSet set.drivers → length (device_nodes t.root) ≤ most_devices → (strict : Bool)
    → (matcher : DriverSetData) (early : List Bool) (buses : List (Option ℕ)) (links : List (List LinkData)) (devices : List TreeDevice) → matcher ≡ set.drivers → buses ≡ tree_buses t.root set
    → links ≡ tree_links t.root set strict → devices ≡ linux_devices t.root set → (components : List ℕ) (plan : List PlannedDevice) → IsLawful (planned_late matcher early buses strict components plan links devices)
lawful_late t is set named few strict matcher early buses links devices by_set by_buses by_links by_tree components plan =
    let all : List TreeDevice = linux_devices t.root set in
    let parental : (k s : ℕ) → parent_at buses k ≡ Some s → s < length all =
    λ k s e. subst (λ (n : ℕ). s < n) (sym (linux_length t.root set)) (tree_buses_within t.root set buses by_buses k s e) in
    let lawful : IsLawful (planned_late set.drivers early buses strict components plan (tree_links t.root set strict) all) =
    lawful_of t is set named few [] (left_links early buses strict components plan (tree_links t.root set strict))
    (λ k. left_at (length all) strict plan buses (is_waited_for early components) parental (tree_links t.root set strict) k (links_within t.root set strict k))
    (λ k s e. absurd (cc e)) (is_counted early) in
    subst (λ (m : DriverSetData). IsLawful (planned_late m early buses strict components plan links devices)) (sym by_set)
    (subst (λ (ls : List (List LinkData)). IsLawful (planned_late set.drivers early buses strict components plan ls devices)) (sym by_links)
    (subst (λ (ds : List TreeDevice). IsLawful (planned_late set.drivers early buses strict components plan (tree_links t.root set strict) ds)) (sym by_tree) lawful))
