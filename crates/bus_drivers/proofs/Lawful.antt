-- The plan of a tree is lawful.
use Rattle.std.proofs.Common.{◌≡◌, ◌≢◌, ℕ, suc, zero, ◌+◌, ◌<◌, ◌≤◌, Bool, true, false, nat_le, List, [], ◌∷◌, length, map, if◌then◌else◌, Option, Some, None, Result, Ok, Err, refl, ap, sym, ◌∙◌, subst, arith}
use Rattle.std.specs.Option.{option_map, option_map_or, IfSome}
use Rattle.std.specs.Prelude.{filter, is_some}
use Rattle.std.specs.List.{All, AllPairs, Contains, find, list_all}
use Rattle.std.proofs.lemmas.Bool.Decides.{nat_tests}
use Rattle.std.proofs.lemmas.List.{length-map}
use Rattle.std.proofs.lemmas.List.Elements.{All-nil, All-cons, All-head, All-tail}
use Rattle.dt_tree.specs.Steps.{then_do}
use Rattle.dt_tree.specs.NodeData.{NodeData}
use Rattle.dt_tree.specs.Phandle.{or_else}
use Rattle.dt_tree.specs.TreeData.{TreeData, IsTree}
use Rattle.dt_tree.proofs.Places.{IsSoundInside, inside, both}
use Rattle.bus_plan.specs.declared.error.PlanError.{PlanError}
use Rattle.bus_plan.specs.declared.error.PlanError.TheVariants.{UnknownPath, TooManyDevices}
use Rattle.bus_plan.specs.Limits.{most_devices}
use Rattle.bus_plan.specs.Plan.{PlannedDevice, is_device_path, is_driver_name, is_compatible, paths, suppliers_of, IsLawfulDevice, IsLawful}
use Rattle.bus_plan.specs.PlanPaths.{is_among}
use Rattle.bus_drivers.specs.Driver.{DriverData, FailData, DriverSetData, driver_names, IsDriverSet}
use Rattle.bus_drivers.specs.Nodes.{TreeDevice, Target, device_nodes, tree_device, tree_devices, target_of}
use Rattle.bus_drivers.specs.References.{all_references}
use Rattle.bus_drivers.specs.TreePlan.{compatible_strings, driver_naming, driver_matching, driver_for, verdict_for, fail_paths, unknown_fail, late_strings, suppliers_among, planned_device, planned_from, plan_of_devices, plan_of}
use Rattle.bus_drivers.proofs.DevicePaths.{device_paths, device_paths-apart, target_within}
use Rattle.bus_drivers.proofs.Mentions.{AllIfOk, in_properties, suppliers_all, suppliers_apart, suppliers_others}

-- ---- drivers
abbrev IsNamed : Option (List ℕ) → Type 0
IsNamed o = IfSome o (λ name. is_driver_name name ≡ true)

found_named : (test : DriverData → Bool) (drivers : List DriverData) → list_all is_driver_name (driver_names drivers) ≡ true → IsNamed (option_map (λ d. d.name) (find test drivers))
found_named test [] named = tt
found_named test (d ∷ ds) named = by_test (test d) refl (both (is_driver_name d.name) (list_all is_driver_name (driver_names ds)) named) (found_named test ds) where
  by_test : (t : Bool) → test d ≡ t → (is_driver_name d.name ≡ true) × (list_all is_driver_name (driver_names ds) ≡ true) → (list_all is_driver_name (driver_names ds) ≡ true → IsNamed (option_map (λ d. d.name) (find test ds)))
      → IsNamed (option_map (λ d. d.name) (find test (d ∷ ds)))
  by_test true e h ih = rw e h.0
  by_test false e h ih = rw e (ih h.1)

either_named : (a b : Option (List ℕ)) → IsNamed a → IsNamed b → IsNamed (or_else a b)
either_named None b h k = k
either_named (Some name) b h k = h

matching_named : (drivers : List DriverData) → list_all is_driver_name (driver_names drivers) ≡ true → (strings : List (List ℕ)) → IsNamed (driver_matching drivers strings)
matching_named drivers named [] = tt
matching_named drivers named (string ∷ more) =
    either_named (driver_naming drivers string) (driver_matching drivers more) (found_named (λ d. is_among string d.compatibles) drivers named) (matching_named drivers named more)

driver_named : (drivers : List DriverData) → list_all is_driver_name (driver_names drivers) ≡ true → (d : TreeDevice) → IsNamed (driver_for drivers d)
driver_named drivers named d = by_test d.available refl where
  by_test : (t : Bool) → d.available ≡ t → IsNamed (driver_for drivers d)
  by_test true e = rw e (matching_named drivers named (compatible_strings d))
  by_test false e = rw e tt

-- ---- strings
all_compatible : (strings : List (List ℕ)) → list_all is_compatible (filter is_compatible strings) ≡ true
all_compatible [] = refl
all_compatible (s ∷ strings) = by_test (is_compatible s) refl (all_compatible strings) where
  by_test : (t : Bool) → is_compatible s ≡ t → list_all is_compatible (filter is_compatible strings) ≡ true
      → list_all is_compatible (if t then s ∷ filter is_compatible strings else filter is_compatible strings) ≡ true
  by_test true e rest = rw e rest
  by_test false e rest = rest

late_compatible : (driver : Option (List ℕ)) (d : TreeDevice) → list_all is_compatible (late_strings driver d) ≡ true
late_compatible (Some name) d = refl
late_compatible None d = by_test d.available where
  by_test : (t : Bool) → list_all is_compatible (if t then filter is_compatible (compatible_strings d) else []) ≡ true
  by_test true = all_compatible (compatible_strings d)
  by_test false = refl

late_matched : (driver : Option (List ℕ)) (d : TreeDevice) → is_some driver ≡ true → late_strings driver d ≡ []
late_matched (Some name) d e = refl
late_matched None d e = absurd (cc e)

-- ---- one device
pub planned_lawful : (set : DriverSetData) → IsDriverSet set → (d : TreeDevice) (suppliers : List ℕ) → is_device_path d.path ≡ true → IsLawfulDevice (planned_device set d suppliers)
planned_lawful set s d suppliers path = record {
  path = path;
  driver = driver_named set.drivers s.named d;
  unavailable = λ e. rw e refl;
  unmatched = λ e. ap (λ (o : Option (List ℕ)). verdict_for o (is_among d.path (fail_paths set.fails))) e;
  compatibles = late_compatible (driver_for set.drivers d) d;
  disabled = λ e. rw e refl;
  matched = λ e. late_matched (driver_for set.drivers d) d e;
}

-- ---- one by one
module _ (set : DriverSetData) (n : ℕ) where
  -- the device at this place, planned with suppliers among n devices
  abbrev IsPlannedAt : ℕ → TreeDevice → PlannedDevice → Type 0
  IsPlannedAt place d q = (mentioned : List ℕ) × All (λ s. s < n) mentioned × (q ≡ planned_device set d (suppliers_among place mentioned))

  abbrev ArePlanned : ℕ → List TreeDevice → List PlannedDevice → Type 0
  ArePlanned place [] [] = Unit {0}
  ArePlanned place [] (q ∷ qs) = ⊥
  ArePlanned place (d ∷ ds) [] = ⊥
  ArePlanned place (d ∷ ds) (q ∷ qs) = IsPlannedAt place d q × ArePlanned (place + 1) ds qs

  from_parts : (place : ℕ) (d : TreeDevice) (ds : List TreeDevice) (plan : List PlannedDevice) (r : Result (List ℕ) PlanError) (s : Result (List PlannedDevice) PlanError) → AllIfOk (λ k. k < n) r
      → ((qs : List PlannedDevice) → s ≡ Ok qs → ArePlanned (place + 1) ds qs)
      → then_do r (λ mentioned. then_do s (λ more. Ok (planned_device set d (suppliers_among place mentioned) ∷ more))) ≡ Ok plan → ArePlanned place (d ∷ ds) plan
  from_parts place d ds plan (Err e) s a ih is = absurd (cc is)
  from_parts place d ds plan (Ok mentioned) (Err e) a ih is = absurd (cc is)
  from_parts place d ds plan (Ok mentioned) (Ok more) a ih is =
      let same : planned_device set d (suppliers_among place mentioned) ∷ more ≡ plan = cc is in
      subst (λ (qs : List PlannedDevice). ArePlanned place (d ∷ ds) qs) same ((mentioned, a, refl), ih more refl)

  are_planned : (target : ℕ → Option Target) → ((phandle : ℕ) (t : Target) → target phandle ≡ Some t → (d : ℕ) → t.device ≡ Some d → d < n)
      → (ds : List TreeDevice) (place : ℕ) (plan : List PlannedDevice) → planned_from target set place ds ≡ Ok plan → ArePlanned place ds plan
  are_planned target h [] place plan e = let same : [] ≡ plan = cc e in subst (λ (qs : List PlannedDevice). ArePlanned place [] qs) same tt
  are_planned target h (d ∷ ds) place plan e =
      from_parts place d ds plan (all_references target d.properties) (planned_from target set (place + 1) ds) (in_properties (λ k. k < n) target h d.properties)
      (λ qs is. are_planned target h ds (place + 1) qs is) e

  planned_paths : (ds : List TreeDevice) (place : ℕ) (plan : List PlannedDevice) → ArePlanned place ds plan → paths plan ≡ map (λ d. d.path) ds
  planned_paths [] place [] a = refl
  planned_paths [] place (q ∷ qs) a = absurd a
  planned_paths (d ∷ ds) place [] a = absurd a
  planned_paths (d ∷ ds) place (q ∷ qs) a = λ i. (a.0.2 i).path ∷ planned_paths ds (place + 1) qs a.1 i

  all_lawful : IsDriverSet set → (ds : List TreeDevice) (place : ℕ) (plan : List PlannedDevice) → ArePlanned place ds plan → All (λ d. is_device_path d.path ≡ true) ds → All IsLawfulDevice plan
  all_lawful s [] place [] a h = All-nil IsLawfulDevice
  all_lawful s [] place (q ∷ qs) a h = absurd a
  all_lawful s (d ∷ ds) place [] a h = absurd a
  all_lawful s (d ∷ ds) place (q ∷ qs) a h =
      All-cons IsLawfulDevice q qs (subst IsLawfulDevice (sym a.0.2) (planned_lawful set s d (suppliers_among place a.0.0) (All-head (λ x. is_device_path x.path ≡ true) d ds h)))
      (all_lawful s ds (place + 1) qs a.1 (All-tail (λ x. is_device_path x.path ≡ true) d ds h))

  -- what the suppliers at a place of the plan are
  abbrev SuppliersAt : List PlannedDevice → ℕ → ℕ → Type 0
  SuppliersAt plan k place = (mentioned : List ℕ) × All (λ s. s < n) mentioned × (suppliers_of plan k ≡ suppliers_among place mentioned)

  suppliers_at : (ds : List TreeDevice) (place : ℕ) (plan : List PlannedDevice) → ArePlanned place ds plan → (k : ℕ) → SuppliersAt plan k (place + k)
  suppliers_at [] place [] a k = ([], All-nil (λ s. s < n), refl)
  suppliers_at [] place (q ∷ qs) a k = absurd a
  suppliers_at (d ∷ ds) place [] a k = absurd a
  suppliers_at (d ∷ ds) place (q ∷ qs) a zero =
      let same : place ≡ place + 0 = omega arith in
      subst (λ (p : ℕ). SuppliersAt (q ∷ qs) 0 p) same (a.0.0, a.0.1, ap (λ (x : PlannedDevice). x.suppliers) a.0.2)
  suppliers_at (d ∷ ds) place (q ∷ qs) a (suc k) =
      let same : (place + 1) + k ≡ place + suc k = omega arith in
      subst (λ (p : ℕ). SuppliersAt qs k p) same (suppliers_at ds (place + 1) qs a.1 k)

-- ---- the plan
pub lawful_plan : (root : NodeData) → IsSoundInside root → (set : DriverSetData) → IsDriverSet set → length (tree_devices root) ≤ most_devices
    → (plan : List PlannedDevice) → planned_from (target_of root) set 0 (tree_devices root) ≡ Ok plan → IsLawful plan
lawful_plan root s set named few plan e =
    let devices : List TreeDevice = tree_devices root in
    let n : ℕ = length devices in
    let planned : ArePlanned set n 0 devices plan = are_planned set n (target_of root) (λ phandle t is d there. target_within root phandle t is d there) devices 0 plan e in
    let texts : paths plan ≡ map (λ (d : TreeDevice). d.path) devices = planned_paths set n devices 0 plan planned in
    let long_plan = length-map plan (λ (d : PlannedDevice). d.path) in
    let long_devices = length-map devices (λ (d : TreeDevice). d.path) in
    let long : length plan ≡ n = sym long_plan ∙ ap length texts ∙ long_devices in
    let at : (k : ℕ) → SuppliersAt set n plan k k = λ k. let same : 0 + k ≡ k = omega arith in subst (λ (p : ℕ). SuppliersAt set n plan k p) same (suppliers_at set n devices 0 plan planned k) in
    record {
      few = rw long few;
      devices = all_lawful set n named devices 0 plan planned (device_paths root s);
      distinct = subst (λ (ts : List (List ℕ)). AllPairs (λ a b. a ≢ b) ts) (sym texts) (device_paths-apart root s);
      suppliers = λ k. let here = at k in
          subst (λ (ds : List ℕ). All (λ x. x < length plan) ds) (sym here.2) (subst (λ (m : ℕ). All (λ x. x < m) (suppliers_among k here.0)) (sym long) (suppliers_all (λ x. x < n) k here.0 here.1));
      apart = λ k. let here = at k in subst (λ (ds : List ℕ). AllPairs (λ a b. a ≢ b) ds) (sym here.2) (suppliers_apart k here.0);
      others = λ k. let here = at k in subst (λ (ds : List ℕ). ¬ Contains ds k) (sym here.2) (suppliers_others k here.0);
    }

without_fault : (o : Option FailData) (r : Result (List PlannedDevice) PlanError) (plan : List PlannedDevice) → option_map_or (λ f. Err (UnknownPath f.line)) o r ≡ Ok plan → r ≡ Ok plan
without_fault None r plan e = e
without_fault (Some f) r plan e = absurd (cc e)

within_limit : (m n : ℕ) (r : Result (List PlannedDevice) PlanError) (plan : List PlannedDevice) → (if nat_le m n then r else Err TooManyDevices) ≡ Ok plan → (m ≤ n) × (r ≡ Ok plan)
within_limit m n r plan e = by_test (nat_le m n) refl where
  by_test : (t : Bool) → nat_le m n ≡ t → (m ≤ n) × (r ≡ Ok plan)
  by_test true is = let low : m ≤ n = grind (arith, nat_tests) in (low, rw is at e)
  by_test false is = absurd (let bad : Err TooManyDevices ≡ Ok plan = (rw is at e) in cc bad)

-- the plan of a tree and a driver set, where there is one
pub plan_of-lawful : (t : TreeData) → IsTree t → (set : DriverSetData) → IsDriverSet set → (plan : List PlannedDevice) → plan_of t.root set ≡ Ok plan → IsLawful plan
plan_of-lawful t is set named plan e =
    let root = t.root in
    let limit = within_limit (length (device_nodes root)) most_devices (plan_of_devices (target_of root) set (tree_devices root)) plan e in
    let long = length-map (device_nodes root) (tree_device root) in
    let few : length (tree_devices root) ≤ most_devices = rw long limit.0 in
    lawful_plan root (inside root is.sound) set named few plan
    (without_fault (unknown_fail (tree_devices root) set.fails) (planned_from (target_of root) set 0 (tree_devices root)) plan limit.1)
