-- The refusals of a plan, in their order.
use Rattle.std.proofs.Common.{◌≡◌, ◌∙◌, ◌⊎◌, inl, inr, ⊎_elim, ap, sym, refl, ℕ, ◌+◌, ◌<◌, ◌≤◌, List, [], ◌∷◌, ◌++◌, append_assoc, length, drop, get_or, Option, None, Some}
use Rattle.std.specs.Prelude.{Result, Ok, Err, MatchResult}
use Rattle.std.specs.Option.{option_map}
use Rattle.std.proofs.lemmas.Bool.{le-leb}
use Rattle.std.proofs.lemmas.List.{at_drop_more}
use Rattle.dt_tree.specs.Steps.{then_do}
use Rattle.dt_tree.specs.NodeData.{NodeData}
use Rattle.bus_plan.specs.declared.error.PlanError.{PlanError}
use Rattle.bus_plan.specs.declared.error.PlanError.TheVariants.{NoMemory, UnknownPath}
use Rattle.bus_plan.specs.Limits.{most_devices}
use Rattle.bus_plan.specs.Plan.{PlannedDevice}
use Rattle.bus_plan.specs.PlanPaths.{is_among}
use Rattle.bus_drivers.specs.Driver.{FailData, DriverSetData}
use Rattle.bus_drivers.specs.Nodes.{TreeDevice, Target, device_nodes, tree_devices, target_of}
use Rattle.bus_drivers.specs.References.{followed_by, all_references}
use Rattle.bus_drivers.specs.TreePlan.{suppliers_among, planned_device, unknown_fail, planned_from, plan_of_devices, plan_of}
use Rattle.bus_drivers.specs.Private.Matching.{unknown_among}
use Rattle.bus_drivers.specs.Private.Planning.{planned_at}

-- ---- `fail` lines
abbrev are_same : List (List ℕ) → List (List ℕ) → Type 0
are_same paths others = (q : List ℕ) → is_among q paths ≡ is_among q others

pub unknown-same : (paths others : List (List ℕ)) (fails : List FailData) → are_same paths others → unknown_among paths fails ≡ unknown_among others fails
unknown-same paths others [] same = refl
unknown-same paths others (f ∷ fails) same = rw (same f.path, unknown-same paths others fails same) refl

module _ (devices : List TreeDevice) (fails : List FailData) (found : Option ℕ) (line : found ≡ option_map (λ f. f.line) (unknown_fail devices fails)) where
  pub fails-known : found ≡ None → unknown_fail devices fails ≡ None
  fails-known none = by (unknown_fail devices fails) (sym line ∙ none) where
    by : (o : Option FailData) → option_map (λ f. f.line) o ≡ None → o ≡ None
    by None h = refl
    by (Some f) h = cc

  pub fails-unknown : (n : ℕ) → found ≡ Some n → option_map (λ f. UnknownPath f.line) (unknown_fail devices fails) ≡ Some (UnknownPath n)
  fails-unknown n some = by (unknown_fail devices fails) (sym line ∙ some) where
    by : (o : Option FailData) → option_map (λ f. f.line) o ≡ Some n → option_map (λ f. UnknownPath f.line) o ≡ Some (UnknownPath n)
    by None h = cc
    by (Some f) h = let at : f.line ≡ n = cc in ap (λ k. Some (UnknownPath k)) at

-- ---- devices that are planned one by one
pub none-before : (planned : List PlannedDevice) (rest : Result (List PlannedDevice) PlanError) → planned ≡ [] → followed_by (Ok planned) rest ≡ rest
none-before planned (Err e) none = refl
none-before planned (Ok ds) none = ap (λ (ps : List PlannedDevice). Ok (ps ++ ds)) none

module _ (target : ℕ → Option Target) (set : DriverSetData) (planned : List PlannedDevice) (devices : List TreeDevice) (place : ℕ) (d : TreeDevice)
    (within : place < length devices) (is : d ≡ get_or devices place d) where
  abbrev left : List TreeDevice → Result (List PlannedDevice) PlanError
  left ds = followed_by (Ok planned) (planned_from target set place ds)

  here : left (drop place devices) ≡ left (d ∷ drop (place + 1) devices)
  here = at_drop_more left devices place d within ∙ ap (λ (e : TreeDevice). left (e ∷ drop (place + 1) devices)) (sym is)

  -- a device more
  pub planned-next : (p : PlannedDevice) → planned_at target set place d ≡ Ok p
      → followed_by (Ok (planned ++ p ∷ [])) (planned_from target set (place + 1) (drop (place + 1) devices)) ≡ left (drop place devices)
  planned-next p h = by (all_references target d.properties) (planned_from target set (place + 1) (drop (place + 1) devices)) h ∙ sym here where
    by : (r : Result (List ℕ) PlanError) (more : Result (List PlannedDevice) PlanError) → then_do r (λ mentioned. Ok (planned_device set d (suppliers_among place mentioned))) ≡ Ok p
        → followed_by (Ok (planned ++ p ∷ [])) more ≡ followed_by (Ok planned) (then_do r (λ mentioned. then_do more (λ ps. Ok (planned_device set d (suppliers_among place mentioned) ∷ ps))))
    by (Err e) more g = cc
    by (Ok ms) (Err e) g = refl
    by (Ok ms) (Ok ps) g =
        let same : planned_device set d (suppliers_among place ms) ≡ p = cc in
        ap Ok (append_assoc planned (p ∷ []) ps ∙ ap (λ (q : PlannedDevice). planned ++ q ∷ ps) (sym same))

  -- or its fault
  pub planned-fault : (e : PlanError) → planned_at target set place d ≡ Err e → left (drop place devices) ≡ Err e
  planned-fault e h = here ∙ by (all_references target d.properties) (planned_from target set (place + 1) (drop (place + 1) devices)) h where
    by : (r : Result (List ℕ) PlanError) (more : Result (List PlannedDevice) PlanError) → then_do r (λ mentioned. Ok (planned_device set d (suppliers_among place mentioned))) ≡ Err e
        → followed_by (Ok planned) (then_do r (λ mentioned. then_do more (λ ps. Ok (planned_device set d (suppliers_among place mentioned) ∷ ps)))) ≡ Err e
    by (Err f) more g = let same : f ≡ e = cc in ap Err same
    by (Ok ms) more g = cc

-- ---- the plan
module _ (target : ℕ → Option Target) (set : DriverSetData) (devices : List TreeDevice) where
  pub plan-unknown : (e : PlanError) → option_map (λ f. UnknownPath f.line) (unknown_fail devices set.fails) ≡ Some e → plan_of_devices target set devices ≡ Err e
  plan-unknown e h = by (unknown_fail devices set.fails) refl h where
    by : (o : Option FailData) → unknown_fail devices set.fails ≡ o → option_map (λ f. UnknownPath f.line) o ≡ Some e → plan_of_devices target set devices ≡ Err e
    by None is g = cc
    by (Some f) is g = rw is (let at : UnknownPath f.line ≡ e = cc in ap Err at)

  pub plan-known : unknown_fail devices set.fails ≡ None → plan_of_devices target set devices ≡ planned_from target set 0 devices
  plan-known none = rw none refl

few-devices : (root : NodeData) (set : DriverSetData) → length (device_nodes root) ≤ most_devices
    → plan_of root set ≡ plan_of_devices (target_of root) set (tree_devices root)
few-devices root set few = rw (le-leb (length (device_nodes root)) most_devices few) refl

-- a phandle index of the tree serves
indexed : (root phandle_index : NodeData) (set : DriverSetData) (r : Result (List PlannedDevice) PlanError) → phandle_index ≡ root → length (device_nodes root) ≤ most_devices
    → plan_of_devices (target_of phandle_index) set (tree_devices phandle_index) ≡ r → plan_of root set ≡ r
indexed root phandle_index set r is few h = few-devices root set few ∙ ap (λ s. plan_of_devices (target_of s) set (tree_devices s)) (sym is) ∙ h

pub indexed-all : {D : Type 0} (root phandle_index : NodeData) (set : DriverSetData) (items : D → List PlannedDevice) (r : Result D PlanError) → phandle_index ≡ root → length (device_nodes root) ≤ most_devices
    → MatchResult r (λ ds. plan_of_devices (target_of phandle_index) set (tree_devices phandle_index) ≡ Ok (items ds)) (λ e. (e ≡ NoMemory) ⊎ (plan_of_devices (target_of phandle_index) set (tree_devices phandle_index) ≡ Err e))
    → MatchResult r (λ ds. plan_of root set ≡ Ok (items ds)) (λ e. (e ≡ NoMemory) ⊎ (plan_of root set ≡ Err e))
indexed-all root phandle_index set items (Ok ds) is few h = indexed root phandle_index set (Ok (items ds)) is few h
indexed-all root phandle_index set items (Err e) is few h = ⊎_elim (λ none. inl none) (λ fault. inr (indexed root phandle_index set (Err e) is few fault)) h
