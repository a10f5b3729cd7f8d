-- What a walk keeps of the nodes that it meets: the devices, and what each phandle leads to. It knows a node's path by its text,
-- each name behind a slash, and of the nodes above it whether all are okay and which device they belong to. The laws in
-- `proofs/WalkLaws.antt` tie it to `Entries`.
use Rattle.std.specs.Prelude.{◌≡◌, ◌<◌, ◌⊎◌, ℕ, ◌+◌, Bool, false, ◌&&◌, nat_eq, if◌then◌else◌, List, [], ◌∷◌, ◌++◌, length, Option, Some, None}
use Rattle.std.specs.Option.{option_map_or}
use Rattle.dt_tree.specs.declared.property.Property.{Property}
use Rattle.dt_tree.specs.NodeData.{Siblings, none, more, NodeData}
use Rattle.dt_tree.specs.Phandle.{or_else, phandle_of}
use Rattle.dt_tree.specs.Private.PhandleWalk.{unreserved}
use Rattle.bus_plan.specs.declared.error.PlanError.{PlanError}
use Rattle.bus_plan.specs.declared.error.PlanError.TheVariants.{NoMemory, TooManyDevices}
use Rattle.bus_plan.specs.Limits.{most_devices}
use Rattle.bus_drivers.specs.Nodes.{is_compatible, is_okay, TreeDevice, Target}
use Rattle.bus_drivers.specs.Private.Entries.{device_count, device_here}

-- ---- devices
-- these devices, and the node behind them
abbrev pub with_device : List TreeDevice → List ℕ → Bool → List Property → List TreeDevice
with_device devices text available p = devices ++ record { path = text; available = available; properties = p } ∷ []

-- the node as a device, where it is one
abbrev pub own_device : List ℕ → Bool → List Property → List TreeDevice
own_device text available p = if is_compatible p then record { path = text; available = available; properties = p } ∷ [] else []

-- whether all of a node and those above it are okay, and the node as a device below them
abbrev pub available_here : Bool → List Property → Bool
available_here above p = above && is_okay p

abbrev pub device_below : List ℕ → Bool → List Property → List TreeDevice
device_below text above p = own_device text (available_here above p) p

-- of nodes side by side and those below them
abbrev pub devices_among : List ℕ → Bool → Siblings → List TreeDevice
devices_among text available none = []
devices_among text available (more n p kids rest) =
    (device_below (text ++ 47 ∷ n) available p ++ devices_among (text ++ 47 ∷ n) (available && is_okay p) kids)
    ++ devices_among text available rest

-- of a node and those below it
abbrev pub devices_at : List ℕ → Bool → NodeData → List TreeDevice
devices_at text available b =
    device_below (text ++ 47 ∷ b.name) available b.properties
    ++ devices_among (text ++ 47 ∷ b.name) (available && is_okay b.properties) b.children

abbrev pub devices_in_tree : NodeData → List TreeDevice
devices_in_tree root = devices_among [] (is_okay root.properties) (unreserved root.children)

-- ---- what a phandle leads to
-- the node, where the phandle is its own
abbrev pub own_target : List Property → Option ℕ → ℕ → Option Target
own_target p device phandle = if option_map_or (nat_eq phandle) (phandle_of p) false then Some (record { properties = p; device = device }) else None

-- the node, where so many devices were met before it and the node above belongs to this one
abbrev pub target_here : List Property → ℕ → Option ℕ → ℕ → Option Target
target_here p met above phandle = own_target p (device_here p met above) phandle

-- the first of nodes side by side and those below them; so many devices were met before
abbrev pub target_among : Option ℕ → ℕ → Siblings → ℕ → Option Target
target_among above met none phandle = None
target_among above met (more n p kids rest) phandle =
    or_else (or_else (target_here p met above phandle) (target_among (device_here p met above) ((if is_compatible p then 1 else 0) + met) kids phandle))
    (target_among above (((if is_compatible p then 1 else 0) + device_count kids) + met) rest phandle)

-- the first of a node and those below it
abbrev pub target_at : Option ℕ → ℕ → NodeData → ℕ → Option Target
target_at above met b phandle =
    or_else (target_here b.properties met above phandle)
    (target_among (device_here b.properties met above) ((if is_compatible b.properties then 1 else 0) + met) b.children phandle)

abbrev pub target_in_tree : NodeData → ℕ → Option Target
target_in_tree root phandle = or_else (own_target root.properties None phandle) (target_among None 0 (unreserved root.children) phandle)

-- each phandle leads where it led, or else where this says
abbrev pub AreTargetsWith : (ℕ → Option Target) → (ℕ → Option Target) → (ℕ → Option Target) → Type 0
AreTargetsWith added old new = (phandle : ℕ) → new phandle ≡ or_else (old phandle) (added phandle)

abbrev pub AreTargetsIn : NodeData → (ℕ → Option Target) → Type 0
AreTargetsIn root found = (phandle : ℕ) → found phandle ≡ target_in_tree root phandle

-- ---- refusals
-- why a walk that meets these devices stops
abbrev pub Refuses : List TreeDevice → PlanError → Type 0
Refuses devices e = (e ≡ NoMemory) ⊎ ((e ≡ TooManyDevices) × (most_devices < length devices))
