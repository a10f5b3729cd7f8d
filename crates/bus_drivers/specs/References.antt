-- What the values of a device's properties refer to: each reference is a phandle (Devicetree Specification v0.4, section 2.3.3) and
-- the cells of its specifier (section 2.5), read by the table of those that hold phandles.
use Rattle.std.specs.Prelude.{ℕ, ◌-◌, ◌%◌, Bool, ◌==◌, if◌then◌else◌, List, [], ◌∷◌, ◌++◌, length, Option, Some, None, option_and_then, Result, Ok, Err}
use Rattle.std.specs.Option.{option_map_or, option_to_list}
use Rattle.std.specs.Int.{from_be_bytes, w32}
use Rattle.dt_tree.specs.Steps.{then_do}
use Rattle.dt_tree.specs.Cell.{cell_in}
use Rattle.dt_tree.specs.declared.property.Property.{Property}
use Rattle.dt_tree.specs.PathMap.{value_of}
use Rattle.bus_plan.specs.declared.error.PlanError.{PlanError}
use Rattle.bus_plan.specs.declared.error.PlanError.TheVariants.{DanglingPhandle, BadSpecifier}
use Rattle.bus_drivers.specs.declared.reference.Reference.{Reference}
use Rattle.bus_drivers.specs.Nodes.{Target}
use Rattle.bus_drivers.specs.Forms.{Form, counted, bare, single, form_of}

-- the one list and then the other, or the first fault
abbrev pub followed_by : {A : Type 0} → Result (List A) PlanError → Result (List A) PlanError → Result (List A) PlanError
followed_by first second = then_do first (λ xs. then_do second (λ ys. Ok (xs ++ ys)))

-- ---- one reference
-- how many cells stand behind a phandle that leads to this node
abbrev pub cells_behind : Form → Target → Option ℕ
cells_behind (counted name) node = option_and_then cell_in (value_of node.properties name)
cells_behind bare node = Some 0
cells_behind single node = Some 0

-- a reference is the device that it refers to, if any, and how many cells stand behind its phandle
abbrev pub reference_with : Option ℕ → Option ℕ → Result Reference PlanError
reference_with device None = Err BadSpecifier
reference_with device (Some cells) = Ok (record { device = device; cells = cells })

abbrev pub reference_at : Form → Option Target → Result Reference PlanError
reference_at form None = Err DanglingPhandle
reference_at form (Some node) = reference_with node.device (cells_behind form node)

-- the reference that begins with this phandle; 0 is one that is left empty
abbrev pub reference_of : (ℕ → Option Target) → Form → ℕ → Result Reference PlanError
reference_of target form phandle =
    if phandle == 0 then Ok (record { device = None; cells = 0 }) else reference_at form (target phandle)

-- ---- one value
-- the cells of a value
abbrev pub cells_of : List ℕ → List ℕ
cells_of (a ∷ b ∷ c ∷ d ∷ more) = from_be_bytes w32 (a ∷ b ∷ c ∷ d ∷ []) ∷ cells_of more
cells_of _ = []

-- the devices that these cells refer to, in order, or the first fault; so many cells at the front still belong
-- to the reference before
abbrev pub devices_in : (ℕ → Option Target) → Form → ℕ → List ℕ → Result (List ℕ) PlanError
devices_in target form left [] = if left == 0 then Ok [] else Err BadSpecifier
devices_in target form left (cell ∷ more) =
    if left == 0
    then then_do (reference_of target form cell) (λ r. followed_by (Ok (option_to_list r.device)) (devices_in target form r.cells more))
    else devices_in target form (left - 1) more

-- cells, or one cell where one phandle is wanted
abbrev pub is_length : Form → ℕ → Bool
is_length (counted name) bytes = bytes % 4 == 0
is_length bare bytes = bytes % 4 == 0
is_length single bytes = bytes == 4

-- the devices that a value refers to
abbrev pub references : (ℕ → Option Target) → Form → List ℕ → Result (List ℕ) PlanError
references target form value =
    if is_length form (length value) then devices_in target form 0 (cells_of value) else Err BadSpecifier

-- ---- properties
-- a property that the table doesn't have refers to none
abbrev pub property_references : (ℕ → Option Target) → Property → Result (List ℕ) PlanError
property_references target p = option_map_or (λ form. references target form p.value) (form_of p.name) (Ok [])

-- those of all properties, in order
abbrev pub all_references : (ℕ → Option Target) → List Property → Result (List ℕ) PlanError
all_references target [] = Ok []
all_references target (p ∷ ps) = followed_by (property_references target p) (all_references target ps)
