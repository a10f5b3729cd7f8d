-- A property's value as it is seen: where a phandle stands (Devicetree Specification v0.4, sections 2.3.3 and 2.5), the path of the node
-- that it names stands in place of its number.
use Rattle.std.specs.Prelude.{ℕ, ◌-◌, ◌==◌, if◌then◌else◌, List, [], ◌∷◌, Option, Some, None, option_and_then, unwrap_or}
use Rattle.std.specs.Option.{option_map_or}
use Rattle.std.specs.Int.{from_be_bytes, w32}
use Rattle.dt_tree.specs.Cell.{cell_in}
use Rattle.dt_tree.specs.PathMap.{value_of}
use Rattle.dtman_blobs.specs.Difference.Named.{NamedNode}
use Rattle.dtman_blobs.specs.Difference.Forms.{Form, counted, bare, mapped, cells_before, reference_form}

-- a part of a value: bytes as they are, or the path of a node
pub data Part : Type 0 where
  number : List ℕ → Part
  node : List ℕ → Part

-- bytes as they are
abbrev pub plain : List ℕ → List Part
plain [] = []
plain (b ∷ bytes) = number (b ∷ bytes) ∷ []

-- the four bytes of a phandle, or the node that it names
abbrev pub phandle_part : List ℕ → Option NamedNode → Part
phandle_part bytes None = number bytes
phandle_part bytes (Some named) = node named.path

-- the number in a property of a node; 0 where it isn't one cell
abbrev pub count_in : NamedNode → List ℕ → ℕ
count_in named name = unwrap_or (option_and_then cell_in (value_of named.properties name)) 0

-- how many cells stand behind a phandle, up to the next one
abbrev pub cells_behind : Form → Option NamedNode → ℕ
cells_behind (counted name) None = 0
cells_behind (counted name) (Some named) = count_in named name
cells_behind bare named = 0
cells_behind mapped named = 3

-- cells of four bytes, a phandle first; so many at the front belong to the phandle before, or stand before the first
abbrev pub cells_seen : (ℕ → Option NamedNode) → Form → ℕ → List ℕ → List Part
cells_seen named_by form left (a ∷ b ∷ c ∷ d ∷ more) =
    if left == 0
    then (let named = named_by (from_be_bytes w32 (a ∷ b ∷ c ∷ d ∷ [])) in phandle_part (a ∷ b ∷ c ∷ d ∷ []) named ∷ cells_seen named_by form (cells_behind form named) more)
    else number (a ∷ b ∷ c ∷ d ∷ []) ∷ cells_seen named_by form (left - 1) more
cells_seen named_by form left bytes = plain bytes

-- the value of a property
abbrev pub seen : (ℕ → Option NamedNode) → List ℕ → List ℕ → List Part
seen named_by name value = option_map_or (λ form. cells_seen named_by form (cells_before form) value) (reference_form name) (plain value)
