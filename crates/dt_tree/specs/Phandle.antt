-- The numbers by which nodes name one another (Devicetree Specification v0.4, section 2.3.3), and the nodes that have none:
-- the root's children that overlays keep their symbols and fixups in (dt-object-internal), and all below them.
use Rattle.std.specs.Prelude.{◌≡◌, ◌≢◌, ℕ, ◌≤◌, Bool, true, false, ◌||◌, ◌==◌, ◌⊎◌, List, [], ◌∷◌, Option, Some, None, codes, length, if◌then◌else◌, option_and_then}
use Rattle.std.specs.Int.{from_be_bytes, w32}
use Rattle.std.specs.Str.{bytes_eq}
use Rattle.dt_tree.specs.declared.property.Property.{Property}
use Rattle.dt_tree.specs.PathMap.{PathMap, value_of}
use Rattle.dt_tree.specs.Preorder.{precedes}

abbrev pub is_reserved_name : List ℕ → Bool
is_reserved_name n = bytes_eq n (codes "__symbols__") || bytes_eq n (codes "__fixups__") || bytes_eq n (codes "__local_fixups__")

abbrev pub is_reserved : List (List ℕ) → Bool
is_reserved [] = false
is_reserved (n ∷ _) = is_reserved_name n

-- any number but the two that name no node
abbrev pub phandle_from : ℕ → Option ℕ
phandle_from h = if h == 0 then None else (if h == 4294967295 then None else Some h)

-- the phandle in a property's value, of four bytes with the greatest first
abbrev pub phandle_in : List ℕ → Option ℕ
phandle_in value = if length value == 4 then phandle_from (from_be_bytes w32 value) else None

-- the phandle of a node that isn't reserved, by its properties
abbrev pub phandle_of : List Property → Option ℕ
phandle_of ps = option_and_then phandle_in (value_of ps (codes "phandle"))

-- the first of two that is there
abbrev pub or_else : {A : Type 0} → Option A → Option A → Option A
or_else (Some x) o = Some x
or_else None o = o

-- the phandle of the node at a path
abbrev pub phandle_at : PathMap (List ℕ) → List (List ℕ) → Option ℕ
phandle_at m path = if is_reserved path then None else option_and_then phandle_in (m.value path (codes "phandle"))

-- h is the greatest, or 0 where there is none
pub record IsGreatest (m : PathMap (List ℕ)) (h : ℕ) : Type 0 where
  pub bound : (path : List (List ℕ)) (g : ℕ) → phandle_at m path ≡ Some g → g ≤ h
  pub reached : (h ≡ 0) ⊎ ((path : List (List ℕ)) × (phandle_at m path ≡ Some h))

-- the node at this path has h, and stands before each other that has it
pub record IsFirstWith (m : PathMap (List ℕ)) (h : ℕ) (path : List (List ℕ)) : Type 0 where
  pub has : phandle_at m path ≡ Some h
  pub first : (other : List (List ℕ)) → phandle_at m other ≡ Some h → (other ≡ path) ⊎ (precedes m path other ≡ true)

-- no node has h
abbrev pub IsNowhere : PathMap (List ℕ) → ℕ → Type 0
IsNowhere m h = (path : List (List ℕ)) → phandle_at m path ≢ Some h
