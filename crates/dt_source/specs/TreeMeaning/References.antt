-- The order in which a tree is walked, and the references of its values (Devicetree Specification v0.4, section 6.3;
-- in plugins dt-object-internal, section 2).
use Rattle.std.specs.Prelude.{ℕ, zero, suc, Bool, true, false, List, [], ◌∷◌, Option, Some, None, is_some, Result, Ok, Err, if◌then◌else◌}
use Rattle.std.specs.List.{filter, flat_map}
use Rattle.dt_tree.specs.Steps.{then_do, each}
use Rattle.dt_tree.specs.Phandle.{is_reserved}
use Rattle.dt_source.specs.TreeMeaning.Paths.{Path, same_path, name_below}
use Rattle.dt_source.specs.TreeMeaning.Syntax.{Target, OfLabel, OfPath, Piece, Plain, PhandleOf, PathOf, Stored}
use Rattle.dt_source.specs.TreeMeaning.Edits.{Definition, definition, State, label_path}
use Rattle.dt_source.specs.TreeMeaning.Statements.{Fault, UnknownLabel, PathInPlugin, ReservedName, found}

-- ---- the order of the walk: a node, then its children with all below each
abbrev pub walk : ℕ → List Path → Path → List Path
walk zero nodes p = p ∷ []
walk (suc levels) nodes p = p ∷ flat_map (walk levels nodes) (filter (λ q. is_some (name_below p q)) nodes)

-- no node is deeper than 64
unfoldable pub preorder : List Path → List Path
preorder nodes = walk 64 nodes []

abbrev pub held : {V : Type 0} → List (Definition V) → Path → List (Definition V)
held es p = filter (λ e. same_path p e.path) es

-- all properties, node by node
abbrev pub in_order : {V : Type 0} → State V → List (Definition V)
in_order s = flat_map (held s.properties) (preorder s.nodes)

-- ---- references
-- a part of a value whose reference was found: bytes, the phandle of a node, the phandle of a node that isn't known yet, a path
pub data Found : Type 0 where
  Bytes : List ℕ → Found
  Cell : Path → Found
  Open : List ℕ → Found
  PathText : Path → Found

abbrev pub cell_at : Path → Result Found Fault
cell_at p = if is_reserved p then Err ReservedName else Ok (Cell p)

-- a label in cells: in a plugin it may be that of a node elsewhere
abbrev pub cell_of_label : Bool → List ℕ → Option Path → Result Found Fault
cell_of_label plugin l (Some p) = cell_at p
cell_of_label true l None = Ok (Open l)
cell_of_label false l None = Err UnknownLabel

abbrev pub cell_of : {V : Type 0} → Bool → State V → Target → Result Found Fault
cell_of plugin s (OfLabel l) = cell_of_label plugin l (label_path l s.labels)
cell_of true s (OfPath t) = Err PathInPlugin
cell_of false s (OfPath t) = then_do (found (OfPath t) s) cell_at

-- a part of a file that wasn't filled in has no bytes
abbrev pub found_in : {V : Type 0} → Bool → State V → Piece → Result Found Fault
found_in plugin s (Plain b) = Ok (Bytes b)
found_in plugin s (PathOf t) = then_do (found t s) (λ p. Ok (PathText p))
found_in plugin s (Stored at offset length) = Ok (Bytes [])
found_in plugin s (PhandleOf t) = cell_of plugin s t

abbrev pub found_value : {V : Type 0} → Bool → State V → Definition (List Piece) → Result (Definition (List Found)) Fault
found_value plugin s e = then_do (each (found_in plugin s) e.value) (λ v. Ok (definition e.path e.name v))

-- all references, in order of the walk
abbrev pub references : Bool → State (List Piece) → Result (List (Definition (List Found))) Fault
references plugin s = each (found_value plugin s) (in_order s)
