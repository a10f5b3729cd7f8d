-- Values whose references have targets (Devicetree Specification v0.4, section 6.3).
use Rattle.std.specs.Prelude.{ℕ, ◌+◌, List, [], ◌∷◌, drop, slice_index_or, Option, Some, None}
use Rattle.dt_source.specs.declared.tree.Part.{Part}
use Rattle.dt_source.specs.declared.tree.Part.TheVariants as parts
use Rattle.dt_source.specs.declared.tree.Reference.{Reference}
use Rattle.dt_source.specs.declared.tree.Reference.TheVariants as references
use Rattle.dt_source.specs.TreeMeaning.Paths.{Path}
use Rattle.dt_source.specs.TreeMeaning.Edits.{Definition, definition}
use Rattle.dt_source.specs.TreeMeaning.References.{Found, Bytes, Cell, Open, PathText}
use Rattle.dt_live.specs.declared.preorder.properties.NodeProperty.{NodeProperty}
use Rattle.dt_build.specs.Edit.Said.{Parts}

-- how many targets a part has, and a value
abbrev pub uses : Part → ℕ
uses (parts.Bytes b) = 0
uses (parts.Phandle t) = 1
uses (parts.Path t) = 1
uses (parts.File f) = 0

abbrev pub all_uses : List Part → ℕ
all_uses [] = 0
all_uses (x ∷ xs) = uses x + all_uses xs

-- the label of a reference
abbrev pub label_in : Reference → List ℕ
label_in (references.Label at l) = l.now
label_in (references.Path at p) = []

-- a part with its target: the node n, or none
abbrev pub cell_for : (ℕ → Path) → Reference → Option ℕ → Found
cell_for path t None = Open (label_in t)
cell_for path t (Some n) = Cell (path n)

-- the text of a path always has its node
abbrev pub text_for : (ℕ → Path) → Option ℕ → Found
text_for path None = Bytes []
text_for path (Some n) = PathText (path n)

abbrev pub found_of : (ℕ → Path) → Part → Option ℕ → Found
found_of path (parts.Bytes b) n = Bytes b.items
found_of path (parts.Phandle t) n = cell_for path t n
found_of path (parts.Path t) n = text_for path n
found_of path (parts.File f) n = Bytes []

-- a value whose targets are the first of these
abbrev pub founds_of : (ℕ → Path) → List Part → List (Option ℕ) → List Found
founds_of path [] ts = []
founds_of path (x ∷ xs) ts = found_of path x (slice_index_or ts 0 None) ∷ founds_of path xs (drop (uses x) ts)

-- a property whose value's targets are the first of these, and properties in order
abbrev pub found_property : (ℕ → Path) → NodeProperty Parts → List (Option ℕ) → Definition (List Found)
found_property path x ts = definition (path x.node) x.name.now (founds_of path x.value.now.parts.items ts)

abbrev pub found_properties : (ℕ → Path) → List (NodeProperty Parts) → List (Option ℕ) → List (Definition (List Found))
found_properties path [] ts = []
found_properties path (x ∷ xs) ts = found_property path x ts ∷ found_properties path xs (drop (all_uses x.value.now.parts.items) ts)
