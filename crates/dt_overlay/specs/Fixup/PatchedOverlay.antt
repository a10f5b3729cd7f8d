-- An overlay's rows with the values that were changed (dt-object-internal, section 2).
use Rattle.std.specs.Prelude.{ℕ, ◌+◌, List, [], ◌∷◌, Option, Some, None, Result, slice_index_or}
use Rattle.dt_source.specs.TreeMeaning.Paths.{Path}
use Rattle.dt_source.specs.TreeMeaning.Edits.{Definition, definition}
use Rattle.dt_source.specs.TreeMeaning.Resolved.{Resolved}
use Rattle.dt_live.specs.declared.live_tree.LiveTree.{LiveTree}
use Rattle.dt_live.specs.declared.live_tree.PropertyRow.{PropertyRow}
use Rattle.dt_live.specs.Rows.{path_of, property_at}
use Rattle.dt_live.specs.ByRow.{lent}
use Rattle.dt_live.specs.Flattened.{Lent, lists}
use Rattle.dt_source.specs.OverlayMeaning.Fault.{Fault}
use Rattle.dt_source.specs.OverlayMeaning.Shifted.{shifted_overlay}
use Rattle.dt_overlay.specs.declared.fixup.patched_overlay.Change.{Change}
use Rattle.dt_overlay.specs.declared.fixup.patched_overlay.PatchedOverlay.{PatchedOverlay}

-- a value that was changed, else the overlay's
abbrev pub value_with : Option Change → List ℕ → List ℕ
value_with None v = v
value_with (Some c) v = c.bytes.items

-- the change of a property
abbrev pub change_at : PatchedOverlay → ℕ → Option Change
change_at s k = slice_index_or s.changes k None

-- the value of the property of row k
abbrev pub value_at : PatchedOverlay → ℕ → List ℕ
value_at s k = value_with (change_at s k) (lent (property_at s.live.properties.items k).value)

-- the properties from row k on, with values by their rows
abbrev pub patched_from : (ℕ → Path) → (ℕ → List ℕ) → ℕ → List (PropertyRow Lent) → List (Definition (List ℕ))
patched_from path value k [] = []
patched_from path value k (r ∷ rs) = definition (path r.node) r.name.now (value k) ∷ patched_from path value (k + 1) rs

-- the overlay with its values as they are now
abbrev pub patched_lists : PatchedOverlay → Resolved
patched_lists s = record {
  nodes = (lists s.live).nodes;
  properties = patched_from (path_of s.live.nodes.items) (value_at s) 0 s.live.properties.items;
}

-- its properties alone
abbrev pub properties_of : PatchedOverlay → List (Definition (List ℕ))
properties_of s = (patched_lists s).properties

-- what the meaning makes of an overlay's rows above those of its base
abbrev pub shifted_rows : LiveTree Lent → LiveTree Lent → Result Resolved Fault
shifted_rows base over = shifted_overlay (lists base) (lists over)
