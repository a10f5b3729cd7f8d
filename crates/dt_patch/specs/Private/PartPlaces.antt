-- Where a part of a value stands.
use Rattle.std.specs.Prelude.{◌≡◌, ℕ, ◌+◌, ◌-◌, ◌<◌, ◌≤◌, List, ◌∷◌, ◌++◌, length, take, drop, None, Some}
use Rattle.dt_tree.specs.NodeData.{NodeData}
use Rattle.dt_blob.specs.Blocks.{structure_in}
use Rattle.dt_blob.specs.HeaderWords.{header_of, strings_of}
use Rattle.dt_blob.specs.Holds.{SpellsToken}
use Rattle.dt_blob.specs.Token.{Token, begin_node, property}
use Rattle.dt_patch.specs.declared.view.properties.PlacedProperty.{PlacedProperty}
use Rattle.dt_patch.specs.declared.view.view.View.{View}
use Rattle.dt_patch.specs.View.Placing.{IsPlaced}
use Rattle.dt_patch.specs.View.Reaching.{Reached, before_property}
use Rattle.dt_patch.specs.View.Shows.{IsOver}
use Rattle.dt_patch.specs.View.Standing.{StandsAt}

-- of the node that stands at an offset, the first property of this name stands there
abbrev pub IsOwn : View → ℕ → List ℕ → ℕ → Type 0
IsOwn view node name at = (d : NodeData) (before : List Token) → StandsAt view node d → Reached view node before → Reached view at (before ++ begin_node d.name ∷ before_property d.properties name)

-- a property of this name, whose value has room for a part
pub record IsPartOf (view : View) (node : ℕ) (name : List ℕ) (index size : ℕ) (p : PlacedProperty) : Type 0 where
  pub placed : IsPlaced view p name
  pub own : IsOwn view node name p.at
  pub fits : index + size ≤ length p.value.now

-- the same of a blob: the part stands at a place of the blob
pub record IsPartAt (bytes : List ℕ) (node : ℕ) (name : List ℕ) (index size place : ℕ) : Type 0 where
  pub at : ℕ
  pub next : ℕ
  pub value : List ℕ
  pub spelled : SpellsToken (strings_of bytes) (property name value) (take (next - at) (drop at (structure_in bytes)))
  pub inside : next ≤ length (structure_in bytes)
  pub fits : index + size ≤ length value
  pub own : (view : View) → IsOver bytes view → IsOwn view node name at
  pub is : place ≡ (header_of bytes).structure_at + at + 12 + index
  pub room : place + size ≤ length bytes
