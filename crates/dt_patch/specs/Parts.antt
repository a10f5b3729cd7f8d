-- Other bytes in the place of some of a value, of a node by its offset: Devicetree Specification v0.4, section 5.4.1; libfdt's
-- `fdt_setprop_inplace_namelen_partial`. Nothing moves.
use Rattle.std.specs.Prelude.{◌≡◌, ℕ, ◌+◌, ◌-◌, ◌≤◌, nat_lt, List, ◌∷◌, ◌++◌, length, take, drop, Option, Some, None, if◌then◌else◌}
use Rattle.dt_tree.specs.NodeData.{NodeData}
use Rattle.dt_blob.specs.Blocks.{structure_in}
use Rattle.dt_blob.specs.HeaderWords.{header_of, strings_of}
use Rattle.dt_blob.specs.Holds.{SpellsToken}
use Rattle.dt_blob.specs.Token.{Token, begin_node, property}
use Rattle.dt_patch.specs.declared.error.PatchError.{PatchError}
use Rattle.dt_patch.specs.declared.error.PatchError.TheVariants.{NoProperty, OtherLength}
use Rattle.dt_patch.specs.declared.view.view.View.{View}
use Rattle.dt_patch.specs.View.Reaching.{Reached, before_property}
use Rattle.dt_patch.specs.View.Shows.{IsOver}
use Rattle.dt_patch.specs.View.Standing.{StandsAt}

-- the bytes with a part in the value of the property that begins at an offset of the structure block, from a place of the value on; a
-- property has three words before its value
abbrev pub with_part : ℕ → ℕ → List ℕ → List ℕ → List ℕ
with_part at index part bytes =
    let from = (header_of bytes).structure_at + at + 12 + index in
    take from bytes ++ (part ++ drop (from + length part) bytes)

-- a property of this name, of the node at the offset, has the part from that place of its value on, and no other byte is another
pub record IsPartSet (old : List ℕ) (node : ℕ) (name : List ℕ) (index : ℕ) (part new : List ℕ) : Type 0 where
  pub at : ℕ
  pub next : ℕ
  pub value : List ℕ
  pub spelled : SpellsToken (strings_of old) (property name value) (take (next - at) (drop at (structure_in old)))
  pub inside : next ≤ length (structure_in old)
  pub fits : index + length part ≤ length value
  -- it is the first of this name in the node that stands there
  pub own : (view : View) → IsOver old view → (d : NodeData) (before : List Token) → StandsAt view node d → Reached view node before
      → Reached view at (before ++ begin_node d.name ∷ before_property d.properties name)
  pub is : new ≡ with_part at index part old

-- why a value, if any, isn't set up to an end
abbrev pub part_fault : Option (List ℕ) → ℕ → Option PatchError
part_fault None end = Some NoProperty
part_fault (Some value) end = if nat_lt (length value) end then Some OtherLength else None
