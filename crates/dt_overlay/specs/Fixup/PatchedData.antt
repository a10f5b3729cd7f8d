-- What contracts see of a patched overlay (dt-object-internal, section 2).
use Rattle.std.specs.Prelude.{◌≡◌, List, length, Option}
use Rattle.dt_live.specs.declared.live_tree.LiveTree.{LiveTree}
use Rattle.dt_live.specs.Flattened.{Lent, IsOrdered, IsWhole}
use Rattle.dt_overlay.specs.declared.fixup.patched_overlay.Change.{Change}

-- an overlay's rows as they were read, and the change of each property's value
pub record PatchedData : Type 0 where
  pub live : LiveTree Lent
  pub changes : List (Option Change)

abbrev pub patched_data : LiveTree Lent → List (Option Change) → PatchedData
patched_data live changes = record { live = live; changes = changes }

-- what is true of each: no row was removed, and each property has room for its change
pub record IsPatched (s : PatchedData) : Type 0 where
  pub whole : IsWhole s.live
  pub ordered : IsOrdered s.live
  pub count : length s.changes ≡ length s.live.properties.items
