-- The laws of an overlay's result, each stated by a public function.
use Rattle.std.specs.Prelude.{◌≡◌, ◌⊎◌, Ok, Err}
use Rattle.dt_tree.specs.NodeData.{NodeData}
use Rattle.dt_tree.specs.PathMap.{path_map}
use Rattle.dt_tree.specs.Sound.{IsSound}
use Rattle.dt_tree.specs.TreeData.{TreeData, IsTree}
use Rattle.dt_source.specs.TreeMeaning.MapOf.{map_of}
use Rattle.dt_source.specs.TreeMeaning.Resolved.{Resolved}
use Rattle.dt_live.specs.Builder.Lists.{lists_of}
use Rattle.dt_source.specs.OverlayMeaning.Fault.{Fault}
use Rattle.dt_source.specs.OverlayMeaning.Shifted.{shifted_overlay}
use Rattle.dt_source.specs.OverlayMeaning.Applied.{overlay_result}
use Rattle.dt_overlay.specs.Applied.{IsApplied}
use Rattle.dt_overlay.specs.Union.{IsRefused, IsUnion}

-- the lists that the fragments' edits lead to have the map of the union
abbrev pub ResultIsUnion : Type 0
ResultIsUnion =
    (base over : NodeData) → IsSound base → IsSound over → (lists : Resolved)
    → overlay_result (lists_of base) (lists_of over) ≡ Ok lists → IsUnion base over (map_of lists)

-- and so has the tree that is answered
abbrev pub AppliedIsUnion : Type 0
AppliedIsUnion = (base over t : TreeData) → IsTree base → IsTree over → IsApplied base over t → IsUnion base.root over.root (path_map t.root)

-- a refusal is one of the shifted overlay, or of the first fragment that can't be put over the union so far
abbrev pub RefusalIsOfAFragment : Type 0
RefusalIsOfAFragment =
    (base over : NodeData) → IsSound base → IsSound over → (e : Fault) → overlay_result (lists_of base) (lists_of over) ≡ Err e
    → (shifted_overlay (lists_of base) (lists_of over) ≡ Err e) ⊎ IsRefused base over e
