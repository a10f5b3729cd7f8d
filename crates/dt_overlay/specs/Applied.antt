-- What applying an overlay answers: the tree of *Overlay result*, where its values are short enough, or why there is none
-- (dt-object-internal, section 3).
use Rattle.std.specs.Prelude.{◌≡◌, ◌<◌, ◌≤◌, ◌-◌, ◌^◌, ℕ, Option, None, Some, Result, Ok, MatchResult}
use Rattle.dt_tree.specs.NodeData.{NodeData}
use Rattle.dt_tree.specs.PathMap.{path_map, tree_map}
use Rattle.dt_tree.specs.Sound.{IsSound}
use Rattle.dt_tree.specs.TreeData.{TreeData}
use Rattle.dt_source.specs.TreeMeaning.MapOf.{map_of}
use Rattle.dt_source.specs.TreeMeaning.Resolved.{Resolved}
use Rattle.dt_live.specs.Builder.Lists.{lists_of}
use Rattle.dt_live.specs.Builder.Sizes.{size_in, size_below}
use Rattle.dt_source.specs.OverlayMeaning.Fault.{Fault}
use Rattle.dt_source.specs.OverlayMeaning.Applied.{overlay_result}
use Rattle.dt_overlay.specs.declared.fixup.error.OverlayError.{OverlayError}
use Rattle.dt_overlay.specs.Fixup.OverlayFault.{IsFault}

-- the tree is the base with the overlay applied; its reservations and its processor are the base's
pub record IsApplied (base over t : TreeData) : Type 0 where
  pub lists : Resolved
  pub result : overlay_result (lists_of base.root) (lists_of over.root) ≡ Ok lists
  pub map : tree_map t ≡ record { nodes = map_of lists; reserves = base.reserves; boot_cpu = base.boot_cpu }

-- and its values have no more bytes together than a limit below the greatest number
pub record IsAppliedWithin (base over : TreeData) (limit : ℕ) (t : TreeData) : Type 0 where
  pub applied : IsApplied base over t
  pub fits : limit < 2 ^ 64 - 1 → size_in applied.lists.properties ≤ limit

-- its values have more bytes together than this limit, which numbers can pass, and so has each tree with its map
pub record IsLonger (base over : TreeData) (limit : ℕ) : Type 0 where
  pub lists : Resolved
  pub result : overlay_result (lists_of base.root) (lists_of over.root) ≡ Ok lists
  pub longer : limit < size_in lists.properties
  pub passable : limit < 2 ^ 64 - 1
  pub trees : (b : NodeData) → IsSound b → path_map b ≡ map_of lists → size_in lists.properties ≤ size_below b

-- there is a tree, unless its values are too long
abbrev pub IsAppliedOrLonger : TreeData → TreeData → ℕ → Option TreeData → Type 0
IsAppliedOrLonger base over limit (Some t) = IsAppliedWithin base over limit t
IsAppliedOrLonger base over limit None = IsLonger base over limit

-- what applying one to the other means, as lists
abbrev pub applied_lists : TreeData → TreeData → Result Resolved Fault
applied_lists base over = overlay_result (lists_of base.root) (lists_of over.root)

-- a call answers that tree, or has its fault
abbrev pub Applies : TreeData → TreeData → Result TreeData OverlayError → Type 0
Applies base over result = MatchResult result (λ t. IsApplied base over t) (λ e. IsFault e (applied_lists base over))

abbrev pub AppliesWithin : TreeData → TreeData → ℕ → Result (Option TreeData) OverlayError → Type 0
AppliesWithin base over limit result =
    MatchResult result (λ t. IsAppliedOrLonger base over limit t) (λ e. IsFault e (applied_lists base over))
