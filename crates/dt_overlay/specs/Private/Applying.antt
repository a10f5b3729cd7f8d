-- The root of the tree that applying an overlay answers (dt-object-internal, section 3).
use Rattle.std.specs.Prelude.{◌≡◌, ◌<◌, ◌≤◌, ◌-◌, ◌^◌, ℕ, [], Option, Some, None, Result, Ok, MatchResult}
use Rattle.dt_tree.specs.NodeData.{NodeData}
use Rattle.dt_tree.specs.PathMap.{path_map}
use Rattle.dt_tree.specs.Sound.{IsSound}
use Rattle.dt_source.specs.TreeMeaning.MapOf.{map_of}
use Rattle.dt_source.specs.TreeMeaning.Resolved.{Resolved}
use Rattle.dt_live.specs.Builder.Sizes.{size_below, size_in}
use Rattle.dt_live.specs.declared.live_tree.LiveTree.{LiveTree}
use Rattle.dt_live.specs.Flattened.{Lent, lists}
use Rattle.dt_source.specs.OverlayMeaning.Fault.{Fault}
use Rattle.dt_overlay.specs.declared.fixup.error.OverlayError.{OverlayError}
use Rattle.dt_overlay.specs.Fixup.OverlayFault.{IsFault}

-- a root with the map that is meant, whose values fit
pub record IsRoot (wanted : Result Resolved Fault) (limit : ℕ) (root : NodeData) : Type 0 where
  pub lists : Resolved
  pub result : wanted ≡ Ok lists
  pub name : root.name ≡ []
  pub map : path_map root ≡ map_of lists
  pub fits : limit < 2 ^ 64 - 1 → size_in lists.properties ≤ limit

-- its values would be longer than a limit that numbers can pass
pub record IsTooLong (wanted : Result Resolved Fault) (limit : ℕ) : Type 0 where
  pub lists : Resolved
  pub result : wanted ≡ Ok lists
  pub longer : limit < size_in lists.properties
  pub passable : limit < 2 ^ 64 - 1
  pub trees : (b : NodeData) → IsSound b → path_map b ≡ map_of lists → size_in lists.properties ≤ size_below b

abbrev pub IsRootOrTooLong : Result Resolved Fault → ℕ → Option NodeData → Type 0
IsRootOrTooLong wanted limit (Some root) = IsRoot wanted limit root
IsRootOrTooLong wanted limit None = IsTooLong wanted limit

-- a call answers the root of a tree that is meant, or has its fault
abbrev pub AnswersRoot : Result Resolved Fault → ℕ → Result (Option NodeData) OverlayError → Type 0
AnswersRoot wanted limit result = MatchResult result (λ root. IsRootOrTooLong wanted limit root) (λ e. IsFault e wanted)

-- ---- the root of a live tree
-- the values of its tree are longer together than a limit
abbrev pub Exceeds : LiveTree Lent → ℕ → Type 0
Exceeds d limit = limit < size_in (lists d).properties

-- they aren't, where numbers can pass the limit
abbrev pub Fits : LiveTree Lent → ℕ → Type 0
Fits d limit = limit < 2 ^ 64 - 1 → size_in (lists d).properties ≤ limit

-- the root has the map of its tree
abbrev pub HasMap : LiveTree Lent → NodeData → Type 0
HasMap d root = path_map root ≡ map_of (lists d)
