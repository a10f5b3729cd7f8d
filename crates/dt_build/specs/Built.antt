-- What a build answers: the resolved tree, where its values are short enough, or why there is none
-- (Devicetree Specification v0.4, chapter 6).
use Rattle.std.specs.Prelude.{◌≡◌, ◌<◌, ◌≤◌, ◌-◌, ◌^◌, ℕ, Bool, Option, None, Some, Result, Ok, MatchResult}
use Rattle.dt_tree.specs.NodeData.{NodeData}
use Rattle.dt_tree.specs.PathMap.{path_map, tree_map}
use Rattle.dt_tree.specs.Sound.{IsSound}
use Rattle.dt_tree.specs.TreeData.{TreeData}
use Rattle.dt_source.specs.TreeMeaning.Syntax.{Meaning}
use Rattle.dt_source.specs.TreeMeaning.MapOf.{map_of, tree_map_of}
use Rattle.dt_source.specs.TreeMeaning.Resolved.{Resolved, resolved}
use Rattle.dt_live.specs.Builder.Sizes.{size_in, size_below}
use Rattle.dt_build.specs.declared.resolve.error.BuildError.{BuildError}
use Rattle.dt_build.specs.Resolve.BuildFault.{IsFault}

-- the tree is the source's resolved tree
pub record IsTreeOf (symbols : Bool) (m : Meaning) (t : TreeData) : Type 0 where
  pub lists : Resolved
  pub resolves : resolved symbols m ≡ Ok lists
  pub map : tree_map t ≡ tree_map_of m lists

-- the values of the resolved tree have more bytes together than this limit, which numbers can pass, and so has each tree with its map
pub record IsLonger (symbols : Bool) (m : Meaning) (limit : ℕ) : Type 0 where
  pub lists : Resolved
  pub resolves : resolved symbols m ≡ Ok lists
  pub longer : limit < size_in lists.properties
  pub passable : limit < 2 ^ 64 - 1
  pub trees : (b : NodeData) → IsSound b → path_map b ≡ map_of lists → size_in lists.properties ≤ size_below b

-- the tree is the resolved one, and its values have no more bytes together than a limit below the greatest number
pub record IsTreeWithin (symbols : Bool) (m : Meaning) (limit : ℕ) (t : TreeData) : Type 0 where
  pub tree : IsTreeOf symbols m t
  pub fits : limit < 2 ^ 64 - 1 → size_in tree.lists.properties ≤ limit

-- there is a tree, unless its values are too long
abbrev pub IsBuilt : Bool → Meaning → ℕ → Option TreeData → Type 0
IsBuilt symbols m limit (Some t) = IsTreeWithin symbols m limit t
IsBuilt symbols m limit None = IsLonger symbols m limit

-- why a source makes no tree
abbrev pub Refuses : Bool → Meaning → BuildError → Type 0
Refuses symbols m e = IsFault e.kind (resolved symbols m)

-- what a build answers: within a limit, and however long the values are
abbrev pub Builds : Bool → Meaning → ℕ → Result (Option TreeData) BuildError → Type 0
Builds symbols m limit result = MatchResult result (λ tree. IsBuilt symbols m limit tree) (λ e. Refuses symbols m e)

abbrev pub BuildsTree : Bool → Meaning → Result TreeData BuildError → Type 0
BuildsTree symbols m result = MatchResult result (λ tree. IsTreeOf symbols m tree) (λ e. Refuses symbols m e)
