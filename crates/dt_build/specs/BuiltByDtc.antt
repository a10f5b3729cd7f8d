-- What a build in dtc's language answers: the resolved tree with its boot processor, where its values are short enough, or why there is
-- none (Devicetree Specification v0.4, chapters 5 and 6; where it is silent, dtc 1.6.1, tried by hand).
use Rattle.std.specs.Prelude.{◌≡◌, ◌<◌, ◌≤◌, ◌-◌, ◌^◌, ℕ, Bool, Option, None, Some, Result, Ok, MatchResult}
use Rattle.std.specs.Option.{option_map}
use Rattle.std.specs.Result.{result_map_both}
use Rattle.dt_tree.specs.NodeData.{NodeData}
use Rattle.dt_tree.specs.PathMap.{TreeMap, path_map, tree_map}
use Rattle.dt_tree.specs.Sound.{IsSound}
use Rattle.dt_tree.specs.TreeData.{TreeData}
use Rattle.dt_source.specs.TreeMeaning.Syntax.{Meaning}
use Rattle.dt_source.specs.TreeMeaning.BootProcessor.{dtc_boot_processor}
use Rattle.dt_source.specs.TreeMeaning.DtcResolved.{dtc_resolved}
use Rattle.dt_source.specs.TreeMeaning.MapOf.{map_of, tree_map_of}
use Rattle.dt_source.specs.TreeMeaning.Resolved.{Resolved}
use Rattle.dt_live.specs.Builder.Sizes.{size_in, size_below}
use Rattle.dt_source.specs.declared.tree.Source.{Source}
use Rattle.dt_source.specs.Meaning.{meaning_of}
use Rattle.dt_build.specs.declared.resolve.error.BuildError.{BuildError}
use Rattle.dt_build.specs.Resolve.BuildFault.{IsFault}
use Rattle.dt_build.specs.declared.dtc_building.Built.{Built}
use Rattle.dt_build.specs.Places.{ArePlacesOf, first_root}

-- the same tree, whose system boots on this processor
abbrev pub booting : ℕ → TreeMap → TreeMap
booting n m = record m { boot_cpu = n }

-- the tree is the source's resolved tree, with its boot processor
pub record IsDtcTreeOf (symbols : Bool) (m : Meaning) (t : TreeData) : Type 0 where
  pub lists : Resolved
  pub resolves : dtc_resolved symbols m ≡ Ok lists
  pub processor : ℕ
  pub boots : dtc_boot_processor m ≡ Ok processor
  pub map : tree_map t ≡ booting processor (tree_map_of m lists)

-- the values of the resolved tree have more bytes together than this limit, which numbers can pass, and so has each tree with its map
pub record IsDtcLonger (symbols : Bool) (m : Meaning) (limit : ℕ) : Type 0 where
  pub lists : Resolved
  pub resolves : dtc_resolved symbols m ≡ Ok lists
  pub longer : limit < size_in lists.properties
  pub passable : limit < 2 ^ 64 - 1
  pub trees : (b : NodeData) → IsSound b → path_map b ≡ map_of lists → size_in lists.properties ≤ size_below b

-- the tree is the resolved one, and its values have no more bytes together than a limit below the greatest number
pub record IsDtcTreeWithin (symbols : Bool) (m : Meaning) (limit : ℕ) (t : TreeData) : Type 0 where
  pub tree : IsDtcTreeOf symbols m t
  pub fits : limit < 2 ^ 64 - 1 → size_in tree.lists.properties ≤ limit

-- there is a tree, unless its values are too long
abbrev pub IsDtcBuilt : Bool → Meaning → ℕ → Option TreeData → Type 0
IsDtcBuilt symbols m limit (Some t) = IsDtcTreeWithin symbols m limit t
IsDtcBuilt symbols m limit None = IsDtcLonger symbols m limit

-- why a source makes no tree
abbrev pub DtcRefuses : Bool → Meaning → BuildError → Type 0
DtcRefuses symbols m e = IsFault e.kind (dtc_resolved symbols m)

-- what a build answers
abbrev pub BuildsDtc : Bool → Meaning → ℕ → Result (Option TreeData) BuildError → Type 0
BuildsDtc symbols m limit result = MatchResult result (λ tree. IsDtcBuilt symbols m limit tree) (λ e. DtcRefuses symbols m e)

-- the trees of what is built with its places
abbrev pub trees_of : Result (Option Built) BuildError → Result (Option TreeData) BuildError
trees_of result = result_map_both (option_map (λ b. b.tree)) (λ e. e) result

-- and its places are those of its source's rows
abbrev pub HasPlaces : Bool → Source → Built → Type 0
HasPlaces symbols source b = ArePlacesOf symbols (meaning_of source) (first_root source.items.items) b.places
