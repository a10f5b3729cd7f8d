-- What is found, and the phandles that are given (Devicetree Specification v0.4, sections 2.3.3 and 6.3).
use Rattle.std.specs.Prelude.{◌≡◌, Bool, false, List, [], map, Ok}
use Rattle.dt_source.specs.TreeMeaning.Edits.{Definition}
use Rattle.dt_source.specs.TreeMeaning.Resolved.{names_taken}
use Rattle.dt_source.specs.TreeMeaning.Phandles.{given_of, assigned, wanted}
use Rattle.dt_source.specs.TreeMeaning.References.{Found, in_order, references}
use Rattle.dt_live.specs.declared.live_tree.LiveTree.{LiveTree}
use Rattle.dt_build.specs.Edit.Said.{Parts, tree_of}
use Rattle.dt_build.specs.declared.resolve.resolving.Resolution.{Resolution}
use Rattle.dt_build.specs.Resolve.NodePhandles.{path_phandle_of}
use Rattle.dt_build.specs.Resolve.Targets.{AreFound}

-- the phandles given, the references found, and the phandles of the nodes that want one
pub record IsResolved (symbols plugin : Bool) (d : LiveTree Parts) (es : List (Definition (List Found))) (all : Resolution) : Type 0 where
  pub free : names_taken symbols plugin (tree_of d) ≡ false
  pub given : given_of (in_order (tree_of d)) [] ≡ Ok (map (path_phandle_of d.nodes.items) all.given.phandles.items)
  pub found : references plugin (tree_of d) ≡ Ok es
  pub targets : AreFound d es all.targets
  pub new : map (path_phandle_of d.nodes.items) all.new.items
      ≡ assigned (map (path_phandle_of d.nodes.items) all.given.phandles.items) 0 (wanted symbols (tree_of d) (map (path_phandle_of d.nodes.items) all.given.phandles.items) es)
