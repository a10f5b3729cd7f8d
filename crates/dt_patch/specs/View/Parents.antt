-- Where a node of the tree stands, and what is told of the one round it: Devicetree Specification v0.4, section 5.4.2.
use Rattle.std.specs.Prelude.{◌≡◌, ℕ, List, Option, Some, Result, IsOkAnd, IsSomeAnd}
use Rattle.dt_tree.specs.NodeData.{NodeData}
use Rattle.dt_tree.specs.PathMap.{node_at}
use Rattle.dt_patch.specs.declared.view.error.ViewError.{ViewError}
use Rattle.dt_patch.specs.declared.view.nodes.NodeOffset.{NodeOffset}
use Rattle.dt_patch.specs.declared.view.view.View.{View}
use Rattle.dt_patch.specs.View.Reaching.{Reached, before_node}
use Rattle.dt_patch.specs.View.Standing.{StandsAt}

-- the node at the path stands there, and no look-alike of it in a value
pub record IsAt (view : View) (root : NodeData) (path : List (List ℕ)) (at : ℕ) : Type 0 where
  pub node : NodeData
  pub there : node_at root path ≡ Some node
  pub stands : StandsAt view at node
  pub reached : Reached view at (before_node root path)

-- the place of the node at the path is told
abbrev pub TellsAt : View → NodeData → List (List ℕ) → Result (Option NodeOffset) ViewError → Type 0
TellsAt view root path answer = IsOkAnd answer (λ place. IsSomeAnd place (λ p. IsAt view root path p.at))
