-- What a property in preorder stands for (Devicetree Specification v0.4, section 6.3).
use Rattle.std.specs.Prelude.{◌≡◌, ◌==◌, ℕ, true, List, map, take}
use Rattle.std.specs.List.{prefix_len}
use Rattle.dt_source.specs.TreeMeaning.Edits.{Definition, definition}
use Rattle.dt_source.specs.TreeMeaning.References.{in_order, preorder}
use Rattle.dt_live.specs.declared.live_tree.LiveTree.{LiveTree}
use Rattle.dt_live.specs.Rows.{is_standing, node_path, state_of}
use Rattle.dt_live.specs.declared.preorder.properties.NodeProperty.{NodeProperty}

abbrev pub definition_of : {V : Type 0} → LiveTree V → NodeProperty V → Definition V
definition_of d x = definition (node_path d x.node) x.name.now x.value

-- all nodes of a live tree's tree, in preorder
abbrev pub AreInPreorder : {V : Type 0} → LiveTree V → List ℕ → Type 0
AreInPreorder d nodes = map (node_path d) nodes ≡ preorder (state_of d).nodes

-- all properties of its tree, in the order of the nodes
abbrev pub AreInOrder : {V : Type 0} → LiveTree V → List (NodeProperty V) → Type 0
AreInOrder d properties = map (definition_of d) properties ≡ in_order (state_of d)

-- the node is in the tree
abbrev pub Stands : {V : Type 0} → LiveTree V → ℕ → Type 0
Stands d n = is_standing d n ≡ true

-- those of the first properties that are a node's
abbrev pub run_in : {V : Type 0} → ℕ → List (NodeProperty V) → List (NodeProperty V)
run_in n properties = take (prefix_len (λ x. n == x.node) properties) properties
