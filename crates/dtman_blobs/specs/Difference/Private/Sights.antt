-- What the steps of a comparison say of two nodes that they look at, each with what the phandles of its tree name.
use Rattle.std.specs.Prelude.{◌≡◌, ◌<◌, ℕ, List, [], ◌∷◌, ◌++◌, Option, MatchOption, Vec, length, option_copied}
use Rattle.std.specs.Borrow.{Bor}
use Rattle.std.specs.Global.{Global}
use Rattle.dt_tree.specs.NodeData.{NodeData, child_names, nodes_of}
use Rattle.dt_tree.specs.TreeData.{TreeData}
use Rattle.dtman_blobs.specs.declared.difference.comparing.Sight.{Sight}
use Rattle.dtman_blobs.specs.declared.difference.difference.Side.{Side}
use Rattle.dtman_blobs.specs.declared.difference.difference.Thing.{Thing}
use Rattle.dtman_blobs.specs.declared.difference.parts.Part.{Part as P}
use Rattle.dtman_blobs.specs.Difference.Difference.{DifferenceData}
use Rattle.dtman_blobs.specs.Difference.Named.{NamedNode, named_by}
use Rattle.dtman_blobs.specs.Difference.Seen.{Part}
use Rattle.dtman_blobs.specs.Difference.Private.Differences.{node_differences, nodes_alone, own_differences, properties_alone}
use Rattle.dtman_blobs.specs.Difference.Private.Orders.{moves, shared_nodes}
use Rattle.dtman_blobs.specs.Difference.Private.Things.{is_first, thing_data}
use Rattle.dtman_blobs.specs.Difference.Private.Views.{now_of, part_data}

-- ---- nodes
-- what the phandles of a node's tree name
abbrev pub named_in : Sight → ℕ → Option NamedNode
named_in s = named_by s.naming.now

-- a thing that stands on one side alone, below a path
abbrev pub told : Side → List ℕ → Thing → DifferenceData
told side path thing = record { is_first = is_first side; path = path; thing = thing_data thing }

-- the properties that a node has and the other one hasn't, and the children
abbrev pub properties_of_one : Side → List ℕ → Sight → Sight → List DifferenceData
properties_of_one side path ours theirs =
    properties_alone (is_first side) path (named_in ours) (named_in theirs) ours.node.now.properties theirs.node.now.properties

abbrev pub nodes_of_one : Side → List ℕ → NodeData → NodeData → List DifferenceData
nodes_of_one side path ours theirs = nodes_alone (is_first side) path (nodes_of ours.children) (child_names theirs.children)

-- what one of the two has alone, and also what is so below them
abbrev pub own_between : List ℕ → Sight → Sight → List DifferenceData
own_between path first second = own_differences (named_in first) (named_in second) path first.node.now second.node.now

abbrev pub differences_between : List ℕ → Sight → Sight → List DifferenceData
differences_between path first second = node_differences (named_in first) (named_in second) path first.node.now second.node.now

-- of the roots of two trees
abbrev pub tree_differences : TreeData → TreeData → List DifferenceData
tree_differences first second = node_differences (named_by first.root) (named_by second.root) [] first.root second.root

-- ---- names
-- the names of the children that the other node has, too
abbrev pub shared_children : NodeData → NodeData → List (List ℕ)
shared_children theirs ours = shared_nodes (child_names theirs.children) (nodes_of ours.children)

-- whether names stand in another order, as a count
abbrev pub moves_of : Vec (Bor (List ℕ)) Global → Vec (Bor (List ℕ)) Global → ℕ
moves_of names others = moves (now_of names.items) (now_of others.items)

-- ---- values
abbrev pub twice_copied : {A : Type 0} → Option (Bor (Bor A)) → Option A
twice_copied x = option_copied (option_copied x)

-- the first of the parts that are left, and those behind it; or none is left
abbrev pub IsNextPart : List Part → List Part → Option P → Type 0
IsNextPart old new found = MatchOption found (old ≡ []) (λ part. old ≡ part_data part ∷ new)

-- a cell of four bytes and the bytes behind it, where there are as many
abbrev pub IsCellSplit : List ℕ → Option (Bor (List ℕ) × Bor (List ℕ)) → Type 0
IsCellSplit bytes found = MatchOption found (length bytes < 4) (λ split. (bytes ≡ split.0.now ++ split.1.now) × (length split.0.now ≡ 4))
