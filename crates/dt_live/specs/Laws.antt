-- What is true of a flattened tree's rows (Devicetree Specification v0.4, sections 2.2 and 5.4).
use Rattle.std.specs.Prelude.{◌≡◌, ◌+◌, ◌-◌, ◌≤◌, ◌<◌, ℕ, true, false, List, [], drop, length, map, take, None, Some, MatchOption}
use Rattle.std.specs.List.{filter, list_all}
use Rattle.dt_tree.specs.Name.{are_names}
use Rattle.dt_source.specs.TreeMeaning.MapOf.{value_in}
use Rattle.dt_source.specs.TreeMeaning.Paths.{is_below, is_listed, is_within}
use Rattle.dt_live.specs.declared.live_tree.LiveTree.{LiveTree}
use Rattle.dt_live.specs.Rows.{IsLiveTree, IsNode, child_of, child_path, node_path, property_at, property_of, row_at, state_of}
use Rattle.dt_live.specs.ByRow.{defined_by, has_all_rows, is_named, row_property}
use Rattle.dt_live.specs.Flattened.{IsWhole, Lent, first_nodes, lists, nodes_from}
use Rattle.dt_live.specs.Runs.{ArePropertiesOf, IsRun, is_from_to}

-- ---- rows
-- the nodes of the tree are the rows, in order
abbrev pub AreItsNodes : LiveTree Lent → Type 0
AreItsNodes d = (lists d).nodes ≡ map (node_path d) (first_nodes (length d.nodes.items))

-- and so are its properties
abbrev pub AreItsProperties : LiveTree Lent → Type 0
AreItsProperties d = (lists d).properties ≡ map (defined_by d) d.properties.items

-- no two nodes have one path
abbrev pub HasPathsOnce : LiveTree Lent → Type 0
HasPathsOnce d = (n m : ℕ) → IsNode d n → IsNode d m → node_path d n ≡ node_path d m → n ≡ m

-- a live tree is whole where no row was removed, no label was given, and its tree has lawful names
abbrev pub IsWholeByRows : LiveTree Lent → Type 0
IsWholeByRows d =
    IsLiveTree d → has_all_rows d ≡ true → (state_of d).labels ≡ [] → list_all are_names (lists d).nodes ≡ true → list_all is_named (lists d).properties ≡ true → IsWhole d

-- ---- names
-- a child is found where its path is listed, and it stands at that path, behind its parent
abbrev pub IsChildLookUp : LiveTree Lent → ℕ → List ℕ → Type 0
IsChildLookUp d n k =
    MatchOption (child_of d n k) (is_listed (child_path d n k) (lists d).nodes ≡ false)
    (λ m. (is_listed (child_path d n k) (lists d).nodes ≡ true) × (node_path d m ≡ child_path d n k) × (n < m) × IsNode d m)

-- row r is the property of a node and a name
abbrev pub IsPropertyRow : LiveTree Lent → ℕ → List ℕ → ℕ → Type 0
IsPropertyRow d n k r =
    (value_in (lists d).properties (node_path d n) k ≡ Some (row_property d r).value) × ((property_at d.properties.items r).node ≡ n) × ((property_at d.properties.items r).name.now ≡ k) × (r < length d.properties.items)

-- a property is found where the node has one of that name, and the row lends its value
abbrev pub IsPropertyLookUp : LiveTree Lent → ℕ → List ℕ → Type 0
IsPropertyLookUp d n k =
    MatchOption (property_of d n k) (value_in (lists d).properties (node_path d n) k ≡ None) (IsPropertyRow d n k)

-- ---- a node with all below it
-- the nodes of a run are those within its first node
abbrev pub AreRunsWithin : LiveTree Lent → Type 0
AreRunsWithin d = (n e m : ℕ) → IsRun d n e → IsNode d m → is_within (node_path d n) (node_path d m) ≡ is_from_to n e m

-- those behind the first are those below it, in order
abbrev pub AreRunsBelow : LiveTree Lent → Type 0
AreRunsBelow d =
    (n e : ℕ) → IsRun d n e → filter (λ q. is_below (node_path d n) q) (lists d).nodes ≡ map (node_path d) (nodes_from (n + 1) (e - n))

-- with the first itself they are those within it, in order
abbrev pub AreRunsOfNodes : LiveTree Lent → Type 0
AreRunsOfNodes d =
    (n e : ℕ) → 1 ≤ n → IsRun d n e → filter (λ q. is_within (node_path d n) q) (lists d).nodes ≡ map (node_path d) (nodes_from n (e - n + 1))

-- their properties stand together
abbrev pub ArePropertiesTogether : LiveTree Lent → Type 0
ArePropertiesTogether d = (n e : ℕ) → n ≤ e → (low : ℕ) × (high : ℕ) × ArePropertiesOf d n e low high

-- and they are the properties within the first node, in order
abbrev pub AreRunsOfProperties : LiveTree Lent → Type 0
AreRunsOfProperties d =
    (n e low high : ℕ) → IsRun d n e → ArePropertiesOf d n e low high → filter (λ x. is_within (node_path d n) x.path) (lists d).properties ≡ map (defined_by d) (take (high - low) (drop low d.properties.items))

-- a node's run by the parents alone: none of those behind it, up to e, stands before it, and that of the next one does
abbrev pub IsRunByParents : LiveTree Lent → ℕ → ℕ → Type 0
IsRunByParents d n e =
    n ≤ e → IsNode d e → ((k : ℕ) → n ≤ k → k < e → n ≤ (row_at d.nodes.items k).parent) → (e < length d.nodes.items → (row_at d.nodes.items e).parent < n) → IsRun d n e
