-- What the calls that make or change a tree answer, by the fault that the definitions have for them.
use Rattle.std.specs.Prelude.{◌≡◌, ℕ, Bool, ◌⊎◌, List, Option, Some, None, Result, MatchResult, MatchOption}
use Rattle.dt_tree.specs.declared.error.TreeError.{TreeError}
use Rattle.dt_tree.specs.declared.error.TreeError.TheVariants.{NoMemory}
use Rattle.dt_tree.specs.Changes.{IsRefusal, path_fault, with_nodes}
use Rattle.dt_tree.specs.NodeData.{NodeData}
use Rattle.dt_tree.specs.Path.{path_names}
use Rattle.dt_tree.specs.PathMap.{PathMap, is_listed, path_map, tree_map}
use Rattle.dt_tree.specs.Phandle.{IsFirstWith, IsNowhere}
use Rattle.dt_tree.specs.Preorder.{precedes}
use Rattle.dt_tree.specs.TreeData.{TreeData}

-- a call is done where there is no fault; else it has the fault, or wants memory where there is none
abbrev pub IsRefusedBy : {A : Type 0} → Option TreeError → Result A TreeError → Type 0
IsRefusedBy fault result = MatchResult result (λ _. fault ≡ None) (λ e. IsRefusal fault e)

-- the same of a call that may want memory before it comes to the fault
abbrev pub IsRefusedAtFirst : {A : Type 0} → Option TreeError → Result A TreeError → Type 0
IsRefusedAtFirst fault result = MatchResult result (λ _. fault ≡ None) (λ e. (fault ≡ Some e) ⊎ (e ≡ NoMemory))

-- a call that wants no memory answers whether something was there, or has the fault
abbrev pub TellsWhether : Option TreeError → Bool → Result Bool TreeError → Type 0
TellsWhether fault there result = MatchResult result (λ was. (fault ≡ None) × (was ≡ there)) (λ e. fault ≡ Some e)

-- the one tree is the other, with its nodes changed so
abbrev pub IsChangedBy : (PathMap (List ℕ) → PathMap (List ℕ)) → TreeData → TreeData → Type 0
IsChangedBy change old new = tree_map new ≡ with_nodes change (tree_map old)

-- why nothing is changed at a path, and what the node there has
abbrev pub fault_of_path : NodeData → List ℕ → Option TreeError
fault_of_path root path = path_fault (path_map root) (path_names path)

abbrev pub has_property_at : NodeData → List ℕ → List ℕ → Bool
has_property_at root path name = is_listed name ((path_map root).properties (path_names path))

abbrev pub has_child_at : NodeData → List ℕ → List ℕ → Bool
has_child_at root path name = is_listed name ((path_map root).children (path_names path))

-- the path of the first node with a phandle, or none where no node has it
abbrev pub IsFirstPath : PathMap (List ℕ) → ℕ → Option (List ℕ) → Type 0
IsFirstPath m phandle found =
    MatchOption found (IsNowhere m phandle) (λ path. IsFirstWith m phandle (path_names path))

-- of two nodes of a tree, the one before the other
abbrev pub is_before : TreeData → List (List ℕ) → List (List ℕ) → Bool
is_before t p q = precedes (path_map t.root) p q

abbrev pub has_node : TreeData → List (List ℕ) → Bool
has_node t path = (path_map t.root).has path
