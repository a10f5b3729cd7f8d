-- Lists of targets so far (Devicetree Specification v0.4, section 6.3).
use Rattle.std.specs.Prelude.{◌≡◌, ℕ, Bool, true, List, [], ◌∷◌, ◌++◌, map, All, Option, Some, None, option_map, Result, Ok, MatchResult}
use Rattle.std.specs.List.{flat_map}
use Rattle.dt_tree.specs.Steps.{each}
use Rattle.dt_source.specs.declared.tree.Part.{Part}
use Rattle.dt_source.specs.Tree.{part_view}
use Rattle.dt_source.specs.TreeMeaning.Edits.{Definition}
use Rattle.dt_source.specs.TreeMeaning.Statements.{Fault}
use Rattle.dt_source.specs.TreeMeaning.References.{Found, Cell, Open, found_in, found_value}
use Rattle.dt_source.specs.TreeMeaning.Phandles.{cell_path}
use Rattle.dt_live.specs.declared.live_tree.LiveTree.{LiveTree}
use Rattle.dt_live.specs.Rows.{IsNode, is_standing, node_path}
use Rattle.dt_live.specs.declared.preorder.properties.NodeProperty.{NodeProperty}
use Rattle.dt_build.specs.Edit.Said.{Parts, tree_of}
use Rattle.dt_build.specs.declared.resolve.error.BuildError.{BuildError}
use Rattle.dt_build.specs.declared.resolve.references.Targets.{Targets}
use Rattle.dt_build.specs.Resolve.BuildFault.{IsFault}
use Rattle.dt_build.specs.Resolve.Private.ReadProperty.{read_property}
use Rattle.dt_build.specs.Resolve.Targets.{AreFound, IsKnown, IsThere, target_path}

-- a reference in cells is that of a node, or open where there is none
abbrev pub IsCell : LiveTree Parts → Option ℕ → Result Found Fault → Type 0
IsCell d (Some n) r = r ≡ Ok (Cell (node_path d n))
IsCell d None r = (l : List ℕ) × (r ≡ Ok (Open l))

-- each is a node of the tree
pub record AreTargets (d : LiveTree Parts) (t : Targets) : Type 0 where
  pub known : All (λ n. IsNode d n) t.cells.items
  pub there : All (λ n. is_standing d n ≡ true) t.cells.items
  pub all_known : All (IsKnown d) t.all.items
  pub all_there : All (IsThere d) t.all.items

-- those of some parts of a value go last
pub record Adds (d : LiveTree Parts) (fs : List Found) (old new : Targets) : Type 0 where
  pub all : map (option_map (node_path d)) new.all.items ≡ map (option_map (node_path d)) old.all.items ++ flat_map target_path fs
  pub cells : map (node_path d) new.cells.items ≡ map (node_path d) old.cells.items ++ flat_map cell_path fs

-- ---- what a call finds, or the fault that it has
abbrev pub GivesCell : LiveTree Parts → Result Found Fault → Result (Option ℕ) BuildError → Type 0
GivesCell d meant result = MatchResult result (λ cell. IsCell d cell meant) (λ e. IsFault e.kind meant)

abbrev pub Finds : {A B : Type 0} → LiveTree Parts → Result A Fault → (A → List Found) → Targets → Targets → Result B BuildError → Type 0
Finds {A} d meant founds old new result = MatchResult result (λ _. (f : A) × (meant ≡ Ok f) × Adds d (founds f) old new) (λ e. IsFault e.kind meant)

abbrev pub FindsPart : {B : Type 0} → Bool → LiveTree Parts → Part → Targets → Targets → Result B BuildError → Type 0
FindsPart plugin d part old new result = Finds d (found_in plugin (tree_of d) (part_view part)) (λ f. f ∷ []) old new result

abbrev pub FindsValue : {B : Type 0} → Bool → LiveTree Parts → List Part → Targets → Targets → Result B BuildError → Type 0
FindsValue plugin d value old new result = Finds d (each (found_in plugin (tree_of d)) (map part_view value)) (λ fs. fs) old new result

abbrev pub FindsAll : Result (List (Definition (List Found))) Fault → LiveTree Parts → Result Targets BuildError → Type 0
FindsAll meant d result = MatchResult result (λ t. (es : List (Definition (List Found))) × (meant ≡ Ok es) × AreFound d es t) (λ e. IsFault e.kind meant)

abbrev pub FindsTargets : Bool → LiveTree Parts → List (NodeProperty Parts) → Result Targets BuildError → Type 0
FindsTargets plugin d xs result = FindsAll (each (found_value plugin (tree_of d)) (map (read_property d.nodes.items) xs)) d result
