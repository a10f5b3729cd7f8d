-- What a tree in dtc's language is made of, step by step (Devicetree Specification v0.4, sections 2.3.3 and 6.3).
use Rattle.std.specs.Prelude.{◌≡◌, ◌++◌, ℕ, Bool, true, not, List, [], map, All, Option, Result, Ok, MatchResult, if◌then◌else◌, Vec}
use Rattle.std.specs.Global.{Global}
use Rattle.std.specs.List.{filter, flat_map}
use Rattle.std.specs.Option.{option_map}
use Rattle.dt_tree.specs.Steps.{then_do}
use Rattle.dt_source.specs.TreeMeaning.Edits.{Definition}
use Rattle.dt_source.specs.TreeMeaning.Paths.{Path}
use Rattle.dt_source.specs.TreeMeaning.Phandles.{PathPhandle}
use Rattle.dt_source.specs.TreeMeaning.References.{Found, references}
use Rattle.dt_source.specs.TreeMeaning.Resolved.{when}
use Rattle.dt_source.specs.TreeMeaning.DtcEdits.{DtcTree}
use Rattle.dt_source.specs.TreeMeaning.DtcPhandles.{asks_for_own, given_by_both, numbers_of_cells}
use Rattle.dt_source.specs.TreeMeaning.DtcResolved as meaning
use Rattle.dt_source.specs.TreeMeaning.DtcResolved.{fixed_up, is_left}
use Rattle.dt_live.specs.declared.live_tree.LiveTree.{LiveTree}
use Rattle.dt_live.specs.Rows.{IsNode, is_standing, node_path}
use Rattle.dt_live.specs.Preorder.{AreInOrder, AreInPreorder}
use Rattle.dt_build.specs.Edit.Said.{Parts, tree_of}
use Rattle.dt_build.specs.declared.resolve.error.BuildError.{BuildError}
use Rattle.dt_build.specs.declared.resolve.gathered.Gathered.{Gathered}
use Rattle.dt_build.specs.declared.resolve.gathered.Gathering.{Gathering}
use Rattle.dt_build.specs.declared.resolve.gathered.Numbered.{Numbered}
use Rattle.dt_build.specs.declared.resolve.gathered.Rest.{Rest}
use Rattle.dt_build.specs.declared.resolve.node_phandles.NodePhandle.{NodePhandle}
use Rattle.dt_build.specs.Resolve.BuildFault.{IsFault}
use Rattle.dt_build.specs.Resolve.Founds.{found_properties}
use Rattle.dt_build.specs.Resolve.Gathered.{IsAmong, IsGathered, all_gathered, targets_anew}
use Rattle.dt_build.specs.Resolve.NodePhandles.{AreStanding, path_phandle_of}
use Rattle.dt_build.specs.Resolve.Targets.{IsKnown, IsThere, target_path}
use Rattle.dt_build.specs.Resolve.Private.Gone.{Leaves, is_marked}
use Rattle.dt_build.specs.Resolve.Private.SymbolNumbers.{symbol_numbers}
use Rattle.dt_build.specs.Resolve.Private.Wanted.{marked_rows}

-- the nodes and the properties of a tree are in preorder, and targets are nodes
pub record IsInOrder (d : LiveTree Parts) (x : Rest) : Type 0 where
  pub nodes : AreInPreorder d x.in_preorder.nodes.items
  pub known : All (λ n. IsNode d n) x.in_preorder.nodes.items
  pub there : All (λ n. is_standing d n ≡ true) x.in_preorder.nodes.items
  pub properties : AreInOrder d x.in_preorder.properties.items
  pub owners : All (λ y. IsNode d y.node) x.in_preorder.properties.items
  pub stand : All (λ y. is_standing d y.node ≡ true) x.in_preorder.properties.items
  pub targets : All (IsKnown d) x.targets.items

-- what is found in the values
abbrev pub founds_in : LiveTree Parts → Rest → List (Definition (List Found))
founds_in d x = found_properties (node_path d) x.in_preorder.properties.items x.targets.items

abbrev pub phandles_in : LiveTree Parts → List NodePhandle → List PathPhandle
phandles_in d xs = map (path_phandle_of d.nodes.items) xs

-- ---- numbers of cells
pub record IsNumbered (plugin : Bool) (d : LiveTree Parts) (x : Numbered) : Type 0 where
  pub order : IsInOrder d x.rest
  pub there : All (IsThere d) x.rest.targets.items
  pub named : map (option_map (node_path d)) x.rest.targets.items ≡ flat_map (λ e. flat_map target_path e.value) (founds_in d x.rest)
  pub found : references plugin (tree_of d) ≡ Ok (founds_in d x.rest)
  pub given : given_by_both (founds_in d x.rest) [] ≡ Ok (phandles_in d x.given.items)
  pub owners : AreStanding d.nodes.items x.given.items
  pub of_cells : phandles_in d x.of_cells.items ≡ numbers_of_cells (phandles_in d x.given.items) (founds_in d x.rest)
  pub numbered : AreStanding d.nodes.items x.of_cells.items

abbrev pub NumbersCells : Bool → LiveTree Parts → Result Numbered BuildError → Type 0
NumbersCells plugin d result = MatchResult result (IsNumbered plugin d) (λ e. IsFault e.kind (then_do (references plugin (tree_of d)) (λ es. given_by_both es [])))

-- ---- what is left
abbrev pub paths_in : LiveTree Parts → List ℕ → List Path
paths_in d ns = map (node_path d) ns

pub record IsWithout (gone : List ℕ) (old : LiveTree Parts) (was : Rest) (new : LiveTree Parts) (left : Rest) : Type 0 where
  pub rows : Leaves (paths_in old gone) old new
  pub order : IsInOrder new left
  pub founds : founds_in new left ≡ filter (λ e. is_left (paths_in old gone) e.path) (founds_in old was)
  pub among : (test : ℕ → Bool) → All (IsAmong test) was.targets.items → All (IsAmong test) left.targets.items

-- ---- references found anew, where one of the tree's nodes went
abbrev pub fixed_in : Bool → LiveTree Parts → Rest → Option (Vec (Option ℕ) Global) → List (Definition (List Found))
fixed_in plugin d x anew =
    when plugin (filter (λ e. not (asks_for_own e)) (found_properties (node_path d) x.in_preorder.properties.items (targets_anew x.targets.items anew)))

-- where none went, those found before are right
abbrev pub IsAsFound : Bool → List ℕ → LiveTree Parts → Rest → Type 0
IsAsFound plugin gone d x = gone ≡ [] → references plugin (tree_of d) ≡ Ok (founds_in d x)

-- where each node that stands passes, and each target found before, so does each of these
abbrev pub AreAmong : LiveTree Parts → List (Option ℕ) → List (Option ℕ) → Type 0
AreAmong d ts us = (test : ℕ → Bool) → ((n : ℕ) → IsNode d n → is_standing d n ≡ true → test n ≡ true) → All (IsAmong test) ts → All (IsAmong test) us

pub record IsFixed (plugin : Bool) (d : LiveTree Parts) (x : Rest) (anew : Option (Vec (Option ℕ) Global)) : Type 0 where
  pub fixed : fixed_up plugin (tree_of d) ≡ Ok (fixed_in plugin d x anew)
  pub targets : All (IsKnown d) (targets_anew x.targets.items anew)
  pub among : AreAmong d x.targets.items (targets_anew x.targets.items anew)

abbrev pub FindsAnew : Bool → List ℕ → LiveTree Parts → Rest → Result (Option (Vec (Option ℕ) Global)) BuildError → Type 0
FindsAnew plugin gone d x result = IsAsFound plugin gone d x → MatchResult result (IsFixed plugin d x) (λ e. IsFault e.kind (fixed_up plugin (tree_of d)))

-- ---- all numbers that nodes get
abbrev pub all_numbers : LiveTree Parts → List ℕ → List Bool → List NodePhandle → List NodePhandle → Bool → List PathPhandle
all_numbers d order labelled given of_cells symbols =
    phandles_in d of_cells ++ (if symbols then symbol_numbers d given of_cells (marked_rows d (is_marked labelled) order) else [])

abbrev pub AreAllNumbers : LiveTree Parts → List ℕ → List Bool → List NodePhandle → List NodePhandle → Bool → List NodePhandle → Type 0
AreAllNumbers d order labelled given of_cells symbols new = phandles_in d new ≡ all_numbers d order labelled given of_cells symbols

-- those of cells, and others of nodes that stand behind them
pub record Extends (d : LiveTree Parts) (of_cells new : List NodePhandle) : Type 0 where
  pub more : List NodePhandle
  pub items : new ≡ of_cells ++ more
  pub standing : AreStanding d.nodes.items more

-- ---- all
abbrev pub whole : LiveTree Parts → Gathering → Gathered
whole d x = record {
  live = d;
  in_preorder = x.rest.in_preorder;
  targets = x.rest.targets;
  anew = x.anew;
  given = x.given;
  new = x.new;
  labelled = x.labelled;
}

abbrev pub GathersIn : Bool → Bool → DtcTree → LiveTree Parts → Result Gathering BuildError → Type 0
GathersIn symbols plugin t d result = MatchResult result
    (λ x. (meant : meaning.Gathered) × (all_gathered symbols plugin t ≡ Ok meant) × IsGathered plugin t meant (whole d x))
    (λ e. IsFault e.kind (all_gathered symbols plugin t))
