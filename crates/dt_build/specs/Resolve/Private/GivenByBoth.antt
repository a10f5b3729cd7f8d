-- Phandles given by either name, as they are read (Devicetree Specification v0.4, section 2.3.3).
use Rattle.std.specs.Prelude.{◌≡◌, ◌≤◌, ◌+◌, ℕ, true, false, List, [], ◌∷◌, length, slice_index_or, Option, Some, None, Result, Ok, MatchResult, if◌then◌else◌}
use Rattle.dt_source.specs.declared.tree.Part.{Part}
use Rattle.dt_source.specs.TreeMeaning.Paths.{Path, same_path}
use Rattle.dt_source.specs.TreeMeaning.Phandles.{PathPhandle, has_phandle}
use Rattle.dt_source.specs.TreeMeaning.DtcPhandles.{has_number, with_given, given_by_value, given_by_both}
use Rattle.dt_source.specs.TreeMeaning.Statements.{Fault}
use Rattle.dt_live.specs.declared.live_tree.LiveTree.{LiveTree}
use Rattle.dt_live.specs.declared.live_tree.NodeRow.{NodeRow}
use Rattle.dt_live.specs.declared.preorder.properties.NodeProperty.{NodeProperty}
use Rattle.dt_live.specs.Rows.{node_path, path_of, stands}
use Rattle.dt_build.specs.Edit.Said.{Parts}
use Rattle.dt_build.specs.declared.resolve.error.BuildError.{BuildError}
use Rattle.dt_build.specs.declared.resolve.error.BuildErrorKind.{BuildErrorKind}
use Rattle.dt_build.specs.declared.resolve.given_by_both.Numbers.{Numbers}
use Rattle.dt_build.specs.declared.resolve.node_phandles.Given.{Given}
use Rattle.dt_build.specs.Resolve.BuildFault.{IsFault}
use Rattle.dt_build.specs.Resolve.Founds.{founds_of, found_property, found_properties}
use Rattle.dt_build.specs.Resolve.NodePhandles.{AreStanding}
use Rattle.dt_build.specs.Resolve.Private.Wanted.{HasTaken, phandles_of}

-- the number of the node at a path
abbrev pub number_at : Path → List PathPhandle → Option ℕ
number_at p [] = None
number_at p (x ∷ xs) = if same_path x.path p then Some x.phandle else number_at p xs

-- no node and no number stands twice
abbrev pub AreApart : List PathPhandle → Type 0
AreApart [] = Unit {0}
AreApart (x ∷ xs) = (has_number x.path xs ≡ false) × (has_phandle x.phandle xs ≡ false) × AreApart xs

-- the phandles so far: in order, as a set, and by node
pub record AreNumbers (rows : List NodeRow) (x : Numbers) : Type 0 where
  pub owners : AreStanding rows x.given.phandles.items
  pub taken : HasTaken rows x.given
  pub apart : AreApart (phandles_of rows x.given)
  pub count : length x.of_nodes.items ≡ length rows + 1
  pub of_nodes : (n : ℕ) → n ≤ length rows → stands rows n ≡ true → slice_index_or x.of_nodes.items n None ≡ number_at (path_of rows n) (phandles_of rows x.given)

-- a value gives a number, or asks for one
abbrev pub given_by_number : Path → Option ℕ → List PathPhandle → Result (List PathPhandle) Fault
given_by_number p None xs = Ok xs
given_by_number p (Some n) xs = with_given p (Some n) xs

abbrev pub IsNumber : LiveTree Parts → ℕ → List Part → List (Option ℕ) → Result (Option ℕ) BuildErrorKind → Type 0
IsNumber d n v ts result = (xs : List PathPhandle) → MatchResult result
    (λ o. given_by_value (node_path d n) (founds_of (node_path d) v ts) xs ≡ given_by_number (node_path d n) o xs)
    (λ kind. IsFault kind (given_by_value (node_path d n) (founds_of (node_path d) v ts) xs))

-- these are the phandles, or the call has the fault
abbrev pub GivesNumbers : {A : Type 0} → List NodeRow → Result (List PathPhandle) Fault → (A → Given) → Result A BuildError → Type 0
GivesNumbers rows meant new result = MatchResult result (λ a. meant ≡ Ok (phandles_of rows (new a))) (λ e. IsFault e.kind meant)

-- a node is given one more
abbrev pub GivesOne : {A : Type 0} → LiveTree Parts → ℕ → ℕ → Given → Given → Result A BuildError → Type 0
GivesOne d node n old new result =
    GivesNumbers d.nodes.items (with_given (node_path d node) (Some n) (phandles_of d.nodes.items old)) (λ _. new) result

-- those that one property gives, and all
abbrev pub given_more : LiveTree Parts → NodeProperty Parts → List (Option ℕ) → List PathPhandle → Result (List PathPhandle) Fault
given_more d x ts xs = given_by_both (found_property (node_path d) x ts ∷ []) xs

abbrev pub given_all : LiveTree Parts → List (NodeProperty Parts) → List (Option ℕ) → List PathPhandle → Result (List PathPhandle) Fault
given_all d ys ts xs = given_by_both (found_properties (node_path d) ys ts) xs

abbrev pub GivesMore : {A : Type 0} → LiveTree Parts → NodeProperty Parts → List (Option ℕ) → Given → Given → Result A BuildError → Type 0
GivesMore d x ts old new result = GivesNumbers d.nodes.items (given_more d x ts (phandles_of d.nodes.items old)) (λ _. new) result

abbrev pub GivesAll : LiveTree Parts → List (NodeProperty Parts) → List (Option ℕ) → Result Given BuildError → Type 0
GivesAll d ys ts result = GivesNumbers d.nodes.items (given_all d ys ts []) (λ given. given) result
