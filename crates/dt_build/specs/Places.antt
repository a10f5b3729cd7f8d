-- Where the text has the nodes and the properties of a tree in dtc's language: what is made behind them, phandles, symbols and fixups,
-- has no place (Devicetree Specification v0.4, sections 2.2 and 6.3; where it is silent, dtc 1.6.1, tried by hand).
use Rattle.std.specs.Prelude.{◌≡◌, ◌==◌, ℕ, zero, suc, Bool, not, List, [], ◌∷◌, length, map, Ok}
use Rattle.std.specs.List.{filter}
use Rattle.dt_source.specs.declared.tree.Item.{Item}
use Rattle.dt_source.specs.declared.tree.Item.TheVariants.{Root}
use Rattle.dt_source.specs.TreeMeaning.Syntax.{Meaning}
use Rattle.dt_source.specs.TreeMeaning.DtcEdits.{DtcTree}
use Rattle.dt_source.specs.TreeMeaning.DtcResolved as meaning
use Rattle.dt_source.specs.TreeMeaning.DtcStatements.{dtc_edited}
use Rattle.dt_live.specs.declared.live_tree.LiveTree.{LiveTree}
use Rattle.dt_live.specs.declared.live_tree.NodeRow.{NodeRow}
use Rattle.dt_live.specs.declared.preorder.properties.NodeProperty.{NodeProperty}
use Rattle.dt_live.specs.Rows.{node_path, row_at}
use Rattle.dt_live.specs.declared.making.places.Places.{Places}
use Rattle.dt_live.specs.Making.Places.{totals}
use Rattle.dt_build.specs.Edit.Said.{Parts}
use Rattle.dt_build.specs.declared.resolve.gathered.Gathered.{Gathered}
use Rattle.dt_build.specs.Resolve.Founds.{found_property}
use Rattle.dt_build.specs.Resolve.Gathered.{IsGathered, all_gathered}

-- where the slash of the first root stands
abbrev pub first_root : List Item → ℕ
first_root [] = 0
first_root (Root at body ∷ items) = at
first_root (item ∷ items) = first_root items

-- where the definition stands that made a node
abbrev pub node_place : List NodeRow → ℕ → ℕ → ℕ
node_place rows root zero = root
node_place rows root (suc k) = (row_at rows k).at

-- the properties but those that repeat their node's name, which they do whatever their targets are
abbrev pub repeats : LiveTree Parts → NodeProperty Parts → Bool
repeats d x = meaning.repeats_name (found_property (node_path d) x [])

abbrev pub kept_properties : LiveTree Parts → List (NodeProperty Parts) → List (NodeProperty Parts)
kept_properties d xs = filter (λ x. not (repeats d x)) xs

-- how many of them are a node's
abbrev pub count_of : List (NodeProperty Parts) → ℕ → ℕ
count_of xs n = length (filter (λ x. n == x.node) xs)

-- places of nodes in their order, and of the properties in theirs, with as many of each node as it has
pub record AreOfRows (rows : List NodeRow) (order : List ℕ) (xs : List (NodeProperty Parts)) (root : ℕ) (s : Places) : Type 0 where
  pub nodes : s.nodes.items ≡ map (node_place rows root) order
  pub starts : s.starts.items ≡ totals 0 (map (count_of xs) order)
  pub properties : s.properties.items ≡ map (λ x. x.value.now.at) xs

-- the rows of what is gathered of a source, in preorder, each at its place
pub record ArePlacesOf (symbols : Bool) (m : Meaning) (root : ℕ) (s : Places) : Type 0 where
  pub tree : DtcTree
  pub edited : dtc_edited m ≡ Ok tree
  pub meant : meaning.Gathered
  pub all : all_gathered symbols m.plugin tree ≡ Ok meant
  pub left : Gathered
  pub is : IsGathered m.plugin tree meant left
  pub places : AreOfRows left.live.nodes.items left.in_preorder.nodes.items (kept_properties left.live left.in_preorder.properties.items) root s
