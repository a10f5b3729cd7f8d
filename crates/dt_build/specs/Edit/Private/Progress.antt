-- Where a live tree stands in a body.
use Rattle.std.specs.Prelude.{◌≡◌, ◌==◌, ℕ, false, List}
use Rattle.dt_tree.specs.Sound.{is_among}
use Rattle.dt_source.specs.TreeMeaning.Paths.{Path, is_within}
use Rattle.dt_source.specs.TreeMeaning.Syntax.{Piece}
use Rattle.dt_source.specs.TreeMeaning.Edits.{counted}
use Rattle.dt_source.specs.TreeMeaning.Statements.{Progress}
use Rattle.dt_live.specs.declared.live_tree.LiveTree.{LiveTree}
use Rattle.dt_live.specs.Rows.{IsNode, node_path, child_stamp, property_stamp}
use Rattle.dt_build.specs.Edit.Said.{Parts, tree_of}

-- the live tree shows the tree so far, after so many fragments, and its marks of this body are the names that the body has defined
pub record IsAt (x : Progress (List Piece)) (d : LiveTree Parts) (node stamp made : ℕ) : Type 0 where
  pub state : x.state ≡ counted made (tree_of d)
  pub properties : (k : List ℕ) → is_among k x.properties ≡ (property_stamp d node k == stamp)
  pub children : (k : List ℕ) → is_among k x.children ≡ (child_stamp d node k == stamp)

-- what nodes outside the path keep: which body defined their properties and children last
pub record HasMarks (p : Path) (old new : LiveTree Parts) : Type 0 where
  pub children : (n : ℕ) (k : List ℕ) → IsNode old n → is_within p (node_path old n) ≡ false → child_stamp new n k ≡ child_stamp old n k
  pub properties : (n : ℕ) (k : List ℕ) → IsNode old n → is_within p (node_path old n) ≡ false → property_stamp new n k ≡ property_stamp old n k
