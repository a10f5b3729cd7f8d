-- What `diff_bytes` answers: nothing exactly where the two blobs hold the same board, in one order where that is asked for, or why it can't
-- tell.
use Rattle.std.specs.Prelude.{◌≡◌, ◌↔◌, ◌==◌, ◌&&◌, ℕ, Bool, List, [], length}
use Rattle.dt_tree.specs.TreeData.{TreeData}
use Rattle.dt_blob.specs.declared.error.BlobError.TheVariants.{NoMemory}
use Rattle.dt_blob.specs.Holds.{Holds}
use Rattle.dtman_blobs.specs.Difference.Comparison.{is_same}
use Rattle.dtman_blobs.specs.Difference.SameBoard.{IsSameBoard}
use Rattle.dtman_blobs.specs.Difference.SameOrder.{IsSameInOrder, TellsOrder}
use Rattle.dtman_blobs.specs.declared.diffing.Outcome.{Outcome}
use Rattle.dtman_blobs.specs.declared.diffing.DiffError.{DiffError}
use Rattle.dtman_blobs.specs.declared.diffing.DiffError.TheVariants.{First, Second, Text}
use Rattle.dtman_blobs.specs.declared.diffing.Sameness.{Sameness}
use Rattle.dtman_blobs.specs.declared.diffing.Sameness.TheVariants.{Board, InOrder}

-- the same board, or that and in one order
abbrev pub IsSame : Sameness → TreeData → TreeData → Type 0
IsSame Board first second = IsSameBoard first second
IsSame InOrder first second = IsSameInOrder first second

-- the text is empty exactly where the trees are the same
abbrev pub TellsSame : Sameness → TreeData → TreeData → List ℕ → Type 0
TellsSame sameness first second text = (text ≡ []) ↔ IsSame sameness first second

-- so much stands in another order; nothing where order doesn't count
abbrev pub TellsMoved : Sameness → TreeData → TreeData → ℕ → Type 0
TellsMoved Board first second moved = moved ≡ 0
TellsMoved InOrder first second moved = TellsOrder first second moved

-- nothing differs, and nothing stands in another order
abbrev pub are_same : Outcome → Bool
are_same c = is_same c.comparison && length c.moved.items == 0

-- the reader refuses the one or the other: where that holds a tree, memory was wanted
abbrev pub IsDiffRefusal : List ℕ → List ℕ → DiffError → Type 0
IsDiffRefusal first second (First e) = (tree : TreeData) → Holds first tree → e ≡ NoMemory
IsDiffRefusal first second (Second e) = (tree : TreeData) → Holds second tree → e ≡ NoMemory
IsDiffRefusal first second (Text e) = Unit {0}

-- the refusal is of no blob
abbrev pub IsOfText : DiffError → Type 0
IsOfText (First e) = ⊥
IsOfText (Second e) = ⊥
IsOfText (Text e) = Unit {0}
