-- The size that a blob's header tells: Devicetree Specification v0.4, section 5.2, `totalsize`, the word at offset 4.
use Rattle.std.specs.Prelude.{ℕ, List, ◌++◌, take, drop, Option, Some, None, if◌then◌else◌}
use Rattle.dt_tree.specs.TreeData.{TreeData}
use Rattle.dt_blob.specs.BigEndian.{word}
use Rattle.dt_patch.specs.View.Reserved.{reserved_size}
use Rattle.dt_patch.specs.declared.error.PatchError.{PatchError}
use Rattle.dt_patch.specs.declared.error.PatchError.TheVariants.{Unordered}
use Rattle.dt_patch.specs.Order.{is_ordered}

-- the bytes with this size told, and all else as it was
abbrev pub with_size : ℕ → List ℕ → List ℕ
with_size size bytes = take 4 bytes ++ (word size ++ drop 8 bytes)

-- why a blob that holds a tree has its size left as it is
abbrev pub size_fault : List ℕ → TreeData → Option PatchError
size_fault bytes tree = if is_ordered bytes (reserved_size tree.reserves) then None else Some Unordered
