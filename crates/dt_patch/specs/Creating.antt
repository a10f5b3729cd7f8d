-- The blob of a root alone in a buffer: Devicetree Specification v0.4, chapter 5; libfdt's `fdt_create_empty_tree` of version 1.6.
use Rattle.std.specs.Prelude.{ℕ, ◌-◌, nat_lt, List, [], ◌++◌, length, replicate, Option, Some, None, if◌then◌else◌}
use Rattle.dt_tree.specs.NodeData.{NodeData, node_data, none}
use Rattle.dt_tree.specs.TreeData.{TreeData, tree_data}
use Rattle.dt_blob.specs.declared.error.BlobError.TheVariants.{TooLarge}
use Rattle.dt_blob.specs.BigEndian.{double_word, word}
use Rattle.dt_blob.specs.Blob.{limit, reservations, structure_from}
use Rattle.dt_blob.specs.Format.{compatible_version, format_version, magic_number}
use Rattle.dt_blob.specs.Token.{tree_tokens}
use Rattle.dt_patch.specs.declared.error.PatchError.{PatchError}
use Rattle.dt_patch.specs.declared.error.PatchError.TheVariants.{Blob}
use Rattle.dt_patch.specs.Setting.{or_short}
use Rattle.dt_patch.specs.Sizing.{with_size}

-- a root with nothing in it
abbrev pub empty_root : NodeData
empty_root = node_data [] [] none

abbrev pub empty_tree : TreeData
empty_tree = tree_data [] 0 empty_root

-- its blob: as libfdt lays it out, the reserved memory begins at the multiple of 16 behind the header, at 48; behind its 16 bytes stand the
-- structure block, of 16, and no strings
abbrev pub empty_front : List ℕ
empty_front =
    word magic_number ++ (word 80 ++ (word 64 ++ (word 80 ++ (word 48 ++ (word format_version ++ (word compatible_version ++ (word 0 ++ (word 0 ++ (word 16
    ++ (double_word 0 ++ (reservations [] ++ structure_from [] (tree_tokens empty_root))))))))))))

-- the same in a buffer of a size, which the header tells; what stands behind the blocks is zero
abbrev pub empty_blob : ℕ → List ℕ
empty_blob size = with_size size (empty_front ++ replicate (size - length empty_front) 0)

-- why a buffer of a size has no room for it, or too much
abbrev pub empty_fault : ℕ → Option PatchError
empty_fault size = if nat_lt limit size then Some (Blob TooLarge) else or_short None (length empty_front) size
