-- The header of a blob: Devicetree Specification v0.4, section 5.2.
use Rattle.std.specs.Prelude.{◌≡◌, ◌≤◌, ℕ, ◌+◌, ◌*◌, ◌/◌, ◌%◌, Bool, not, ◌&&◌, ◌||◌, ◌==◌, nat_lt, nat_le, List, length, drop, take, Option, Some, None, unwrap_or, Result, Ok, Err, if◌then◌else◌}
use Rattle.byteorder.specs.Endian.{big_number}
use Rattle.dt_blob.specs.declared.error.BlobError.{BlobError}
use Rattle.dt_blob.specs.declared.error.BlobError.TheVariants.{TooLarge, Truncated, BadMagic, BadVersion, BadLayout}
use Rattle.dt_blob.specs.declared.read_error.ReadError.{ReadError}
use Rattle.dt_blob.specs.declared.read_header.Header.{Header}
use Rattle.dt_blob.specs.Format.{magic_number, header_size, format_version, oldest_version}
use Rattle.dt_blob.specs.Blob.{limit}

-- the 32-bit number at a place
abbrev pub word_at : ℕ → List ℕ → ℕ
word_at place bytes = big_number 4 (drop place bytes)

-- the size of the structure block (section 5.2), which came with version 17: before, the word at that place isn't the header's
abbrev pub structure_size_in : List ℕ → Option ℕ
structure_size_in bytes = if nat_lt (word_at 20 bytes) format_version then None else Some (word_at 36 bytes)

-- the words of the header, in their order
abbrev pub header_of : List ℕ → Header
header_of bytes = record {
  magic = word_at 0 bytes;
  size = word_at 4 bytes;
  structure_at = word_at 8 bytes;
  strings_at = word_at 12 bytes;
  reserves_at = word_at 16 bytes;
  version = word_at 20 bytes;
  last_compatible = word_at 24 bytes;
  boot_cpu = word_at 28 bytes;
  strings_size = word_at 32 bytes;
  structure_size = structure_size_in bytes;
}

-- both blocks lie inside the blob (of one without a size, its beginning), and the words that want it are aligned
abbrev pub is_laid_out : Header → Bool
is_laid_out h =
    nat_le header_size h.size && nat_le (h.structure_at + unwrap_or h.structure_size 0) h.size && nat_le (h.strings_at + h.strings_size) h.size
    && h.structure_at % 4 == 0 && h.reserves_at % 8 == 0

-- the word of the header that shows first that the blocks aren't laid out so: its size, then the places and sizes of the blocks
abbrev pub misplaced_at : Header → ℕ
misplaced_at h =
    if nat_lt h.size header_size then 4
    else (if nat_lt h.size h.structure_at then 8
    else (if nat_lt h.size (h.structure_at + unwrap_or h.structure_size 0) then 36
    else (if nat_lt h.size h.strings_at then 12
    else (if nat_lt h.size (h.strings_at + h.strings_size) then 32
    else (if not (h.structure_at % 4 == 0) then 8 else 16)))))

abbrev pub IsMisplaced : Header → ReadError → Type 0
IsMisplaced h e = (e.kind ≡ BadLayout) × (e.at ≡ misplaced_at h)

-- the first fault of a header that stands before so many bytes
abbrev pub fault_in : Header → ℕ → Option BlobError
fault_in h len =
    if not (h.magic == magic_number) then Some BadMagic
    else (if nat_lt h.version oldest_version || nat_lt format_version h.last_compatible then Some BadVersion
    else (if nat_lt len h.size then Some Truncated
    else (if not (is_laid_out h) then Some BadLayout else None)))

-- the word that shows it
abbrev pub fault_at_in : Header → ℕ → ℕ
fault_at_in h len =
    if not (h.magic == magic_number) then 0
    else (if nat_lt h.version oldest_version then 20
    else (if nat_lt format_version h.last_compatible then 24
    else (if nat_lt len h.size then 4 else misplaced_at h)))

-- the first fault of the bytes that the header shows, in the order of the tests
unfoldable pub header_fault : List ℕ → Option BlobError
header_fault bytes =
    if nat_lt limit (length bytes) then Some TooLarge
    else (if nat_lt (length bytes) header_size then Some Truncated
    else fault_in (header_of bytes) (length bytes))

-- how many bytes stand before the word that shows it: of too many bytes the first that is too many, of too few the last word
unfoldable pub header_fault_at : List ℕ → ℕ
header_fault_at bytes =
    if nat_lt limit (length bytes) then limit
    else (if nat_lt (length bytes) header_size then length bytes / 4 * 4
    else fault_at_in (header_of bytes) (length bytes))

-- what was answered, by the kind of a refusal alone
abbrev pub kinds : {X : Type 0} → Result X ReadError → Result X BlobError
kinds (Ok x) = Ok x
kinds (Err e) = Err e.kind

-- a refusal of the bytes is of a word of theirs, and one of the header of the word that shows it
abbrev pub IsRefusedAt : List ℕ → ReadError → Type 0
IsRefusedAt bytes e = (header_fault bytes ≡ Some e.kind → e.at ≡ header_fault_at bytes) × (e.at ≤ length bytes)

-- the bytes of the blob that begin at a place, and the bytes of a block
abbrev pub from_place : ℕ → ℕ → List ℕ → List ℕ
from_place place size bytes = drop place (take size bytes)

abbrev pub block : ℕ → ℕ → List ℕ → List ℕ
block place size bytes = take size (drop place bytes)

abbrev pub strings_of : List ℕ → List ℕ
strings_of bytes = let h = header_of bytes in block h.strings_at h.strings_size bytes

-- the structure block, of a size
abbrev pub structure_of : ℕ → List ℕ → List ℕ
structure_of size bytes = block (header_of bytes).structure_at size bytes

abbrev pub reserves_of : List ℕ → List ℕ
reserves_of bytes = let h = header_of bytes in from_place h.reserves_at h.size bytes
