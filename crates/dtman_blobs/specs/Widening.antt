-- Room in a blob, as dtc's options -R, -S, -p and -a ask for it (dtc's manual, Documentation/manual.txt, section 'Command-line arguments').
pub mod Private
use Rattle.std.specs.Prelude.{◌≡◌, ◌⊎◌, ℕ, ◌+◌, ◌-◌, ◌*◌, ◌%◌, ◌^◌, ◌≤◌, ◌==◌, max, List, [], ◌++◌, length, take, drop, replicate, if◌then◌else◌}
use Rattle.dt_tree.specs.TreeData.{TreeData}
use Rattle.dt_blob.specs.BigEndian.{word}
use Rattle.dt_blob.specs.Blob.{structure_from, names_in, reservations, blob_made, blob_of}
use Rattle.dt_blob.specs.Format.{reservation_size}
use Rattle.dt_blob.specs.Strings.{with_names}
use Rattle.dt_blob.specs.Token.{tree_tokens}
use Rattle.dtman_blobs.specs.declared.widening.Room.{Room}
use Rattle.dtman_blobs.specs.declared.widening.RoomError.{RoomError}
use Rattle.dtman_blobs.specs.declared.widening.RoomError.TheVariants.{NoMemory, TooLong}

-- -R: a tree's blob whose reserved memory has so many entries of zeros behind those that are there (section 5.3)
abbrev pub blob_with_entries : ℕ → TreeData → List ℕ
blob_with_entries entries tree =
    let tokens = tree_tokens tree.root in
    blob_made tree.boot_cpu (reservations tree.reserves ++ replicate (reservation_size * entries) 0) (structure_from [] tokens) (with_names [] (names_in tokens))

-- -a: the least multiple that isn't below a size; 0 asks for none
abbrev pub rounded_up : ℕ → ℕ → ℕ
rounded_up align size = if align == 0 then size else size + (align - size % align) % align

-- the size of a blob that has so many bytes with its entries: -S bytes at least, -p more, and then up to a multiple of -a
abbrev pub asked_size : Room → ℕ → ℕ
asked_size room size = rounded_up room.align (max size room.space + room.padding)

-- zeros behind a blob up to a size, which the header's second word tells (section 5.2)
abbrev pub up_to_size : ℕ → List ℕ → List ℕ
up_to_size size blob = (take 4 blob ++ (word size ++ drop 8 blob)) ++ replicate (size - length blob) 0

-- the size of a tree's blob with its room, and the blob
abbrev pub size_with_room : Room → TreeData → ℕ
size_with_room room tree = asked_size room (length (blob_with_entries room.reserves tree))

abbrev pub blob_with_room : Room → TreeData → List ℕ
blob_with_room room tree = up_to_size (size_with_room room tree) (blob_with_entries room.reserves tree)

-- want of memory, or a size that the header's word doesn't hold
abbrev pub RefusesRoom : ℕ → RoomError → Type 0
RefusesRoom size e = (e ≡ NoMemory) ⊎ ((e ≡ TooLong) × (2 ^ 32 ≤ size))
