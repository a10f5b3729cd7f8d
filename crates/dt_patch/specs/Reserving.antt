-- What a reservation added to a blob, or taken from it, makes of it: Devicetree Specification v0.4, section 5.3. All else is as it was.
use Rattle.std.specs.Prelude.{ℕ, ◌+◌, ◌==◌, nat_lt, List, [], ◌∷◌, ◌++◌, length, take, drop, Option, Some, None, if◌then◌else◌}
use Rattle.dt_tree.specs.TreeData.{TreeData, tree_data}
use Rattle.dt_patch.specs.View.Reserved.{reserved_size}
use Rattle.dt_patch.specs.declared.error.PatchError.{PatchError}
use Rattle.dt_patch.specs.declared.error.PatchError.TheVariants.{EndPair, NoReservation, Unordered}
use Rattle.dt_patch.specs.Order.{is_ordered}
use Rattle.dt_patch.specs.Setting.{or_short, or_unordered, used_size}

-- ---- added

-- the tree has the address and the size behind those that it has
abbrev pub with_reservation : ℕ × ℕ → TreeData → TreeData
with_reservation pair tree = tree_data (tree.reserves ++ pair ∷ []) tree.boot_cpu tree.root

-- a size of zero reserves nothing, and ends the list for readers that look at sizes alone
abbrev pub pair_fault : ℕ × ℕ → Option PatchError
pair_fault pair = if pair.1 == 0 then Some EndPair else None

-- how many bytes are wanted: an address and a size have 16
abbrev pub wanted_to_reserve : List ℕ → ℕ
wanted_to_reserve bytes = used_size bytes + 16

-- why a reservation isn't added, the first of the reasons in this order
abbrev pub reserve_fault : List ℕ → TreeData → ℕ × ℕ → Option PatchError
reserve_fault bytes tree pair =
    or_short (or_unordered (pair_fault pair) (is_ordered bytes (reserved_size tree.reserves))) (wanted_to_reserve bytes) (length bytes)

-- ---- taken out

-- the tree has all but the one at a place, counted from 0
abbrev pub without_reservation : ℕ → TreeData → TreeData
without_reservation index tree = tree_data (take index tree.reserves ++ drop (index + 1) tree.reserves) tree.boot_cpu tree.root

abbrev pub index_fault : ℕ → List (ℕ × ℕ) → Option PatchError
index_fault index pairs = if nat_lt index (length pairs) then None else Some NoReservation

-- why a reservation isn't deleted, the first of the reasons in this order
abbrev pub unreserve_fault : List ℕ → TreeData → ℕ → Option PatchError
unreserve_fault bytes tree index =
    if is_ordered bytes (reserved_size tree.reserves) then index_fault index tree.reserves else Some Unordered
