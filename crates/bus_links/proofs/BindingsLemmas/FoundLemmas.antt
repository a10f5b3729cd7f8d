-- What properties name, entry by entry.
use Rattle.std.proofs.Common.{◌≡◌, refl, ℕ, zero, suc, ◌+◌, ◌-◌, ◌<◌, ◌==◌, nat_le, true, false, List, length, take, drop, None, Some, append_assoc, append-nil, arith}
use Rattle.bus_links.specs.Bindings.Interrupts.{controller_of}
use Rattle.dt_tree.specs.Cell.{cell_in}
use Rattle.bus_links.specs.Bindings.Bindings.{Listing}
use Rattle.bus_links.specs.Bindings.LinkNodes.{LinkNode, place_with}
use Rattle.bus_links.specs.Bindings.Mentions.{FoundData, nothing, and_then, mentioned, fault, lines_within, cells_before, goes_on, EntryData, entry_at, found_within}

pub and_then-assoc : (f g h : FoundData) → and_then (and_then f g) h ≡ and_then f (and_then g h)
and_then-assoc f g h = λ i. record { mentions = append_assoc f.mentions g.mentions h.mentions i; faults = append_assoc f.faults g.faults h.faults i }

pub and_then-nothing : (f : FoundData) → and_then f nothing ≡ f
and_then-nothing f = λ i. record { mentions = append-nil f.mentions i; faults = append-nil f.faults i }

-- ---- the next specifier
module _ (nodes : List LinkNode) (property : List ℕ) (own parent width entry : ℕ) where
  pub lines-none : (left : ℕ) (value : List ℕ) → 0 < left → (length value == 0) ≡ false → nat_le width (length value) ≡ true → controller_of nodes own parent (take width value) ≡ None
      → lines_within nodes property own parent width entry left value ≡ fault property entry
  lines-none zero value h s t e = absurd (omega arith)
  lines-none (suc k) value h s t e = rw s (rw t (rw e refl))

  pub lines-on : (left : ℕ) (value : List ℕ) (c : ℕ) → 0 < left → (length value == 0) ≡ false → nat_le width (length value) ≡ true → controller_of nodes own parent (take width value) ≡ Some c
      → lines_within nodes property own parent width entry left value
      ≡ and_then (mentioned property entry c) (lines_within nodes property own parent width (entry + 1) (left - 1) (drop width value))
  lines-on zero value c h s t e = absurd (omega arith)
  lines-on (suc k) value c h s t e = let one : suc k - 1 ≡ k = omega arith in rw one (rw s (rw t (rw e refl)))

-- ---- the next cell
module _ (nodes : List LinkNode) (own : ℕ) (listing : Listing) (property : List ℕ) (entry skipped : ℕ) where
  pub found-end : (left : ℕ) (value : List ℕ) → cell_in (take 4 value) ≡ None → found_within nodes own listing property entry skipped left value ≡ nothing
  found-end zero value e = refl
  found-end (suc k) value e = rw e refl

  pub found-skipped : (left : ℕ) (value : List ℕ) (phandle : ℕ) → 0 < left → cell_in (take 4 value) ≡ Some phandle → (skipped == 0) ≡ false
      → found_within nodes own listing property entry (skipped - 1) (left - 1) (drop 4 value) ≡ found_within nodes own listing property entry skipped left value
  found-skipped zero value phandle h e s = absurd (omega arith)
  found-skipped (suc k) value phandle h e s = let one : suc k - 1 ≡ k = omega arith in rw one (rw e (rw s refl))

  pub found-empty : (left : ℕ) (value : List ℕ) (phandle : ℕ) → cell_in (take 4 value) ≡ Some phandle → (skipped == 0) ≡ true → (phandle == 0) ≡ true → goes_on listing ≡ false
      → found_within nodes own listing property entry skipped left value ≡ nothing
  found-empty zero value phandle e s t g = refl
  found-empty (suc k) value phandle e s t g = rw e (rw s (rw t (rw g refl)))

  pub found-passed : (left : ℕ) (value : List ℕ) (phandle : ℕ) → 0 < left → cell_in (take 4 value) ≡ Some phandle → (skipped == 0) ≡ true → (phandle == 0) ≡ true → goes_on listing ≡ true
      → found_within nodes own listing property (entry + 1) skipped (left - 1) (drop 4 value) ≡ found_within nodes own listing property entry skipped left value
  found-passed zero value phandle h e s t g = absurd (omega arith)
  found-passed (suc k) value phandle h e s t g = let one : suc k - 1 ≡ k = omega arith in rw one (rw e (rw s (rw t (rw g refl))))

  pub found-fault : (left : ℕ) (value : List ℕ) (phandle : ℕ) → 0 < left → cell_in (take 4 value) ≡ Some phandle → (skipped == 0) ≡ true → (phandle == 0) ≡ false
      → entry_at listing nodes own (drop 4 value) (place_with nodes phandle) ≡ None → found_within nodes own listing property entry skipped left value ≡ fault property entry
  found-fault zero value phandle h e s t n = absurd (omega arith)
  found-fault (suc k) value phandle h e s t n = rw e (rw s (rw t (rw n refl)))

  pub found-named : (left : ℕ) (value : List ℕ) (phandle : ℕ) (named : EntryData) → 0 < left → cell_in (take 4 value) ≡ Some phandle → (skipped == 0) ≡ true → (phandle == 0) ≡ false
      → entry_at listing nodes own (drop 4 value) (place_with nodes phandle) ≡ Some named
      → found_within nodes own listing property entry skipped left value
      ≡ and_then (mentioned property entry named.node) (found_within nodes own listing property (entry + 1) (named.cells + cells_before listing) (left - 1) (drop 4 value))
  found-named zero value phandle named h e s t n = absurd (omega arith)
  found-named (suc k) value phandle named h e s t n = let one : suc k - 1 ≡ k = omega arith in rw one (rw e (rw s (rw t (rw n refl))))
