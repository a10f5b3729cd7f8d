-- What *Shifted overlay* is at each place of the overlay (dt-object-internal, sections 2 and 3; Devicetree Specification v0.4,
-- section 2.3.3): phandles and local places are greater by the shift, a fixup's place holds the phandle of its node, and every other
-- byte is the overlay's.
use Rattle.std.specs.Prelude.{◌≡◌, ℕ, ◌+◌, Bool, false, ◌&&◌, List, [], length, map, take, drop, Option, Some, None, Result, Ok, Err, if◌then◌else◌, nat_lt, nat_le, codes, option_map, option_and_then, unwrap_or, slice_index, All}
use Rattle.std.specs.List.{filter, list_any, flat_map}
use Rattle.std.specs.Str.{bytes_eq}
use Rattle.std.specs.Int.{to_be_bytes, w32}
use Rattle.dt_tree.specs.Phandle.{is_reserved, phandle_in}
use Rattle.dt_source.specs.TreeMeaning.Paths.{Path, same_path}
use Rattle.dt_source.specs.TreeMeaning.Resolved.{Resolved}
use Rattle.dt_source.specs.TreeMeaning.MapOf.{value_in}
use Rattle.dt_source.specs.OverlayMeaning.Fault.{Fault}
use Rattle.dt_source.specs.OverlayMeaning.Shifted.{Value, Site, Fixup, site, cells, fixups_in, is_fixups, is_local_fixup, number_at, shift, shifted_overlay, symbol_phandle}

-- ---- the places that an overlay names
-- a value of `__local_fixups__` has the offsets in the property of its name, of the node at the path below
abbrev pub local_sites : Value → List Site
local_sites e = map (site (drop 1 e.path) e.name) (unwrap_or (cells e.value) [])

abbrev pub local_places : List Value → List Site
local_places over = flat_map local_sites (filter is_local_fixup over)

abbrev pub read_fixups : Result (List Fixup) Fault → List Fixup
read_fixups (Ok fs) = fs
read_fixups (Err e) = []

-- a value of `__fixups__` has the places of the symbol of its name
abbrev pub fixup_places : List Value → List Fixup
fixup_places over = flat_map (λ e. read_fixups (fixups_in e)) (filter is_fixups over)

-- ---- what stands there
-- the four bytes at a place
abbrev pub bytes_at : List Value → Site → Option (List ℕ)
bytes_at es a = option_map (λ v. take 4 (drop a.offset v)) (value_in es a.path a.name)

-- a byte of a property
abbrev pub byte_at : List Value → Path → List ℕ → ℕ → Option ℕ
byte_at es p n i = option_map (λ v. slice_index v i) (value_in es p n)

-- the phandle of the node at a path
abbrev pub phandle_there : List Value → Path → Option ℕ
phandle_there es p = if is_reserved p then None else option_and_then phandle_in (value_in es p (codes "phandle"))

-- the byte is one of the four at the place
abbrev pub covers : Path → List ℕ → ℕ → Site → Bool
covers p n i a = same_path a.path p && bytes_eq a.name n && nat_le a.offset i && nat_lt i (a.offset + 4)

-- the byte is in no phandle, and at no place
pub record IsElsewhere (over : List Value) (p : Path) (n : List ℕ) (i : ℕ) : Type 0 where
  pub no_phandle : n ≡ codes "phandle" → phandle_there over p ≡ None
  pub no_local : list_any (covers p n i) (local_places over) ≡ false
  pub no_fixup : list_any (λ f. covers p n i f.at) (fixup_places over) ≡ false

-- ---- all together
-- a property's path, its name, and its length
pub record Shape : Type 0 where
  pub path : Path
  pub name : List ℕ
  pub len : ℕ

abbrev pub shape : Value → Shape
shape e = record { path = e.path; name = e.name; len = length e.value }

-- the four bytes of a number that is greater by the shift
abbrev pub greater : Resolved → ℕ → List ℕ
greater base n = to_be_bytes w32 (n + shift base)

-- the place holds the phandle of the base's node that the symbol names
pub record HoldsItsNode (base : Resolved) (shifted : List Value) (f : Fixup) : Type 0 where
  pub phandle : ℕ
  pub named : symbol_phandle base f.symbol ≡ Some phandle
  pub there : bytes_at shifted f.at ≡ Some (to_be_bytes w32 phandle)

-- each phandle is greater by the shift
abbrev pub HasGreaterPhandles : Resolved → List Value → List Value → Type 0
HasGreaterPhandles base old new =
    (p : Path) (n : ℕ) → phandle_there old p ≡ Some n → value_in new p (codes "phandle") ≡ Some (greater base n)

-- and so is the number at a place
abbrev pub IsGreaterAt : Resolved → List Value → List Value → Site → Type 0
IsGreaterAt base old new a = bytes_at new a ≡ Some (greater base (number_at a old))

-- a byte is as it was where no phandle and no place has it
abbrev pub KeepsElsewhere : List Value → List Value → Type 0
KeepsElsewhere old new =
    (p : Path) (n : List ℕ) (i : ℕ) → IsElsewhere old p n i → byte_at new p n i ≡ byte_at old p n i

pub record IsShifted (base over shifted : Resolved) : Type 0 where
  pub nodes : shifted.nodes ≡ over.nodes
  pub properties : map shape shifted.properties ≡ map shape over.properties
  pub phandles : HasGreaterPhandles base over.properties shifted.properties
  pub local : All (IsGreaterAt base over.properties shifted.properties) (local_places over.properties)
  pub fixups : All (HoldsItsNode base shifted.properties) (fixup_places over.properties)
  pub others : KeepsElsewhere over.properties shifted.properties

abbrev pub ShiftedByPlaces : Type 0
ShiftedByPlaces = (base over shifted : Resolved) → shifted_overlay base over ≡ Ok shifted → IsShifted base over shifted
