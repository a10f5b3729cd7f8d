-- Tables of drivers in an image: where they stand.
use Rattle.std.specs.Prelude.{◌≡◌, ℕ, ◌+◌, ◌*◌, ◌<◌, ◌==◌, Bool, true, ◌||◌, List, [], ◌∷◌, length, drop, Option, Some, None, ◌⊎◌}
use Rattle.std.specs.List.{list_any}
use Rattle.bus_kernel.specs.Image.Width.{bytes_of, told_width}
use Rattle.bus_kernel.specs.declared.image.width.Width.{Width}
use Rattle.bus_kernel.specs.Tables.Entry.{entry_string, is_empty_entry}

-- the bytes of an entry, by those of a pointer
abbrev pub entry_size : ℕ → ℕ
entry_size width = 192 + width

-- a comma or a dash stands in it, as in most compatible strings and in few others
abbrev pub is_told : List ℕ → Bool
is_told string = list_any (λ b. b == 44 || b == 45) string

abbrev pub is_telling : List (List ℕ) → Bool
is_telling strings = list_any is_told strings

-- entries with these strings follow one another, and then the one that ends a table
abbrev pub Ends : ℕ → List ℕ → List (List ℕ) → Type 0
Ends size bytes [] = is_empty_entry bytes ≡ true
Ends size bytes (string ∷ strings) = (entry_string bytes ≡ Some string) × Ends size (drop size bytes) strings

-- a table of these strings stands in front
pub record IsTable (size : ℕ) (bytes : List ℕ) (strings : List (List ℕ)) : Type 0 where
  pub ends : Ends size bytes strings
  pub telling : is_telling strings ≡ true

-- no table stands at this offset of the image
abbrev pub HasNone : ℕ → List ℕ → ℕ → Type 0
HasNone size image at = (strings : List (List ℕ)) → IsTable size (drop at image) strings → ⊥

-- The tables from an offset on, at every multiple of the width from there: each is the first that stands behind the one before it, its
-- last, empty entry included.
abbrev pub TablesFrom : ℕ → List ℕ → ℕ → List (List (List ℕ)) → Type 0
TablesFrom width image from [] = (k : ℕ) → HasNone (entry_size width) image (from + width * k)
TablesFrom width image from (strings ∷ tables) =
    (k : ℕ) × ((j : ℕ) → j < k → HasNone (entry_size width) image (from + width * j))
    × IsTable (entry_size width) (drop (from + width * k) image) strings
    × TablesFrom width image (from + width * k + entry_size width * (length strings + 1)) tables

-- those by a width, or by whichever gives some
abbrev pub AreTablesBy : Option Width → List ℕ → List (List (List ℕ)) → Type 0
AreTablesBy (Some width) image tables = TablesFrom (bytes_of width) image 0 tables
AreTablesBy None image tables =
    ((0 < length tables) × TablesFrom 8 image 0 tables) ⊎ (TablesFrom 8 image 0 [] × TablesFrom 4 image 0 tables)

-- those by the width that an image tells; where it tells none, those by eight bytes, or by four where there are none by eight
abbrev pub AreTablesOf : List ℕ → List (List (List ℕ)) → Type 0
AreTablesOf image tables = AreTablesBy (told_width image) image tables
