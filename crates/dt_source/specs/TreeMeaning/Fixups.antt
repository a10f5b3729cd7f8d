-- Fixups (dt-object-internal, sections 1.1 and 2): the sites in values that hold phandles, of nodes elsewhere and of the source's own.
use Rattle.std.specs.Prelude.{ℕ, ◌+◌, List, [], ◌∷◌, ◌++◌, length, map, Option, Some, None, if◌then◌else◌}
use Rattle.std.specs.List.{flat_map}
use Rattle.std.specs.Int.{to_be_bytes, w32}
use Rattle.dt_tree.specs.Path.{path_text}
use Rattle.dt_source.specs.TreeMeaning.Paths.{Path, same_path}
use Rattle.dt_source.specs.TreeMeaning.Names.{decimal, fixups_name, local_fixups_name}
use Rattle.dt_source.specs.TreeMeaning.Edits.{Definition, definition, is_of}
use Rattle.dt_source.specs.TreeMeaning.References.{Found, Bytes, Cell, Open, PathText}
use Rattle.dt_source.specs.TreeMeaning.Phandles.{PathPhandle}

-- ---- bytes
-- a site that isn't resolved holds the number that is no phandle
abbrev pub phandle_of : List PathPhandle → Path → ℕ
phandle_of [] p = 4294967295
phandle_of (x ∷ xs) p = if same_path p x.path then x.phandle else phandle_of xs p

abbrev pub bytes_of : List PathPhandle → Found → List ℕ
bytes_of xs (Bytes b) = b
bytes_of xs (Cell p) = to_be_bytes w32 (phandle_of xs p)
bytes_of xs (Open l) = to_be_bytes w32 4294967295
bytes_of xs (PathText p) = path_text p ++ 0 ∷ []

abbrev pub value_bytes : List PathPhandle → List Found → List ℕ
value_bytes xs v = flat_map (bytes_of xs) v

-- ---- fixup sites
-- the site of a phandle: the label, where it is that of a node elsewhere
pub record Site : Type 0 where
  pub label : Option (List ℕ)
  pub path : Path
  pub name : List ℕ
  pub offset : ℕ

abbrev pub label_found : Found → List (Option (List ℕ))
label_found (Open l) = Some l ∷ []
label_found (Cell p) = None ∷ []
label_found (Bytes b) = []
label_found (PathText p) = []

-- the sites in a property's value from an offset on
abbrev pub sites_in : List PathPhandle → Path → List ℕ → ℕ → List Found → List Site
sites_in xs p n at [] = []
sites_in xs p n at (f ∷ fs) =
    map (λ l. record { label = l; path = p; name = n; offset = at }) (label_found f) ++ sites_in xs p n (at + length (bytes_of xs f)) fs

abbrev pub sites : List PathPhandle → List (Definition (List Found)) → List Site
sites xs es = flat_map (λ e. sites_in xs e.path e.name 0 e.value) es

-- ---- their properties
-- behind the value that is there, or as a new property's
abbrev pub appended : Path → List ℕ → List ℕ → List (Definition (List ℕ)) → List (Definition (List ℕ))
appended p n v [] = definition p n v ∷ []
appended p n v (e ∷ es) = if is_of p n e then definition p n (e.value ++ v) ∷ es else e ∷ appended p n v es

abbrev pub site_text : Site → List ℕ
site_text x = path_text x.path ++ 58 ∷ x.name ++ 58 ∷ decimal x.offset ++ 0 ∷ []

-- one property a label, with the text of each of its sites
abbrev pub fixup : Option (List ℕ) → Site → List (Definition (List ℕ)) → List (Definition (List ℕ))
fixup None x es = es
fixup (Some l) x es = appended (fixups_name ∷ []) l (site_text x) es

abbrev pub fixups : List Site → List (Definition (List ℕ)) → List (Definition (List ℕ))
fixups [] es = es
fixups (x ∷ xs) es = fixups xs (fixup x.label x es)

-- under the path and the name of the property, the offset of each of its sites
abbrev pub local_fixup : Option (List ℕ) → Site → List (Definition (List ℕ)) → List (Definition (List ℕ))
local_fixup None x es = appended (local_fixups_name ∷ x.path) x.name (to_be_bytes w32 x.offset) es
local_fixup (Some l) x es = es

abbrev pub local_fixups : List Site → List (Definition (List ℕ)) → List (Definition (List ℕ))
local_fixups [] es = es
local_fixups (x ∷ xs) es = local_fixups xs (local_fixup x.label x es)
