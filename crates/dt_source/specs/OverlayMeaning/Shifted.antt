-- Shifted overlay: the overlay with its phandles above the base's, and with its fixups resolved (dt-object-internal, sections 2 and
-- 3; Devicetree Specification v0.4, section 2.3.3). A tree is its lists of nodes and of properties, in the order in which it is read.
use Rattle.std.specs.Prelude.{ℕ, suc, ◌+◌, Bool, true, false, not, ◌&&◌, ◌||◌, List, [], ◌∷◌, ◌++◌, length, take, drop, Option, Some, None, Result, Ok, Err, if◌then◌else◌, nat_lt, nat_le, codes, option_map, unwrap_or, ok_or}
use Rattle.std.specs.List.{filter, list_all, flat_map}
use Rattle.std.specs.Str.{bytes_eq}
use Rattle.std.specs.Int.{to_be_bytes, from_be_bytes, w32}
use Rattle.dt_tree.specs.Steps.{then_do, each, fold}
use Rattle.dt_tree.specs.Name.{is_name}
use Rattle.dt_tree.specs.Phandle.{is_reserved, phandle_in}
use Rattle.dt_source.specs.TreeMeaning.Paths.{Path, same_path, is_within, is_listed}
use Rattle.dt_source.specs.TreeMeaning.Names.{overlay_name, symbols_name, fixups_name, local_fixups_name}
use Rattle.dt_source.specs.TreeMeaning.Edits.{Definition, definition, is_of}
use Rattle.dt_source.specs.TreeMeaning.Phandles.{PathPhandle, path_phandle, has_phandle, is_phandle}
use Rattle.dt_source.specs.TreeMeaning.Resolved.{Resolved}
use Rattle.dt_source.specs.TreeMeaning.MapOf.{value_in}
use Rattle.dt_source.specs.OverlayMeaning.Fault.{Fault, NotOverlay, UnknownSymbol, BadFixup, PhandleOverflow, PhandleClash}
use Rattle.dt_source.specs.OverlayMeaning.Texts.{parts, path_in, unended, ended_path, offset_in}

abbrev pub Value : Type 0
Value = Definition (List ℕ)

-- ---- phandles
-- a property `phandle` outside the reserved nodes that holds one
abbrev pub phandle_of : Value → Option ℕ
phandle_of e = if is_phandle e then phandle_in e.value else None

abbrev pub path_phandles : Path → Option ℕ → List PathPhandle
path_phandles p None = []
path_phandles p (Some n) = path_phandle p n ∷ []

abbrev pub phandles : List Value → List PathPhandle
phandles es = flat_map (λ e. path_phandles e.path (phandle_of e)) es

abbrev pub greatest : List PathPhandle → ℕ
greatest [] = 0
greatest (x ∷ xs) = let m = greatest xs in if nat_lt m x.phandle then x.phandle else m

-- one more than the base's greatest phandle
abbrev pub shift : Resolved → ℕ
shift base = suc (greatest (phandles base.properties))

abbrev pub differ : List PathPhandle → Bool
differ [] = true
differ (x ∷ xs) = not (has_phandle x.phandle xs) && differ xs

-- a number that can stand in cells once it is raised
abbrev pub raised : ℕ → ℕ → Result (List ℕ) Fault
raised s n = if nat_lt (n + s) 4294967295 then Ok (to_be_bytes w32 (n + s)) else Err PhandleOverflow

abbrev pub with_value : Value → List ℕ → Value
with_value e v = definition e.path e.name v

abbrev pub raised_number : ℕ → Value → Option ℕ → Result Value Fault
raised_number s e None = Ok e
raised_number s e (Some n) = then_do (raised s n) (λ v. Ok (with_value e v))

abbrev pub raised_phandle : ℕ → Value → Result Value Fault
raised_phandle s e = raised_number s e (phandle_of e)

abbrev pub with_phandles : ℕ → List Value → Result (List Value) Fault
with_phandles s es = then_do (each (raised_phandle s) es) (λ fs. if differ (phandles fs) then Ok fs else Err PhandleClash)

-- ---- fixup sites: 4 bytes of a property's value
pub record Site : Type 0 where
  pub path : Path
  pub name : List ℕ
  pub offset : ℕ

abbrev pub site : Path → List ℕ → ℕ → Site
site p n o = record { path = p; name = n; offset = o }

-- the properties so far, and the sites that were taken
pub record Shifting : Type 0 where
  pub properties : List Value
  pub sites : List Site

abbrev pub are_apart : Site → Site → Bool
are_apart a b = not (same_path a.path b.path && bytes_eq a.name b.name) || nat_le (b.offset + 4) a.offset || nat_le (a.offset + 4) b.offset

abbrev pub fits : ℕ → Option (List ℕ) → Bool
fits o None = false
fits o (Some v) = nat_le (o + 4) (length v)

-- a site inside a value that may be written, apart from those taken before
abbrev pub is_site : Site → Shifting → Bool
is_site a x =
    fits a.offset (value_in x.properties a.path a.name) && not (is_reserved a.path) && not (bytes_eq a.name (codes "phandle")) && list_all (are_apart a) x.sites

abbrev pub take_site : Site → Shifting → Result Shifting Fault
take_site a x = if is_site a x then Ok (record x { sites = a ∷ x.sites }) else Err BadFixup

abbrev pub written : ℕ → List ℕ → List ℕ → List ℕ
written o b v = take o v ++ b ++ drop (o + 4) v

abbrev pub write_at : Site → List ℕ → List Value → List Value
write_at a b [] = []
write_at a b (e ∷ es) = if is_of a.path a.name e then with_value e (written a.offset b e.value) ∷ es else e ∷ write_at a b es

abbrev pub number_at : Site → List Value → ℕ
number_at a es = from_be_bytes w32 (take 4 (drop a.offset (unwrap_or (value_in es a.path a.name) [])))

-- ---- local fixups (dt-object-internal, section 2.3)
abbrev pub is_local_fixup : Value → Bool
is_local_fixup e = is_within (local_fixups_name ∷ []) e.path

-- the numbers of a value, where no bytes are left over
abbrev pub cells : List ℕ → Option (List ℕ)
cells [] = Some []
cells (a ∷ []) = None
cells (a ∷ b ∷ []) = None
cells (a ∷ b ∷ c ∷ []) = None
cells (a ∷ b ∷ c ∷ d ∷ bs) = option_map (λ ns. from_be_bytes w32 (a ∷ b ∷ c ∷ d ∷ []) ∷ ns) (cells bs)

abbrev pub raise_at : ℕ → Site → Shifting → Result Shifting Fault
raise_at s a x = then_do (take_site a x) (λ y. then_do (raised s (number_at a y.properties)) (λ b. Ok (record y { properties = write_at a b y.properties })))

abbrev pub raise_sites : ℕ → Value → Shifting → Result Shifting Fault
raise_sites s e x = then_do (ok_or (cells e.value) BadFixup) (λ os. fold (λ o. raise_at s (site (drop 1 e.path) e.name o)) os x)

-- ---- fixups (dt-object-internal, section 2.2)
pub record Fixup : Type 0 where
  pub symbol : List ℕ
  pub at : Site

abbrev pub site_by : Option Path → List ℕ → Option ℕ → Option Site
site_by None n o = None
site_by (Some p) n None = None
site_by (Some p) n (Some o) = if is_name n then Some (site p n o) else None

-- `path:property:offset`
abbrev pub site_of : List (List ℕ) → Option Site
site_of (p ∷ n ∷ o ∷ []) = site_by (path_in p) n (offset_in o)
site_of _ = None

abbrev pub fixup_in : List ℕ → List ℕ → Result Fixup Fault
fixup_in l text = then_do (ok_or (site_of (parts 58 text)) BadFixup) (λ a. Ok (record { symbol = l; at = a }))

abbrev pub fixups_in : Value → Result (List Fixup) Fault
fixups_in e = then_do (ok_or (unended e.value) BadFixup) (λ texts. each (fixup_in e.name) (parts 0 texts))

abbrev pub number_of : Path → List PathPhandle → Option ℕ
number_of p [] = None
number_of p (x ∷ xs) = if same_path p x.path then Some x.phandle else number_of p xs

abbrev pub phandle_at : Resolved → Option Path → Option ℕ
phandle_at base None = None
phandle_at base (Some p) = number_of p (phandles base.properties)

-- the phandle of the node that a symbol of the base names
abbrev pub symbol_phandle : Resolved → List ℕ → Option ℕ
symbol_phandle base l = phandle_at base (ended_path (unwrap_or (value_in base.properties (symbols_name ∷ []) l) []))

abbrev pub resolve : Resolved → Fixup → List Value → Result (List Value) Fault
resolve base f es = then_do (ok_or (symbol_phandle base f.symbol) UnknownSymbol) (λ n. Ok (write_at f.at (to_be_bytes w32 n) es))

abbrev pub is_fixups : Value → Bool
is_fixups e = same_path (fixups_name ∷ []) e.path

-- all sites are tried before any symbol is looked up
abbrev pub with_fixups : Resolved → List Value → Shifting → Result (List Value) Fault
with_fixups base es x =
    then_do (each fixups_in es) (λ fss. let fs = flat_map (λ f. f) fss in
    then_do (fold (λ f. take_site f.at) fs x) (λ y. fold (resolve base) fs y.properties))

-- ---- all together
abbrev pub fragment_at : Path → List Path → List (List ℕ)
fragment_at [] nodes = []
fragment_at (n ∷ []) nodes = if is_listed (n ∷ overlay_name ∷ []) nodes then n ∷ [] else []
fragment_at (n ∷ m ∷ ns) nodes = []

-- the names of the fragments, in order
abbrev pub fragments : Resolved → List (List ℕ)
fragments t = flat_map (λ p. fragment_at p t.nodes) t.nodes

abbrev pub some_of : List (List ℕ) → Result (List (List ℕ)) Fault
some_of [] = Err NotOverlay
some_of (f ∷ fs) = Ok (f ∷ fs)

abbrev pub shifted_overlay : Resolved → Resolved → Result Resolved Fault
shifted_overlay base over =
    then_do (some_of (fragments over)) (λ _.
    then_do (with_phandles (shift base) over.properties) (λ es.
    then_do (fold (raise_sites (shift base)) (filter is_local_fixup over.properties) (record { properties = es; sites = [] })) (λ x.
    then_do (with_fixups base (filter is_fixups over.properties) x) (λ fs. Ok (record { nodes = over.nodes; properties = fs })))))
