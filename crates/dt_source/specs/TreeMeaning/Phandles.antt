-- Phandles (Devicetree Specification v0.4, section 2.3.3): those that the source gives, and those that nodes get.
use Rattle.std.specs.Prelude.{ℕ, zero, suc, ◌+◌, ◌==◌, Bool, not, ◌&&◌, List, [], ◌∷◌, ◌++◌, length, map, Option, Some, None, Result, Ok, Err, if◌then◌else◌, codes}
use Rattle.std.specs.List.{filter, list_any, flat_map}
use Rattle.std.specs.Str.{bytes_eq}
use Rattle.dt_tree.specs.Steps.{then_do}
use Rattle.dt_tree.specs.Phandle.{is_reserved, phandle_in}
use Rattle.dt_source.specs.TreeMeaning.Paths.{Path, same_path, is_listed}
use Rattle.dt_source.specs.TreeMeaning.Syntax.{Piece, Plain, PhandleOf, PathOf, Stored}
use Rattle.dt_source.specs.TreeMeaning.Edits.{Definition, State}
use Rattle.dt_source.specs.TreeMeaning.Statements.{Fault, BadPhandle, DuplicatePhandle}
use Rattle.dt_source.specs.TreeMeaning.References.{preorder, Found, Bytes, Cell, Open, PathText}

-- the phandle of a node
pub record PathPhandle : Type 0 where
  pub path : Path
  pub phandle : ℕ

abbrev pub path_phandle : Path → ℕ → PathPhandle
path_phandle p n = record { path = p; phandle = n }

abbrev pub has_phandle : ℕ → List PathPhandle → Bool
has_phandle n xs = list_any (λ x. x.phandle == n) xs

-- ---- given: the properties `phandle` outside the reserved nodes
abbrev pub is_phandle : {V : Type 0} → Definition V → Bool
is_phandle e = bytes_eq e.name (codes "phandle") && not (is_reserved e.path)

-- only four plain bytes give a phandle
abbrev pub phandle_value : List Piece → Option ℕ
phandle_value [] = None
phandle_value (Plain b ∷ []) = phandle_in b
phandle_value (Plain b ∷ v ∷ vs) = None
phandle_value (PhandleOf t ∷ vs) = None
phandle_value (PathOf t ∷ vs) = None
phandle_value (Stored at offset length ∷ vs) = None

abbrev pub given_one : Path → Option ℕ → List PathPhandle → Result (List PathPhandle) Fault
given_one p None xs = Err BadPhandle
given_one p (Some n) xs = if has_phandle n xs then Err DuplicatePhandle else Ok (xs ++ path_phandle p n ∷ [])

abbrev pub given_of : List (Definition (List Piece)) → List PathPhandle → Result (List PathPhandle) Fault
given_of [] xs = Ok xs
given_of (e ∷ es) xs = if is_phandle e then then_do (given_one e.path (phandle_value e.value) xs) (given_of es) else given_of es xs

-- ---- wanted: the nodes without one that are named in cells, and with symbols the labelled ones
abbrev pub cell_path : Found → List Path
cell_path (Cell p) = p ∷ []
cell_path (Bytes b) = []
cell_path (Open l) = []
cell_path (PathText p) = []

abbrev pub named_in_cells : List (Definition (List Found)) → List Path
named_in_cells es = flat_map (λ e. flat_map cell_path e.value) es

abbrev pub labelled : {V : Type 0} → State V → List Path
labelled s = filter (λ p. list_any (λ l. same_path p l.path) s.labels && not (is_reserved p)) (preorder s.nodes)

-- each once, where it is first, without those that were seen before
abbrev pub new_ones : List Path → List Path → List Path
new_ones seen [] = []
new_ones seen (p ∷ ps) = if is_listed p seen then new_ones seen ps else p ∷ new_ones (p ∷ seen) ps

abbrev pub wanted : {V : Type 0} → Bool → State V → List PathPhandle → List (Definition (List Found)) → List Path
wanted symbols s given es = new_ones (map (λ x. x.path) given) (named_in_cells es ++ (if symbols then labelled s else []))

-- ---- the k-th wanted node gets the k-th positive number that isn't given
-- the first number above n that isn't given; one of so many and one more is
abbrev pub next_free : ℕ → List PathPhandle → ℕ → ℕ
next_free zero given n = n + 1
next_free (suc tries) given n = if has_phandle (n + 1) given then next_free tries given (n + 1) else n + 1

-- the numbers above n, in order
abbrev pub assigned : List PathPhandle → ℕ → List Path → List PathPhandle
assigned given n [] = []
assigned given n (p ∷ ps) = let m = next_free (length given) given n in path_phandle p m ∷ assigned given m ps
