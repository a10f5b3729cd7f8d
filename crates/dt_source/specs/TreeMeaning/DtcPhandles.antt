-- Phandles of dtc (Devicetree Specification v0.4, section 2.3.3): those that a source gives, by either name, and those that nodes get.
use Rattle.std.specs.Prelude.{ℕ, ◌-◌, ◌==◌, Bool, false, not, ◌&&◌, ◌||◌, List, [], ◌∷◌, ◌++◌, map, Option, Some, None, Result, Ok, Err, if◌then◌else◌, codes}
use Rattle.std.specs.List.{list_any}
use Rattle.std.specs.Str.{bytes_eq}
use Rattle.dt_tree.specs.Steps.{then_do}
use Rattle.dt_tree.specs.Phandle.{is_reserved, phandle_in}
use Rattle.dt_source.specs.TreeMeaning.Edits.{Definition}
use Rattle.dt_source.specs.TreeMeaning.Paths.{Path, same_path}
use Rattle.dt_source.specs.TreeMeaning.Phandles.{PathPhandle, path_phandle, assigned, named_in_cells, new_ones}
use Rattle.dt_source.specs.TreeMeaning.References.{Found, Bytes, Cell}
use Rattle.dt_source.specs.TreeMeaning.Statements.{Fault, BadPhandle, DuplicatePhandle}

-- ---- given: the properties `phandle` and `linux,phandle` outside the reserved nodes
abbrev pub is_phandle_name : List ℕ → Bool
is_phandle_name n = bytes_eq n (codes "phandle") || bytes_eq n (codes "linux,phandle")

abbrev pub gives_phandle : {V : Type 0} → Definition V → Bool
gives_phandle e = is_phandle_name e.name && not (is_reserved e.path)

-- another node has the number
abbrev pub is_taken : Path → ℕ → List PathPhandle → Bool
is_taken p n xs = list_any (λ x. x.phandle == n && not (same_path x.path p)) xs

-- the node has another number
abbrev pub is_other : Path → ℕ → List PathPhandle → Bool
is_other p n xs = list_any (λ x. same_path x.path p && not (x.phandle == n)) xs

abbrev pub has_number : Path → List PathPhandle → Bool
has_number p xs = list_any (λ x. same_path x.path p) xs

-- one more is given: no other node has it, and the node has no other
abbrev pub with_given : Path → Option ℕ → List PathPhandle → Result (List PathPhandle) Fault
with_given p None xs = Err BadPhandle
with_given p (Some n) xs =
    if is_taken p n xs then Err DuplicatePhandle
    else (if is_other p n xs then Err BadPhandle else Ok (if has_number p xs then xs else xs ++ path_phandle p n ∷ []))

-- a reference to the node itself asks for a number; else four bytes are one
abbrev pub given_by_value : Path → List Found → List PathPhandle → Result (List PathPhandle) Fault
given_by_value p (Bytes b ∷ []) xs = with_given p (phandle_in b) xs
given_by_value p (Cell q ∷ []) xs = if same_path p q then Ok xs else Err BadPhandle
given_by_value p v xs = Err BadPhandle

abbrev pub given_by_both : List (Definition (List Found)) → List PathPhandle → Result (List PathPhandle) Fault
given_by_both [] xs = Ok xs
given_by_both (e ∷ es) xs =
    if gives_phandle e then then_do (given_by_value e.path e.value xs) (given_by_both es) else given_by_both es xs

-- a number that its own node asks for
abbrev pub asks : Definition (List Found) → List Found → Bool
asks e (Cell q ∷ []) = gives_phandle e && same_path e.path q
asks e v = false

abbrev pub asks_for_own : Definition (List Found) → Bool
asks_for_own e = asks e e.value

-- ---- numbers for references in cells: by the order of the walk, those in nodes that go and those of nodes that go too
abbrev pub numbers_of_cells : List PathPhandle → List (Definition (List Found)) → List PathPhandle
numbers_of_cells given es = assigned given 0 (new_ones (map (λ x. x.path) given) (named_in_cells es))

-- ---- numbers for symbols, when nodes went: they go on from the last one that was given out, which is free again if its node went
abbrev pub number_before_last : List PathPhandle → ℕ
number_before_last [] = 0
number_before_last (x ∷ []) = x.phandle - 1
number_before_last (x ∷ y ∷ ys) = number_before_last (y ∷ ys)

-- `kept` are the nodes left that have a number
abbrev pub numbers_of_symbols : List PathPhandle → List PathPhandle → List Path → List PathPhandle
numbers_of_symbols kept of_cells ps = assigned kept (number_before_last of_cells) (new_ones (map (λ x. x.path) kept) ps)
