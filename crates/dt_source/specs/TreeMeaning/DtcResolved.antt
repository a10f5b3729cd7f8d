-- Resolved by dtc: the edits, and then omission, phandles, symbols and fixups (Devicetree Specification v0.4, section 6.3;
-- dt-object-internal, sections 1.1 and 2; where they are silent, dtc 1.6.1, tried by hand), or the first fault.
use Rattle.std.specs.Prelude.{ℕ, ◌==◌, Bool, true, false, not, ◌&&◌, List, [], ◌∷◌, ◌++◌, map, Result, Ok, Err, if◌then◌else◌, codes}
use Rattle.std.specs.List.{before_first, filter, list_any}
use Rattle.std.specs.Str.{bytes_eq}
use Rattle.dt_tree.specs.Steps.{then_do}
use Rattle.dt_tree.specs.Phandle.{is_reserved}
use Rattle.dt_source.specs.TreeMeaning.Names.{symbols_name}
use Rattle.dt_source.specs.TreeMeaning.Edits.{Definition, State}
use Rattle.dt_source.specs.TreeMeaning.Fixups.{sites, fixups, local_fixups}
use Rattle.dt_source.specs.TreeMeaning.Paths.{Path, same_path, is_within, is_listed}
use Rattle.dt_source.specs.TreeMeaning.Phandles.{PathPhandle}
use Rattle.dt_source.specs.TreeMeaning.References.{Found, Bytes, Cell, Open, PathText, preorder, references}
use Rattle.dt_source.specs.TreeMeaning.Resolved.{Resolved, names_taken, phandle_property, shallow, symbol, when, with_bytes, with_more}
use Rattle.dt_source.specs.TreeMeaning.Statements.{Fault, ReservedName}
use Rattle.dt_source.specs.TreeMeaning.Syntax.{Piece, Meaning}
use Rattle.dt_source.specs.TreeMeaning.DtcEdits.{DtcTree, ever_labelled}
use Rattle.dt_source.specs.TreeMeaning.DtcStatements.{dtc_edited, dtc_state}
use Rattle.dt_source.specs.TreeMeaning.DtcPhandles.{given_by_both, asks_for_own, numbers_of_cells, numbers_of_symbols}

-- ---- nodes that go
abbrev pub refers_to : Path → Found → Bool
refers_to p (Bytes b) = false
refers_to p (Cell q) = same_path p q
refers_to p (Open l) = false
refers_to p (PathText q) = same_path p q

abbrev pub is_referred_to : List (Definition (List Found)) → Path → Bool
is_referred_to es p = list_any (λ e. list_any (refers_to p) e.value) es

-- a marked node goes if no reference names it; with symbols, only if it never had a label
abbrev pub goes : Bool → DtcTree → List (Definition (List Found)) → Path → Bool
goes symbols t es p = is_listed p t.marked && not (is_referred_to es p) && not (symbols && ever_labelled t p)

-- neither the node nor one above it goes
abbrev pub is_left : List Path → Path → Bool
is_left gone p = not (list_any (λ g. is_within g p) gone)

abbrev pub rest_of : List Path → State (List Piece) → State (List Piece)
rest_of gone s = record s {
  nodes = filter (is_left gone) s.nodes;
  properties = filter (λ e. is_left gone e.path) s.properties;
  labels = filter (λ l. is_left gone l.path) s.labels;
}

-- ---- the property `name`, where it says its node's name up to the `@`
abbrev pub last_name : Path → List ℕ
last_name [] = []
last_name (n ∷ []) = n
last_name (n ∷ m ∷ ns) = last_name (m ∷ ns)

abbrev pub is_string_of : List ℕ → List Found → Bool
is_string_of text (Bytes b ∷ []) = bytes_eq b (text ++ 0 ∷ [])
is_string_of text v = false

abbrev pub repeats_name : Definition (List Found) → Bool
repeats_name e = bytes_eq e.name (codes "name") && is_string_of (before_first (λ c. c == 64) (last_name e.path)) e.value

-- ---- what is added
-- a node has its own property `phandle`, which gets the number
abbrev pub has_own : List (Definition (List Found)) → PathPhandle → Bool
has_own es x = list_any (λ e. bytes_eq e.name (codes "phandle") && same_path e.path x.path) es

-- the nodes that get a number for their symbols: those that are left and ever had a label, the root among them
abbrev pub symbol_nodes : DtcTree → State (List Piece) → List Path
symbol_nodes t s = filter (λ p. ever_labelled t p && not (is_reserved p)) (preorder s.nodes)

-- the node of symbols is there, also without a symbol, where one of the nodes ever had a label
abbrev pub symbols_node : DtcTree → State (List Piece) → List Path
symbols_node t s = if list_any (ever_labelled t) (preorder s.nodes) then (symbols_name ∷ []) ∷ [] else []

abbrev pub with_symbols : Bool → DtcTree → State (List Piece) → Resolved → Resolved
with_symbols false t s r = r
with_symbols true t s r = record { nodes = r.nodes ++ symbols_node t s; properties = r.properties ++ map symbol s.labels }

-- In a plugin the references of what is left are found anew: one to a node that went is one to a node elsewhere. A number that its own
-- node asks for is no fixup.
abbrev pub fixed_up : Bool → State (List Piece) → Result (List (Definition (List Found))) Fault
fixed_up false s = Ok []
fixed_up true s = then_do (references true s) (λ es. Ok (filter (λ e. not (asks_for_own e)) es))

-- what a resolved tree is made of: what is left of the tree, its values, its fixups' sites by their values, the numbers that are given
-- and those that nodes get, in the order in which they get them
pub record Gathered : Type 0 where
  pub rest : State (List Piece)
  pub values : List (Definition (List Found))
  pub fixed : List (Definition (List Found))
  pub given : List PathPhandle
  pub new : List PathPhandle

abbrev pub all_numbers : Gathered → List PathPhandle
all_numbers g = g.given ++ g.new

-- a property behind the others for each number of a node that is left and has no `phandle` of its own
abbrev pub added_phandles : Gathered → List (Definition (List ℕ))
added_phandles g = map phandle_property (filter (λ x. is_listed x.path ([] ∷ g.rest.nodes) && not (has_own g.values x)) g.new)

abbrev pub with_numbers : Gathered → Resolved
with_numbers g = record {
  nodes = g.rest.nodes;
  properties = map (with_bytes (all_numbers g)) (filter (λ e. not (repeats_name e)) g.values) ++ added_phandles g;
}

abbrev pub gathered_tree : Bool → Bool → DtcTree → Gathered → Resolved
gathered_tree symbols plugin t g =
    with_more (when plugin (local_fixups (sites (all_numbers g) g.fixed) []))
    (with_more (when plugin (fixups (sites (all_numbers g) g.fixed) [])) (with_symbols symbols t g.rest (with_numbers g)))

-- ---- in order
-- numbers for references, then omission, then numbers for the symbols of what is left
abbrev pub gathered : Bool → Bool → DtcTree → List (Definition (List Found)) → List PathPhandle → Result Gathered Fault
gathered symbols plugin t es given =
    let gone = filter (goes symbols t es) (dtc_state t).nodes in
    let rest = rest_of gone (dtc_state t) in
    let of_cells = numbers_of_cells given es in
    let kept = filter (λ x. is_left gone x.path) (given ++ of_cells) in
    let of_symbols = numbers_of_symbols kept of_cells (when symbols (symbol_nodes t rest)) in
    then_do (fixed_up plugin rest) (λ fixed. Ok (record {
      rest = rest;
      values = filter (λ e. is_left gone e.path) es;
      fixed = fixed;
      given = given;
      new = of_cells ++ of_symbols;
    }))

abbrev pub resolved_tree : Bool → Bool → DtcTree → Result Resolved Fault
resolved_tree symbols plugin t =
    if names_taken symbols plugin (dtc_state t) then Err ReservedName
    else then_do (references plugin (dtc_state t)) (λ es.
    then_do (given_by_both es []) (λ given.
    then_do (gathered symbols plugin t es given) (λ g. shallow (gathered_tree symbols plugin t g))))

abbrev pub dtc_resolved : Bool → Meaning → Result Resolved Fault
dtc_resolved symbols m = then_do (dtc_edited m) (resolved_tree symbols m.plugin)
