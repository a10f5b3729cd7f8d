-- Edits of dtc: the tree while dtc reads, and each single edit (Devicetree Specification v0.4, section 6.3; where it is silent, dtc
-- 1.6.1, tried by hand). It differs from `Edits` in three things: what is removed keeps its place; in the body with which a node
-- begins nothing is removed; a label may stand at several nodes until all is read.
use Rattle.std.specs.Prelude.{ℕ, Bool, true, false, not, ◌&&◌, List, [], ◌∷◌, ◌++◌, reverse, Result, Ok, Err, if◌then◌else◌, ok_or}
use Rattle.std.specs.List.{filter, find}
use Rattle.std.specs.Str.{bytes_eq}
use Rattle.dt_tree.specs.Path.{path_names}
use Rattle.dt_source.specs.TreeMeaning.Paths.{Path, same_path, is_within}
use Rattle.dt_source.specs.TreeMeaning.Syntax.{Target, OfLabel, OfPath, Piece}
use Rattle.dt_source.specs.TreeMeaning.Edits.{Definition, definition, is_of, Label, labelled_at}
use Rattle.dt_source.specs.TreeMeaning.Statements.{Fault, UnknownLabel, UnknownPath, DuplicateInBody}
use Rattle.dt_source.specs.TreeMeaning.References.{preorder}
use Rattle.dt_source.specs.TreeMeaning.Places.{Row, row, place, what_stands, one_stands, has_place, has_two_places, put_in_place, first_removed, all_removed}

-- the nodes, the root among them, the properties and the labels, each in order of definition; the nodes before which `/omit-if-no-ref/`
-- counts; how many fragments were made
pub record DtcTree : Type 0 where
  pub nodes : List (Row Path)
  pub properties : List (Row (Definition (List Piece)))
  pub labels : List (Row Label)
  pub marked : List Path
  pub fragments : ℕ

-- before the first item not even the root is there
abbrev pub nothing : DtcTree
nothing = record { nodes = []; properties = []; labels = []; marked = []; fragments = 0 }

abbrev pub node_stands : Path → DtcTree → Bool
node_stands p t = one_stands (same_path p) t.nodes

abbrev pub node_has_place : Path → DtcTree → Bool
node_has_place p t = has_place (same_path p) t.nodes

-- ---- properties; `first` says that the body is the one with which its node begins
-- Of a name with two places, of which only one could stand, the first counts: it can't be made again.
abbrev pub made_property : (first : Bool) → Path → List ℕ → List Piece → DtcTree → Result DtcTree Fault
made_property true p n v t =
    if one_stands (is_of p n) t.properties then Err DuplicateInBody
    else Ok (record t { properties = t.properties ++ row (definition p n v) ∷ [] })
made_property false p n v t =
    if has_two_places (is_of p n) t.properties then Err DuplicateInBody
    else Ok (record t { properties = put_in_place (is_of p n) (definition p n v) t.properties })

-- in the body with which its node begins a name that isn't there gets its place, and one that is there stays
abbrev pub unmade_property : (first : Bool) → Path → List ℕ → DtcTree → DtcTree
unmade_property true p n t =
    if has_place (is_of p n) t.properties then t else record t { properties = t.properties ++ place (definition p n []) ∷ [] }
unmade_property false p n t = record t { properties = first_removed (is_of p n) t.properties }

-- ---- nodes
abbrev pub made_node : (first : Bool) → Path → DtcTree → Result DtcTree Fault
made_node true p t = if node_stands p t then Err DuplicateInBody else Ok (record t { nodes = t.nodes ++ row p ∷ [] })
made_node false p t =
    if has_two_places (same_path p) t.nodes then Err DuplicateInBody else Ok (record t { nodes = put_in_place (same_path p) p t.nodes })

-- a node goes with all below it and with all their labels
abbrev pub without_all_within : Path → DtcTree → DtcTree
without_all_within p t = record t {
  nodes = all_removed (is_within p) t.nodes;
  properties = all_removed (λ e. is_within p e.path) t.properties;
  labels = all_removed (λ l. is_within p l.path) t.labels;
}

-- in the body with which its node begins a name gets a place, and one that was made can't be removed
abbrev pub unmade_node : (first : Bool) → Path → DtcTree → Result DtcTree Fault
unmade_node true p t = if node_stands p t then Err DuplicateInBody else Ok (record t { nodes = t.nodes ++ place p ∷ [] })
unmade_node false p t = Ok (if has_two_places (same_path p) t.nodes then t else without_all_within p t)

-- ---- labels
abbrev pub is_label_at : List ℕ → Path → Label → Bool
is_label_at l p x = bytes_eq l x.label && same_path p x.path

abbrev pub with_labels_at : List (List ℕ) → Path → DtcTree → DtcTree
with_labels_at [] p t = t
with_labels_at (l ∷ ls) p t = with_labels_at ls p (record t { labels = put_in_place (is_label_at l p) (labelled_at l p) t.labels })

-- of the labels before the body with which a node begins, the last is given first
abbrev pub given_in_turn : (first : Bool) → List (List ℕ) → List (List ℕ)
given_in_turn true ls = reverse ls
given_in_turn false ls = ls

-- the node had a label, which it may have lost
abbrev pub ever_labelled : DtcTree → Path → Bool
ever_labelled t p = has_place (λ l. same_path p l.path) t.labels

-- ---- omission
abbrev pub with_mark : Bool → Path → DtcTree → DtcTree
with_mark omitted p t = record t { marked = if omitted then p ∷ t.marked else t.marked }

-- ---- the node that a reference names in the tree so far: of several with its label the first in preorder
abbrev pub all_below : DtcTree → List Path
all_below t = filter (λ p. not (same_path p [])) (what_stands t.nodes)

abbrev pub in_preorder : DtcTree → List Path
in_preorder t = if node_stands [] t then preorder (all_below t) else []

abbrev pub is_labelled : List ℕ → DtcTree → Path → Bool
is_labelled l t p = one_stands (is_label_at l p) t.labels

abbrev pub named_node : Target → DtcTree → Result Path Fault
named_node (OfLabel l) t = ok_or (find (is_labelled l t) (in_preorder t)) UnknownLabel
named_node (OfPath s) t = if node_stands (path_names s) t then Ok (path_names s) else Err UnknownPath
