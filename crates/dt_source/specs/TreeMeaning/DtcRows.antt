-- Sources, and the trees that they mean to dtc 1.6.1, as it answered them: its nodes in preorder, and their properties node by node.
-- `src/dtc_rows.rt` says that the definitions give the same.
use Rattle.std.specs.Prelude.{ℕ, Bool, true, false, not, List, [], ◌∷◌, ◌++◌, codes, Result, Ok}
use Rattle.std.specs.List.{filter, flat_map}
use Rattle.dt_tree.specs.Steps.{then_do}
use Rattle.dt_source.specs.TreeMeaning.Names.{fixups_name, symbols_name, overlay_name}
use Rattle.dt_source.specs.TreeMeaning.Paths.{same_path}
use Rattle.dt_source.specs.TreeMeaning.Syntax.{OfLabel, OfPath, Piece, Plain, PathOf, PhandleOf, Body, Done, Then, Defines, Undefines, Child, Removes, Edit, Rooted, Extends, Deletes, Omits, Meaning}
use Rattle.dt_source.specs.TreeMeaning.Edits.{definition}
use Rattle.dt_source.specs.TreeMeaning.References.{held, preorder}
use Rattle.dt_source.specs.TreeMeaning.Resolved.{Resolved}
use Rattle.dt_source.specs.TreeMeaning.Rows.{a, b, c, d, r, s, t, x, y, z, phandle}
use Rattle.dt_source.specs.TreeMeaning.Statements.{Fault}
use Rattle.dt_source.specs.TreeMeaning.DtcResolved.{dtc_resolved}

-- ---- what a row asks
abbrev pub in_walk : Resolved → Resolved
in_walk r = let all = preorder r.nodes in record { nodes = filter (λ p. not (same_path p [])) all; properties = flat_map (held r.properties) all }

abbrev pub says : (symbols : Bool) → Meaning → Result Resolved Fault
says symbols m = then_do (dtc_resolved symbols m) (λ r. Ok (in_walk r))

-- ---- words for the rows
abbrev cell : ℕ → List ℕ
cell n = 0 ∷ 0 ∷ 0 ∷ n ∷ []

abbrev no_cell : List ℕ
no_cell = 255 ∷ 255 ∷ 255 ∷ 255 ∷ []

abbrev text : List ℕ → List ℕ
text t = t ++ 0 ∷ []

abbrev pub l : List ℕ
l = codes "l"

abbrev pub m : List ℕ
m = codes "m"

abbrev pub p : List ℕ
p = codes "p"

abbrev pub q : List ℕ
q = codes "q"

abbrev pub w : List ℕ
w = codes "w"

abbrev pub legacy : List ℕ
legacy = codes "linux,phandle"

abbrev node : List (List ℕ) → List ℕ → Body (List Piece) → Body (List Piece) → Body (List Piece)
node labels name body others = Then (Child false labels name body) others

abbrev omitted : List (List ℕ) → List ℕ → Body (List Piece) → Body (List Piece) → Body (List Piece)
omitted labels name body others = Then (Child true labels name body) others

abbrev property : List ℕ → List Piece → Body (List Piece) → Body (List Piece)
property name value others = Then (Defines name value) others

abbrev ordinary : List Edit → Meaning
ordinary items = record { plugin = false; reserves = []; items = items }

abbrev plugin : List Edit → Meaning
plugin items = record { plugin = true; reserves = []; items = items }

-- / { a { x; }; b { y; }; }; /delete-node/ &{/a}; / { a { z; }; };
abbrev pub made_again : Meaning
made_again = ordinary (
    Rooted (node [] a (property x [] Done) (node [] b (property y [] Done) Done))
    ∷ Deletes (OfPath (codes "/a"))
    ∷ Rooted (node [] a (property z [] Done) Done) ∷ [])

abbrev pub made_again_says : Resolved
made_again_says = record {
  nodes = (a ∷ []) ∷ (b ∷ []) ∷ [];
  properties = definition (a ∷ []) z [] ∷ definition (b ∷ []) y [] ∷ [];
}

-- / { /delete-node/ a; b { }; }; / { a { }; };
abbrev pub place_before_it_is_made : Meaning
place_before_it_is_made = ordinary (Rooted (Then (Removes a) (node [] b Done Done)) ∷ Rooted (node [] a Done Done) ∷ [])

abbrev pub place_before_it_is_made_says : Resolved
place_before_it_is_made_says = record { nodes = (a ∷ []) ∷ (b ∷ []) ∷ []; properties = [] }

-- / { r; /delete-property/ r; };
abbrev pub first_body_unmakes_nothing : Meaning
first_body_unmakes_nothing = ordinary (Rooted (property r [] (Then (Undefines r) Done)) ∷ [])

abbrev pub first_body_unmakes_nothing_says : Resolved
first_body_unmakes_nothing_says = record { nodes = []; properties = definition [] r [] ∷ [] }

-- / { /delete-property/ r; r; }; / { /delete-property/ r; };
abbrev pub hidden_property : Meaning
hidden_property = ordinary (Rooted (Then (Undefines r) (property r [] Done)) ∷ Rooted (Then (Undefines r) Done) ∷ [])

abbrev pub hidden_property_says : Resolved
hidden_property_says = record { nodes = []; properties = definition [] r [] ∷ [] }

-- / { /delete-node/ b; b { y; }; }; / { /delete-node/ b; };
abbrev pub hidden_node : Meaning
hidden_node = ordinary (
    Rooted (Then (Removes b) (node [] b (property y [] Done) Done))
    ∷ Rooted (Then (Removes b) Done) ∷ [])

abbrev pub hidden_node_says : Resolved
hidden_node_says = record { nodes = (b ∷ []) ∷ []; properties = definition (b ∷ []) y [] ∷ [] }

-- / { /delete-node/ b; b { y; }; }; / { b { x; }; };
abbrev pub hidden_node_again : Meaning
hidden_node_again = ordinary (
    Rooted (Then (Removes b) (node [] b (property y [] Done) Done))
    ∷ Rooted (node [] b (property x [] Done) Done) ∷ [])

-- / { x; x; };
abbrev pub made_twice : Meaning
made_twice = ordinary (Rooted (property x [] (property x [] Done)) ∷ [])

-- / { b { }; /delete-node/ b; };
abbrev pub made_and_unmade : Meaning
made_and_unmade = ordinary (Rooted (node [] b Done (Then (Removes b) Done)) ∷ [])

-- / { /delete-node/ b; /delete-node/ b; }; / { b { }; };
abbrev pub unmade_twice : Meaning
unmade_twice = ordinary (Rooted (Then (Removes b) (Then (Removes b) Done)) ∷ Rooted (node [] b Done Done) ∷ [])

-- / { a: a { x; }; }; &a { y; z; y = <2>; };
abbrev pub last_wins : Meaning
last_wins = ordinary (
    Rooted (node (a ∷ []) a (property x [] Done) Done)
    ∷ Extends [] (OfLabel a) (property y [] (property z [] (property y (Plain (cell 2) ∷ []) Done))) ∷ [])

abbrev pub last_wins_says : Resolved
last_wins_says = record {
  nodes = (a ∷ []) ∷ [];
  properties = definition (a ∷ []) x [] ∷ definition (a ∷ []) y (cell 2) ∷ definition (a ∷ []) z [] ∷ [];
}

-- / { l: a { }; }; / { c { r = &l; }; l: b { }; /delete-node/ a; };
abbrev pub moving_label : Meaning
moving_label = ordinary (
    Rooted (node (l ∷ []) a Done Done)
    ∷ Rooted (node [] c (property r (PathOf (OfLabel l) ∷ []) Done) (node (l ∷ []) b Done (Then (Removes a) Done))) ∷ [])

abbrev pub moving_label_says : Resolved
moving_label_says = record { nodes = (c ∷ []) ∷ (b ∷ []) ∷ []; properties = definition (c ∷ []) r (text (codes "/b")) ∷ [] }

-- / { l: a { }; l: b { }; };
abbrev pub label_at_two_nodes : Meaning
label_at_two_nodes = ordinary (Rooted (node (l ∷ []) a Done (node (l ∷ []) b Done Done)) ∷ [])

-- / { a { l: b { }; }; m: c { }; }; l: &m { }; &l { x; }; /delete-node/ &l;
abbrev pub first_in_preorder : Meaning
first_in_preorder = ordinary (
    Rooted (node [] a (node (l ∷ []) b Done Done) (node (m ∷ []) c Done Done))
    ∷ Extends (l ∷ []) (OfLabel m) Done
    ∷ Extends [] (OfLabel l) (property x [] Done)
    ∷ Deletes (OfLabel l) ∷ [])

abbrev pub first_in_preorder_says : Resolved
first_in_preorder_says = record { nodes = (a ∷ []) ∷ (c ∷ []) ∷ []; properties = [] }

-- / { x: y: a { }; }; / { z: w: a { }; }; with symbols
abbrev pub four_labels : Meaning
four_labels = ordinary (Rooted (node (x ∷ y ∷ []) a Done Done) ∷ Rooted (node (z ∷ w ∷ []) a Done Done) ∷ [])

abbrev pub four_labels_says : Resolved
four_labels_says = record {
  nodes = (a ∷ []) ∷ (symbols_name ∷ []) ∷ [];
  properties = definition (a ∷ []) phandle (cell 1) ∷ definition (symbols_name ∷ []) w (text (codes "/a")) ∷
      definition (symbols_name ∷ []) z (text (codes "/a")) ∷ definition (symbols_name ∷ []) x (text (codes "/a")) ∷
      definition (symbols_name ∷ []) y (text (codes "/a")) ∷ [];
}

-- / { l: a { }; }; m: &{/} { }; with symbols
abbrev pub root_label : Meaning
root_label = ordinary (Rooted (node (l ∷ []) a Done Done) ∷ Extends (m ∷ []) (OfPath (codes "/")) Done ∷ [])

abbrev pub root_label_says : Resolved
root_label_says = record {
  nodes = (a ∷ []) ∷ (symbols_name ∷ []) ∷ [];
  properties = definition [] phandle (cell 1) ∷ definition (a ∷ []) phandle (cell 2) ∷
      definition (symbols_name ∷ []) m (text (codes "/")) ∷ definition (symbols_name ∷ []) l (text (codes "/a")) ∷ [];
}

-- / { b { linux,phandle = <1>; }; a: a { }; c { r = <&{/b}>, <&a>; }; };
abbrev pub by_both_names : Meaning
by_both_names = ordinary (
    Rooted (node [] b (property legacy (Plain (cell 1) ∷ []) Done) (node (a ∷ []) a Done (node [] c (property r (PhandleOf (OfPath (codes "/b")) ∷ PhandleOf (OfLabel a) ∷ []) Done) Done))) ∷ [])

abbrev pub by_both_names_says : Resolved
by_both_names_says = record {
  nodes = (b ∷ []) ∷ (a ∷ []) ∷ (c ∷ []) ∷ [];
  properties = definition (b ∷ []) legacy (cell 1) ∷ definition (a ∷ []) phandle (cell 2) ∷
      definition (c ∷ []) r ((cell 1) ++ (cell 2)) ∷ [];
}

-- / { a { phandle = <1>; linux,phandle = <2>; }; };
abbrev pub one_number_by_two_names : Meaning
one_number_by_two_names = ordinary (
    Rooted (node [] a (property phandle (Plain (cell 1) ∷ []) (property legacy (Plain (cell 2) ∷ []) Done)) Done) ∷ [])

-- / { a: a { phandle = <&a>; }; b { linux,phandle = <1>; }; };
abbrev pub asked_for : Meaning
asked_for = ordinary (
    Rooted (node (a ∷ []) a (property phandle (PhandleOf (OfLabel a) ∷ []) Done) (node [] b (property legacy (Plain (cell 1) ∷ []) Done) Done)) ∷ [])

abbrev pub asked_for_says : Resolved
asked_for_says = record {
  nodes = (a ∷ []) ∷ (b ∷ []) ∷ [];
  properties = definition (a ∷ []) phandle (cell 2) ∷ definition (b ∷ []) legacy (cell 1) ∷ [];
}

-- / { a { linux,phandle = <4>; phandle = <&{/a}>; }; };
abbrev pub asked_for_and_given : Meaning
asked_for_and_given = ordinary (
    Rooted (node [] a (property legacy (Plain (cell 4) ∷ []) (property phandle (PhandleOf (OfPath (codes "/a")) ∷ []) Done)) Done) ∷ [])

abbrev pub asked_for_and_given_says : Resolved
asked_for_and_given_says = record {
  nodes = (a ∷ []) ∷ [];
  properties = definition (a ∷ []) legacy (cell 4) ∷ definition (a ∷ []) phandle (cell 4) ∷ [];
}

-- / { a { phandle = <&b>; }; b: b { }; };
abbrev pub of_another : Meaning
of_another = ordinary (
    Rooted (node [] a (property phandle (PhandleOf (OfLabel b) ∷ []) Done) (node (b ∷ []) b Done Done)) ∷ [])

-- / { /omit-if-no-ref/ a { r = <&b>, <&c>; }; /omit-if-no-ref/ b: b { /omit-if-no-ref/ c: c { }; }; d { r = <&c>; }; };
abbrev pub numbered_before_it_goes : Meaning
numbered_before_it_goes = ordinary (
    Rooted (omitted [] a (property r (PhandleOf (OfLabel b) ∷ PhandleOf (OfLabel c) ∷ []) Done) (omitted (b ∷ []) b (omitted (c ∷ []) c Done Done) (node [] d (property r (PhandleOf (OfLabel c) ∷ []) Done) Done))) ∷ [])

abbrev pub numbered_before_it_goes_says : Resolved
numbered_before_it_goes_says = record {
  nodes = (b ∷ []) ∷ (b ∷ c ∷ []) ∷ (d ∷ []) ∷ [];
  properties = definition (b ∷ []) phandle (cell 1) ∷ definition (b ∷ c ∷ []) phandle (cell 2) ∷ definition (d ∷ []) r (cell 2) ∷ [];
}

-- / { a { }; }; / { /omit-if-no-ref/ a { }; /omit-if-no-ref/ b { }; };
abbrev pub marked_where_it_is_made : Meaning
marked_where_it_is_made = ordinary (Rooted (node [] a Done Done) ∷ Rooted (omitted [] a Done (omitted [] b Done Done)) ∷ [])

abbrev pub marked_where_it_is_made_says : Resolved
marked_where_it_is_made_says = record { nodes = (a ∷ []) ∷ []; properties = [] }

-- / { a: a { }; b { }; }; /omit-if-no-ref/ &a;
abbrev pub marked_by_reference : Meaning
marked_by_reference = ordinary (Rooted (node (a ∷ []) a Done (node [] b Done Done)) ∷ Omits (OfLabel a) ∷ [])

abbrev pub marked_by_reference_says : Resolved
marked_by_reference_says = record { nodes = (b ∷ []) ∷ []; properties = [] }

-- / { r = <&l>; /omit-if-no-ref/ a { l: b { }; }; };
abbrev pub goes_with_what_is_below : Meaning
goes_with_what_is_below = ordinary (
    Rooted (property r (PhandleOf (OfLabel l) ∷ []) (omitted [] a (node (l ∷ []) b Done Done) Done)) ∷ [])

abbrev pub goes_with_what_is_below_says : Resolved
goes_with_what_is_below_says = record { nodes = []; properties = definition [] r (cell 1) ∷ [] }

-- / { s: s { }; t { r = <&s>; }; a: a { }; /omit-if-no-ref/ b { phandle = <1>; }; }; with symbols
abbrev pub numbers_go_on : Meaning
numbers_go_on = ordinary (
    Rooted (node (s ∷ []) s Done (node [] t (property r (PhandleOf (OfLabel s) ∷ []) Done) (node (a ∷ []) a Done (omitted [] b (property phandle (Plain (cell 1) ∷ []) Done) Done)))) ∷ [])

abbrev pub numbers_go_on_says : Resolved
numbers_go_on_says = record {
  nodes = (s ∷ []) ∷ (t ∷ []) ∷ (a ∷ []) ∷ (symbols_name ∷ []) ∷ [];
  properties = definition (s ∷ []) phandle (cell 2) ∷ definition (t ∷ []) r (cell 2) ∷ definition (a ∷ []) phandle (cell 3) ∷
      definition (symbols_name ∷ []) s (text (codes "/s")) ∷ definition (symbols_name ∷ []) a (text (codes "/a")) ∷ [];
}

-- / { /omit-if-no-ref/ a { r = <&b>; b: b { }; }; c: c { }; }; with symbols
abbrev pub last_number_is_free : Meaning
last_number_is_free = ordinary (
    Rooted (omitted [] a (property r (PhandleOf (OfLabel b) ∷ []) (node (b ∷ []) b Done Done)) (node (c ∷ []) c Done Done)) ∷ [])

abbrev pub last_number_is_free_says : Resolved
last_number_is_free_says = record {
  nodes = (c ∷ []) ∷ (symbols_name ∷ []) ∷ [];
  properties = definition (c ∷ []) phandle (cell 1) ∷ definition (symbols_name ∷ []) c (text (codes "/c")) ∷ [];
}

-- / { l: a { }; }; / { /delete-node/ a; a { }; }; with symbols
abbrev pub label_that_was_lost : Meaning
label_that_was_lost = ordinary (Rooted (node (l ∷ []) a Done Done) ∷ Rooted (Then (Removes a) (node [] a Done Done)) ∷ [])

abbrev pub label_that_was_lost_says : Resolved
label_that_was_lost_says = record {
  nodes = (a ∷ []) ∷ (symbols_name ∷ []) ∷ [];
  properties = definition (a ∷ []) phandle (cell 1) ∷ [];
}

-- / { /omit-if-no-ref/ l: a { }; }; / { /delete-node/ a; a { }; }; with symbols
abbrev pub marked_and_once_labelled : Meaning
marked_and_once_labelled = ordinary (Rooted (omitted (l ∷ []) a Done Done) ∷ Rooted (Then (Removes a) (node [] a Done Done)) ∷ [])

abbrev pub marked_and_once_labelled_says : Resolved
marked_and_once_labelled_says = record {
  nodes = (a ∷ []) ∷ (symbols_name ∷ []) ∷ [];
  properties = definition (a ∷ []) phandle (cell 1) ∷ [];
}

-- / { x; p { name = "p"; }; q@1 { name = "q"; }; };
abbrev pub name_is_dropped : Meaning
name_is_dropped = ordinary (
    Rooted (property x [] (node [] p (property (codes "name") (Plain (text p) ∷ []) Done) (node [] (codes "q@1") (property (codes "name") (Plain (text q) ∷ []) Done) Done))) ∷ [])

abbrev pub name_is_dropped_says : Resolved
name_is_dropped_says = record { nodes = (p ∷ []) ∷ (codes "q@1" ∷ []) ∷ []; properties = definition [] x [] ∷ [] }

-- /plugin/; &x { r = <&c>; /omit-if-no-ref/ b { c: c { }; }; };
abbrev pub fragment : Meaning
fragment = plugin (
    Extends [] (OfLabel x) (property r (PhandleOf (OfLabel c) ∷ []) (omitted [] b (node (c ∷ []) c Done Done) Done)) ∷ [])

abbrev pub fragment_says : Resolved
fragment_says = record {
  nodes = (codes "fragment@0" ∷ []) ∷ (codes "fragment@0" ∷ overlay_name ∷ []) ∷ (fixups_name ∷ []) ∷ [];
  properties = definition (codes "fragment@0" ∷ []) (codes "target") no_cell ∷
      definition (codes "fragment@0" ∷ overlay_name ∷ []) r (cell 1) ∷
      definition (fixups_name ∷ []) x (text (codes "/fragment@0:target:0")) ∷
      definition (fixups_name ∷ []) c (text (codes "/fragment@0/__overlay__:r:0")) ∷ [];
}

-- ---- boot processors
-- / { cpus { c: a { reg = <3>; }; b { reg = <5>; }; }; }; /delete-node/ &c;
abbrev pub deleted_first : Meaning
deleted_first = ordinary (
    Rooted (node [] (codes "cpus") (node (c ∷ []) a (property (codes "reg") (Plain (cell 3) ∷ []) Done) (node [] b (property (codes "reg") (Plain (cell 5) ∷ []) Done) Done)) Done)
    ∷ Deletes (OfLabel c) ∷ [])

-- / { cpus { /omit-if-no-ref/ a { reg = <3>; }; b { reg = <5>; }; }; };
abbrev pub omitted_first : Meaning
omitted_first = ordinary (
    Rooted (node [] (codes "cpus") (omitted [] a (property (codes "reg") (Plain (cell 3) ∷ []) Done) (node [] b (property (codes "reg") (Plain (cell 5) ∷ []) Done) Done)) Done) ∷ [])

-- / { cpus { x: a { reg = <&x>; }; }; };
abbrev pub reg_in_cells : Meaning
reg_in_cells = ordinary (
    Rooted (node [] (codes "cpus") (node (x ∷ []) a (property (codes "reg") (PhandleOf (OfLabel x) ∷ []) Done) Done) Done) ∷ [])

-- / { cpus { x: a { reg = &x, <5>; }; }; };
abbrev pub reg_outside : Meaning
reg_outside = ordinary (
    Rooted (node [] (codes "cpus") (node (x ∷ []) a (property (codes "reg") (PathOf (OfLabel x) ∷ Plain (cell 5) ∷ []) Done) Done) Done) ∷ [])

-- / { cpus { a { reg = <5>, <6>; }; }; };
abbrev pub reg_of_two_cells : Meaning
reg_of_two_cells = ordinary (
    Rooted (node [] (codes "cpus") (node [] a (property (codes "reg") (Plain ((cell 5) ++ (cell 6)) ∷ []) Done) Done) Done) ∷ [])

-- / { cpus { /delete-node/ a; a { reg = <7>; }; }; };
abbrev pub place_first : Meaning
place_first = ordinary (
    Rooted (node [] (codes "cpus") (Then (Removes a) (node [] a (property (codes "reg") (Plain (cell 7) ∷ []) Done) Done)) Done) ∷ [])

-- ---- of random sources that both take
-- / { p = <&{/}>; l1: b@2 { /delete-property/ p; r = <&l1>; }; }; /omit-if-no-ref/ &l1; /delete-node/ &l1;
abbrev pub random_1 : Meaning
random_1 = ordinary (
    Rooted (property p (PhandleOf (OfPath (codes "/")) ∷ []) (node (codes "l1" ∷ []) (codes "b@2") (Then (Undefines p) (property r (PhandleOf (OfLabel (codes "l1")) ∷ []) Done)) Done))
    ∷ Omits (OfLabel (codes "l1"))
    ∷ Deletes (OfLabel (codes "l1")) ∷ [])

abbrev pub random_1_says : Resolved
random_1_says = record { nodes = []; properties = definition [] p (cell 1) ∷ definition [] phandle (cell 1) ∷ [] }

-- / { q = <&{/}>, <&{/}>; }; &{/} { q; /delete-property/ q; /delete-node/ a@1; }; / { /delete-node/ b; };
abbrev pub random_2 : Meaning
random_2 = ordinary (
    Rooted (property q (PhandleOf (OfPath (codes "/")) ∷ PhandleOf (OfPath (codes "/")) ∷ []) Done)
    ∷ Extends [] (OfPath (codes "/")) (property q [] (Then (Undefines q) (Then (Removes (codes "a@1")) Done)))
    ∷ Rooted (Then (Removes b) Done) ∷ [])

abbrev pub random_2_says : Resolved
random_2_says = record { nodes = []; properties = [] }

-- / { r; }; / { p = <&{/}>; /delete-node/ c; }; &{/} { phandle = <2>; p = &{/}; /delete-property/ r; };
abbrev pub random_3 : Meaning
random_3 = ordinary (
    Rooted (property r [] Done)
    ∷ Rooted (property p (PhandleOf (OfPath (codes "/")) ∷ []) (Then (Removes c) Done))
    ∷ Extends [] (OfPath (codes "/")) (property phandle (Plain (cell 2) ∷ []) (property p (PathOf (OfPath (codes "/")) ∷ []) (Then (Undefines r) Done))) ∷ [])

abbrev pub random_3_says : Resolved
random_3_says = record { nodes = []; properties = definition [] p (text (codes "/")) ∷ definition [] phandle (cell 2) ∷ [] }

-- / { /delete-property/ q; l1: b@2 { p = &l1; r = <1>, <&l1>; }; /delete-node/ b; }; &l1 { p; p = <1>; q = <&l1>; /delete-node/ a@1; }; with symbols
abbrev pub random_4 : Meaning
random_4 = ordinary (
    Rooted (Then (Undefines q) (node (codes "l1" ∷ []) (codes "b@2") (property p (PathOf (OfLabel (codes "l1")) ∷ []) (property r (Plain (cell 1) ∷ PhandleOf (OfLabel (codes "l1")) ∷ []) Done)) (Then (Removes b) Done)))
    ∷ Extends [] (OfLabel (codes "l1")) (property p [] (property p (Plain (cell 1) ∷ []) (property q (PhandleOf (OfLabel (codes "l1")) ∷ []) (Then (Removes (codes "a@1")) Done)))) ∷ [])

abbrev pub random_4_says : Resolved
random_4_says = record {
  nodes = (codes "b@2" ∷ []) ∷ (symbols_name ∷ []) ∷ [];
  properties = definition (codes "b@2" ∷ []) p (cell 1) ∷ definition (codes "b@2" ∷ []) r ((cell 1) ++ (cell 1)) ∷
      definition (codes "b@2" ∷ []) q (cell 1) ∷ definition (codes "b@2" ∷ []) phandle (cell 1) ∷
      definition (symbols_name ∷ []) (codes "l1") (text (codes "/b@2")) ∷ [];
}

-- / { r = <&{/}>, &{/}; q = <&{/}>; }; &{/} { p = &{/}; /delete-property/ p; r; /delete-node/ b@2; }; / { q; /omit-if-no-ref/ l1: b@2 { /delete-property/ r; q = <&l1>; }; };
abbrev pub random_5 : Meaning
random_5 = ordinary (
    Rooted (property r (PhandleOf (OfPath (codes "/")) ∷ PathOf (OfPath (codes "/")) ∷ []) (property q (PhandleOf (OfPath (codes "/")) ∷ []) Done))
    ∷ Extends [] (OfPath (codes "/")) (property p (PathOf (OfPath (codes "/")) ∷ []) (Then (Undefines p) (property r [] (Then (Removes (codes "b@2")) Done))))
    ∷ Rooted (property q [] (omitted (codes "l1" ∷ []) (codes "b@2") (Then (Undefines r) (property q (PhandleOf (OfLabel (codes "l1")) ∷ []) Done)) Done)) ∷ [])

abbrev pub random_5_says : Resolved
random_5_says = record {
  nodes = (codes "b@2" ∷ []) ∷ [];
  properties = definition [] r [] ∷ definition [] q [] ∷ definition (codes "b@2" ∷ []) q (cell 1) ∷
      definition (codes "b@2" ∷ []) phandle (cell 1) ∷ [];
}

-- / { /delete-property/ r; }; / { r = <&{/}>; r = <5>; /delete-node/ a; }; with symbols
abbrev pub random_6 : Meaning
random_6 = ordinary (
    Rooted (Then (Undefines r) Done)
    ∷ Rooted (property r (PhandleOf (OfPath (codes "/")) ∷ []) (property r (Plain (cell 5) ∷ []) (Then (Removes a) Done))) ∷ [])

abbrev pub random_6_says : Resolved
random_6_says = record { nodes = []; properties = definition [] r (cell 5) ∷ [] }

-- / { p = <&{/}>; linux,phandle = <5>; /delete-property/ q; l1: l2: b { }; /delete-node/ c; }; &l1 { q = <&{/b}>; r = <2>; l3: a { /delete-property/ p; p; l4: l1: c { p = <&l2>; }; }; }; /delete-node/ &l3; with symbols
abbrev pub random_7 : Meaning
random_7 = ordinary (
    Rooted (property p (PhandleOf (OfPath (codes "/")) ∷ []) (property legacy (Plain (cell 5) ∷ []) (Then (Undefines q) (node (codes "l1" ∷ codes "l2" ∷ []) b Done (Then (Removes c) Done)))))
    ∷ Extends [] (OfLabel (codes "l1")) (property q (PhandleOf (OfPath (codes "/b")) ∷ []) (property r (Plain (cell 2) ∷ []) (node (codes "l3" ∷ []) a (Then (Undefines p) (property p [] (node (codes "l4" ∷ codes "l1" ∷ []) c (property p (PhandleOf (OfLabel (codes "l2")) ∷ []) Done) Done))) Done)))
    ∷ Deletes (OfLabel (codes "l3")) ∷ [])

abbrev pub random_7_says : Resolved
random_7_says = record {
  nodes = (b ∷ []) ∷ (symbols_name ∷ []) ∷ [];
  properties = definition [] p (cell 5) ∷ definition [] legacy (cell 5) ∷ definition (b ∷ []) q (cell 1) ∷
      definition (b ∷ []) r (cell 2) ∷ definition (b ∷ []) phandle (cell 1) ∷
      definition (symbols_name ∷ []) (codes "l1") (text (codes "/b")) ∷
      definition (symbols_name ∷ []) (codes "l2") (text (codes "/b")) ∷ [];
}

-- / { /delete-property/ q; r = <2>; l1: c { p = &l1, <3>; q; }; /delete-node/ a; }; /omit-if-no-ref/ &l1; &{/c} { /delete-property/ r; r = &l1, <1>; /omit-if-no-ref/ l2: c { }; }; /delete-node/ &l1;
abbrev pub random_8 : Meaning
random_8 = ordinary (
    Rooted (Then (Undefines q) (property r (Plain (cell 2) ∷ []) (node (codes "l1" ∷ []) c (property p (PathOf (OfLabel (codes "l1")) ∷ Plain (cell 3) ∷ []) (property q [] Done)) (Then (Removes a) Done))))
    ∷ Omits (OfLabel (codes "l1"))
    ∷ Extends [] (OfPath (codes "/c")) (Then (Undefines r) (property r (PathOf (OfLabel (codes "l1")) ∷ Plain (cell 1) ∷ []) (omitted (codes "l2" ∷ []) c Done Done)))
    ∷ Deletes (OfLabel (codes "l1")) ∷ [])

abbrev pub random_8_says : Resolved
random_8_says = record { nodes = []; properties = definition [] r (cell 2) ∷ [] }

-- / { p = <&{/}>, <5>; l1: l1: a { r = <&{/a}>, <&{/}>; p = <&l1>, &l1; q; }; /omit-if-no-ref/ l2: c { q = &l2; l3: c { r = <&{/c}>; l4: a@1 { q = <&l2>, &l3; }; }; }; }; / { r; q; linux,phandle = <1>; }; / { };
abbrev pub random_9 : Meaning
random_9 = ordinary (
    Rooted (property p (PhandleOf (OfPath (codes "/")) ∷ Plain (cell 5) ∷ []) (node (codes "l1" ∷ codes "l1" ∷ []) a (property r (PhandleOf (OfPath (codes "/a")) ∷ PhandleOf (OfPath (codes "/")) ∷ []) (property p (PhandleOf (OfLabel (codes "l1")) ∷ PathOf (OfLabel (codes "l1")) ∷ []) (property q [] Done))) (omitted (codes "l2" ∷ []) c (property q (PathOf (OfLabel (codes "l2")) ∷ []) (node (codes "l3" ∷ []) c (property r (PhandleOf (OfPath (codes "/c")) ∷ []) (node (codes "l4" ∷ []) (codes "a@1") (property q (PhandleOf (OfLabel (codes "l2")) ∷ PathOf (OfLabel (codes "l3")) ∷ []) Done) Done)) Done)) Done)))
    ∷ Rooted (property r [] (property q [] (property legacy (Plain (cell 1) ∷ []) Done)))
    ∷ Rooted Done ∷ [])

abbrev pub random_9_says : Resolved
random_9_says = record {
  nodes = (a ∷ []) ∷ (c ∷ []) ∷ (c ∷ c ∷ []) ∷ (c ∷ c ∷ codes "a@1" ∷ []) ∷ [];
  properties = definition [] p ((cell 1) ++ (cell 5)) ∷ definition [] r [] ∷ definition [] q [] ∷ definition [] legacy (cell 1) ∷
      definition (a ∷ []) r ((cell 2) ++ (cell 1)) ∷ definition (a ∷ []) p (0 ∷ 0 ∷ 0 ∷ 2 ∷ 47 ∷ 97 ∷ 0 ∷ []) ∷
      definition (a ∷ []) q [] ∷ definition (a ∷ []) phandle (cell 2) ∷ definition (c ∷ []) q (text (codes "/c")) ∷
      definition (c ∷ []) phandle (cell 3) ∷ definition (c ∷ c ∷ []) r (cell 3) ∷
      definition (c ∷ c ∷ codes "a@1" ∷ []) q (0 ∷ 0 ∷ 0 ∷ 3 ∷ 47 ∷ 99 ∷ 47 ∷ 99 ∷ 0 ∷ []) ∷ [];
}
