-- Sources, and the trees that they mean, worked by hand. `src/rows.rt` says that the definitions give the same.
use Rattle.std.specs.Prelude.{ℕ, true, false, List, [], ◌∷◌, ◌++◌, codes}
use Rattle.dt_source.specs.TreeMeaning.Paths.{Path}
use Rattle.dt_source.specs.TreeMeaning.Names.{overlay_name, symbols_name, fixups_name, local_fixups_name}
use Rattle.dt_source.specs.TreeMeaning.Syntax.{OfLabel, OfPath, Piece, Plain, PhandleOf, PathOf, Defines, Child, Removes, Body, Done, Then, Edit, Rooted, Extends, Deletes, Meaning}
use Rattle.dt_source.specs.TreeMeaning.Edits.{definition}
use Rattle.dt_source.specs.TreeMeaning.Resolved.{Resolved}

-- ---- words for the rows
abbrev cell : ℕ → List ℕ
cell n = 0 ∷ 0 ∷ 0 ∷ n ∷ []

abbrev pub a : List ℕ
a = codes "a"

abbrev pub b : List ℕ
b = codes "b"

abbrev pub c : List ℕ
c = codes "c"

abbrev pub d : List ℕ
d = codes "d"

abbrev pub e : List ℕ
e = codes "e"

abbrev pub r : List ℕ
r = codes "r"

abbrev pub s : List ℕ
s = codes "s"

abbrev pub t : List ℕ
t = codes "t"

abbrev pub x : List ℕ
x = codes "x"

abbrev pub y : List ℕ
y = codes "y"

abbrev pub z : List ℕ
z = codes "z"

abbrev pub phandle : List ℕ
phandle = codes "phandle"

abbrev Value : Type 0
Value = List Piece

abbrev node : List (List ℕ) → List ℕ → Body Value → Body Value → Body Value
node labels name body others = Then (Child false labels name body) others

abbrev property : List ℕ → Value → Body Value → Body Value
property name value others = Then (Defines name value) others

abbrev ordinary : List Edit → Meaning
ordinary items = record { plugin = false; reserves = []; items = items }

abbrev plugin : List Edit → Meaning
plugin items = record { plugin = true; reserves = []; items = items }

-- ---- merge-and-delete
-- / { a { x = <1>; y; }; b { }; }; / { a { x = <2>; z; }; /delete-node/ b; };
abbrev pub merge_and_delete : Meaning
merge_and_delete = ordinary (
    Rooted (node [] a (property x (Plain (cell 1) ∷ []) (property y [] Done)) (node [] b Done Done))
    ∷ Rooted (node [] a (property x (Plain (cell 2) ∷ []) (property z [] Done)) (Then (Removes b) Done)) ∷ [])

abbrev pub merged : Resolved
merged = record { nodes = (a ∷ []) ∷ []; properties = definition (a ∷ []) x (cell 2) ∷ definition (a ∷ []) y [] ∷ definition (a ∷ []) z [] ∷ [] }

-- / { x; x; };
abbrev pub property_twice : Meaning
property_twice = ordinary (Rooted (property x [] (property x [] Done)) ∷ [])

-- / { a { }; /delete-node/ a; a { }; };
abbrev pub child_twice : Meaning
child_twice = ordinary (Rooted (node [] a Done (Then (Removes a) (node [] a Done Done))) ∷ [])

-- ---- phandle-last
-- / { a: a { phandle = <1>; }; b: b { }; c { r = <&b &a>; }; };
abbrev pub phandle_last : Meaning
phandle_last = ordinary (Rooted (
    node (a ∷ []) a (property phandle (Plain (cell 1) ∷ []) Done) (node (b ∷ []) b Done
    (node [] c (property r (PhandleOf (OfLabel b) ∷ PhandleOf (OfLabel a) ∷ []) Done) Done))) ∷ [])

abbrev pub phandles_last : Resolved
phandles_last = record {
  nodes = (a ∷ []) ∷ (b ∷ []) ∷ (c ∷ []) ∷ [];
  properties = definition (a ∷ []) phandle (cell 1) ∷ definition (c ∷ []) r (cell 2 ++ cell 1) ∷ definition (b ∷ []) phandle (cell 2) ∷ [];
}

-- ---- symbols-order
-- / { a: a { }; b { r = <&a>; s = &a; t = <&{/b}>; }; };
abbrev pub symbols_order : Meaning
symbols_order = ordinary (Rooted (node (a ∷ []) a Done (node [] b
    (property r (PhandleOf (OfLabel a) ∷ []) (property s (PathOf (OfLabel a) ∷ []) (property t (PhandleOf (OfPath (codes "/b")) ∷ []) Done))) Done)) ∷ [])

abbrev pub symbols_ordered : Resolved
symbols_ordered = record {
  nodes = (a ∷ []) ∷ (b ∷ []) ∷ (symbols_name ∷ []) ∷ [];
  properties = definition (b ∷ []) r (cell 1) ∷ definition (b ∷ []) s (47 ∷ 97 ∷ 0 ∷ []) ∷ definition (b ∷ []) t (cell 2)
      ∷ definition (a ∷ []) phandle (cell 1) ∷ definition (b ∷ []) phandle (cell 2) ∷ definition (symbols_name ∷ []) a (47 ∷ 97 ∷ 0 ∷ []) ∷ [];
}

-- ---- phandle-given-later
-- / { a: a { r = <&a>; }; b { phandle = <1>; }; };
abbrev pub phandle_given_later : Meaning
phandle_given_later =
    ordinary (Rooted (node (a ∷ []) a (property r (PhandleOf (OfLabel a) ∷ []) Done) (node [] b (property phandle (Plain (cell 1) ∷ []) Done) Done)) ∷ [])

abbrev pub given_later : Resolved
given_later = record {
  nodes = (a ∷ []) ∷ (b ∷ []) ∷ [];
  properties = definition (a ∷ []) r (cell 2) ∷ definition (b ∷ []) phandle (cell 1) ∷ definition (a ∷ []) phandle (cell 2) ∷ [];
}

-- ---- lost-label
-- / { a: a { }; }; /delete-node/ &a; / { b { r = <&a>; }; };
abbrev pub lost_label : Meaning
lost_label = ordinary (
    Rooted (node (a ∷ []) a Done Done) ∷ Deletes (OfLabel a) ∷ Rooted (node [] b (property r (PhandleOf (OfLabel a) ∷ []) Done) Done) ∷ [])

-- / { a: x { }; a: y { }; };
abbrev pub two_nodes : Meaning
two_nodes = ordinary (Rooted (node (a ∷ []) x Done (node (a ∷ []) y Done Done)) ∷ [])

-- / { }; /delete-node/ &{/};
abbrev pub root_deleted : Meaning
root_deleted = ordinary (Rooted Done ∷ Deletes (OfPath (codes "/")) ∷ [])

-- a label of a removed node is free: / { a: x { }; }; /delete-node/ &a; / { a: y { }; b { r = <&a>; }; };
abbrev pub label_given_again : Meaning
label_given_again = ordinary (
    Rooted (node (a ∷ []) x Done Done) ∷ Deletes (OfLabel a)
    ∷ Rooted (node (a ∷ []) y Done (node [] b (property r (PhandleOf (OfLabel a) ∷ []) Done) Done)) ∷ [])

abbrev pub given_again : Resolved
given_again = record { nodes = (y ∷ []) ∷ (b ∷ []) ∷ []; properties = definition (b ∷ []) r (cell 1) ∷ definition (y ∷ []) phandle (cell 1) ∷ [] }

-- ---- overlay-pair, its overlay
-- /plugin/; &ocp { d { r = <&e>; }; e: e { }; };
abbrev pub overlay : Meaning
overlay = plugin (Extends [] (OfLabel (codes "ocp")) (node [] d (property r (PhandleOf (OfLabel e) ∷ []) Done) (node (e ∷ []) e Done Done)) ∷ [])

abbrev fragment : Path
fragment = codes "fragment@0" ∷ []

abbrev over : Path
over = codes "fragment@0" ∷ overlay_name ∷ []

abbrev local : Path
local = local_fixups_name ∷ over

abbrev pub compiled_overlay : Resolved
compiled_overlay = record {
  nodes = fragment ∷ over ∷ (over ++ d ∷ []) ∷ (over ++ e ∷ []) ∷ (fixups_name ∷ []) ∷ (local_fixups_name ∷ [])
      ∷ (local_fixups_name ∷ fragment) ∷ local ∷ (local ++ d ∷ []) ∷ [];
  properties = definition fragment (codes "target") (255 ∷ 255 ∷ 255 ∷ 255 ∷ []) ∷ definition (over ++ d ∷ []) r (cell 1)
      ∷ definition (over ++ e ∷ []) phandle (cell 1)
      ∷ definition (fixups_name ∷ []) (codes "ocp") (codes "/fragment@0:target:0" ++ 0 ∷ []) ∷ definition (local ++ d ∷ []) r (cell 0) ∷ [];
}

-- ---- target-path
-- /plugin/; &{/ocp} { x = <1>; };
abbrev pub target_path : Meaning
target_path = plugin (Extends [] (OfPath (codes "/ocp")) (property x (Plain (cell 1) ∷ []) Done) ∷ [])

abbrev pub targeted : Resolved
targeted = record {
  nodes = fragment ∷ over ∷ [];
  properties = definition fragment (codes "target-path") (codes "/ocp" ++ 0 ∷ []) ∷ definition over x (cell 1) ∷ [];
}

-- ---- the name of a fragment that was deleted
-- /plugin/; &a { }; /delete-node/ &{/fragment@0}; / { fragment@0 { }; };
abbrev pub fragment_name_again : Meaning
fragment_name_again = plugin (
    Extends [] (OfLabel a) Done ∷ Deletes (OfPath (codes "/fragment@0")) ∷ Rooted (node [] (codes "fragment@0") Done Done) ∷ [])

-- a path in cells of a plugin: /plugin/; &a { r = <&{/b}>; };
abbrev pub path_in_plugin : Meaning
path_in_plugin = plugin (Extends [] (OfLabel a) (property r (PhandleOf (OfPath (codes "/b")) ∷ []) Done) ∷ [])
