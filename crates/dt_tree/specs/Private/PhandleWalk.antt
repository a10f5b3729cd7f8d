-- What the walk for a phandle answers, node by node. The laws of `Phandle` are about the path map; `proofs/PhandleLaws.antt` joins the two.
use Rattle.std.specs.Prelude.{ℕ, max, Bool, false, List, [], ◌∷◌, Option, Some, None, if◌then◌else◌, ◌==◌}
use Rattle.std.specs.Option.{option_map, option_map_or}
use Rattle.dt_tree.specs.declared.property.Property.{Property}
use Rattle.dt_tree.specs.NodeData.{Siblings, none, more, NodeData}
use Rattle.dt_tree.specs.Phandle.{phandle_of, is_reserved_name, or_else}

-- 0 for none
abbrev pub phandle_or_zero : List Property → ℕ
phandle_or_zero ps = option_map_or (λ h. h) (phandle_of ps) 0

-- the nodes whose names aren't reserved
abbrev pub unreserved : Siblings → Siblings
unreserved none = none
unreserved (more n p c rest) = if is_reserved_name n then unreserved rest else more n p c (unreserved rest)

abbrev pub greatest_among : Siblings → ℕ
greatest_among none = 0
greatest_among (more n p c rest) = max (max (phandle_or_zero p) (greatest_among c)) (greatest_among rest)

abbrev pub greatest_below : NodeData → ℕ
greatest_below b = max (phandle_or_zero b.properties) (greatest_among b.children)

abbrev pub greatest_in_tree : NodeData → ℕ
greatest_in_tree root = max (phandle_or_zero root.properties) (greatest_among (unreserved root.children))

-- whether the properties have this phandle
abbrev pub has_phandle : List Property → ℕ → Bool
has_phandle ps h = option_map_or (λ g. g == h) (phandle_of ps) false

-- the names of the path of the first node with this phandle
abbrev pub path_among : Siblings → ℕ → Option (List (List ℕ))
path_among none h = None
path_among (more n p c rest) h = or_else (option_map (λ q. n ∷ q) (if has_phandle p h then Some [] else path_among c h)) (path_among rest h)

abbrev pub path_below : NodeData → ℕ → Option (List (List ℕ))
path_below b h = if has_phandle b.properties h then Some [] else path_among b.children h

abbrev pub path_in_tree : NodeData → ℕ → Option (List (List ℕ))
path_in_tree root h = if has_phandle root.properties h then Some [] else path_among (unreserved root.children) h
