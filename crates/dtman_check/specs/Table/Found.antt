-- What a check finds in a tree, and in the source that it was made of, but for nodes side by side with one unit address and
-- unknown properties: node by node in preorder, in each node rule by rule, or property by property.
use Rattle.std.specs.Prelude.{ℕ, ◌+◌, Bool, true, not, ◌||◌, ◌==◌, length, codes, if◌then◌else◌}
use Rattle.std.specs.Prelude.{List, [], ◌∷◌, ◌++◌, Option, Some, None, option_and_then}
use Rattle.std.specs.Option.{option_map}
use Rattle.std.specs.Str.{bytes_eq}
use Rattle.dt_tree.specs.NodeData.{nodes_of}
use Rattle.dt_tree.specs.declared.property.Property.{Property}
use Rattle.dt_check.specs.Bridges.{is_below}
use Rattle.dt_check.specs.Cells.{has}
use Rattle.dt_check.specs.Chosen.{is_gpio, is_named}
use Rattle.dt_check.specs.Fault.{FaultData}
use Rattle.dt_check.specs.Nodes.{PlacedData, HereData, here_of, node_at}
use Rattle.dt_check.specs.UnitRules.{has_unit}
use Rattle.dt_check.specs.Links.Aliases.{alias_fault}
use Rattle.dt_check.specs.Links.Graph.{is_of}
use Rattle.dt_check.specs.Links.Link.{LinkFaultData}
use Rattle.dt_check.specs.Links.ListingView.{listing_data}
use Rattle.dt_check.specs.Links.Lists.{list_faults}
use Rattle.dt_check.specs.declared.links.lists.Listing.{Listing}
use Rattle.dt_live.specs.Making.Places.{references_in}
use Rattle.dt_live.specs.declared.making.places.Places.{Places}
use Rattle.dtman_check.specs.declared.table.check.Among.{Among}
use Rattle.dtman_check.specs.declared.table.check.Among.TheVariants.{All, With, WithEither, Below, Part, Named as Called, Parents, WithUnit}
use Rattle.dtman_check.specs.declared.table.check.Finds.{Finds}
use Rattle.dtman_check.specs.declared.table.check.Finds.TheVariants.{Nothing, Units, Unknown}
use Rattle.dtman_check.specs.declared.table.check.Finds.TheVariants.{Node, Properties, Links, Lists, Aliases}
use Rattle.dtman_check.specs.declared.table.check.Listed.{Listed}
use Rattle.dtman_check.specs.declared.table.check.Listed.TheVariants.{Named, Lines}
use Rattle.dtman_check.specs.declared.table.rule.LinkRule.{LinkRule}
use Rattle.dtman_check.specs.declared.table.rule.PropertyRule.{PropertyRule}
use Rattle.dtman_check.specs.declared.table.rule.Rule.{Rule}
use Rattle.dtman_check.specs.Table.Finding.{FindingData, finding}
use Rattle.dtman_check.specs.Table.Rules.{rule_fault, property_fault, link_fault}

abbrev pub added : ℕ → ℕ → Option FaultData → List FindingData
added check place None = []
added check place (Some f) = finding check place f ∷ []

abbrev pub added_link : ℕ → Option LinkFaultData → List FindingData
added_link check None = []
added_link check (Some f) = finding check f.node f.fault ∷ []

abbrev pub found_by_rules : ℕ → ℕ → HereData → List Rule → List FindingData
found_by_rules check place here [] = []
found_by_rules check place here (r ∷ rs) = added check place (rule_fault r here) ++ found_by_rules check place here rs

abbrev pub found_in_properties : ℕ → ℕ → PropertyRule → List Property → List FindingData
found_in_properties check place rule [] = []
found_in_properties check place rule (p ∷ ps) = added check place (property_fault rule p) ++ found_in_properties check place rule ps

abbrev pub found_by_links : ℕ → List PlacedData → ℕ → HereData → List LinkRule → List FindingData
found_by_links check nodes place here [] = []
found_by_links check nodes place here (r ∷ rs) = added_link check (link_fault r nodes here place) ++ found_by_links check nodes place here rs

-- ---- lists of phandles
-- of lines of GPIO controllers: bindings gpio/gpio.txt of Linux
abbrev pub is_listed : Listed → List ℕ → Bool
is_listed (Named wanted) name = bytes_eq name wanted.now
is_listed Lines name = is_gpio name

-- those that a node looks at: the lines of a hog are no list
abbrev pub has_lists : Listed → HereData → Bool
has_lists (Named wanted) here = true
has_lists Lines here = not (has here.node.properties (codes "gpio-hog"))

-- the references in a property's value, where there is a source
abbrev pub references_at : Option Places → ℕ → ℕ → Option (List ℕ)
references_at written place index = option_map (λ p. references_in p place index) written

abbrev pub added_all : ℕ → ℕ → List FaultData → List FindingData
added_all check place [] = []
added_all check place (f ∷ fs) = finding check place f ∷ added_all check place fs

abbrev pub found_in_list : ℕ → Listed → Listing → List PlacedData → Option Places → ℕ → ℕ → Property → List FindingData
found_in_list check listed listing nodes written place index p =
    if is_listed listed p.name
    then added_all check place (list_faults nodes (listing_data listing) (references_at written place index) p)
    else []

-- in these properties, the first of which has this number
abbrev pub found_in_lists : ℕ → Listed → Listing → List PlacedData → Option Places → ℕ → ℕ → List Property → List FindingData
found_in_lists check listed listing nodes written place index [] = []
found_in_lists check listed listing nodes written place index (p ∷ ps) =
    found_in_list check listed listing nodes written place index p
    ++ found_in_lists check listed listing nodes written place (index + 1) ps

-- aliases, in the tree of the first node
abbrev pub alias_fault_in : List PlacedData → Property → Option FaultData
alias_fault_in nodes p = option_and_then (λ root. alias_fault root p) (node_at nodes 0)

abbrev pub found_aliases : ℕ → List PlacedData → ℕ → List Property → List FindingData
found_aliases check nodes place [] = []
found_aliases check nodes place (p ∷ ps) = added check place (alias_fault_in nodes p) ++ found_aliases check nodes place ps

-- whether a check of these nodes looks at one
abbrev pub is_among : Among → HereData → Bool
is_among All here = true
is_among (With name) here = has here.node.properties name.now
is_among (WithEither name other) here = has here.node.properties name.now || has here.node.properties other.now
is_among (Below bus) here = is_below bus here
is_among (Part kind) here = is_of kind here
is_among (Called name) here = is_named name.now here.node
is_among Parents here = not (length (nodes_of here.node.children) == 0)
is_among WithUnit here = has_unit here.node

-- in one node
abbrev pub found_here : ℕ → Finds → List PlacedData → Option Places → ℕ → HereData → List FindingData
found_here check Nothing nodes written place here = []
found_here check (Units counted) nodes written place here = []
found_here check Unknown nodes written place here = []
found_here check (Node among rules) nodes written place here =
    if is_among among here then found_by_rules check place here rules.now else []
found_here check (Properties rule) nodes written place here =
    found_in_properties check place rule here.node.properties
found_here check (Links among rules) nodes written place here =
    if is_among among here then found_by_links check nodes place here rules.now else []
found_here check (Lists listed listing) nodes written place here =
    if not (has_lists listed here) then []
    else found_in_lists check listed listing nodes written place 0 here.node.properties
found_here check Aliases nodes written place here =
    if not (is_named (codes "aliases") here.node) then [] else found_aliases check nodes place here.node.properties

-- in these nodes, the first of which has this place
abbrev pub found_from : ℕ → Finds → List PlacedData → Option Places → ℕ → List PlacedData → List FindingData
found_from check finds nodes written place [] = []
found_from check finds nodes written place (p ∷ ps) =
    found_here check finds nodes written place (here_of nodes p) ++ found_from check finds nodes written (place + 1) ps

abbrev pub found : ℕ → Finds → List PlacedData → Option Places → List FindingData
found check finds nodes written = found_from check finds nodes written 0 nodes
