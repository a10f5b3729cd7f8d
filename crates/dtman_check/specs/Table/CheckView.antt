-- What the code says of a check, as a row of the table (`Checks`).
use Rattle.std.specs.Prelude.{map}
use Rattle.dt_check.specs.Links.ListingView.{listing_data}
use Rattle.dtman_check.specs.declared.table.check.Check.{Check}
use Rattle.dtman_check.specs.declared.table.check.Finds.{Finds}
use Rattle.dtman_check.specs.declared.table.check.Finds.TheVariants.{Nothing, Units, Unknown, Node, Properties, Links, Lists, Aliases}
use Rattle.dtman_check.specs.Table.Checks.{CheckData}
use Rattle.dtman_check.specs.Table.Found.{is_among, is_listed, has_lists}
use Rattle.dtman_check.specs.Table.Looks.{Looks, nothing, units, unknown, by_node, by_property, by_links, by_lists, aliases}
use Rattle.dtman_check.specs.Table.Rules.{rule_fault, property_fault, link_fault}

abbrev pub looks_data : Finds → Looks
looks_data Nothing = nothing
looks_data (Units counted) = units counted
looks_data Unknown = unknown
looks_data (Node among rules) = by_node (is_among among) (map rule_fault rules.now)
looks_data (Properties rule) = by_property (property_fault rule)
looks_data (Links among rules) = by_links (is_among among) (map link_fault rules.now)
looks_data (Lists listed listing) = by_lists (is_listed listed) (has_lists listed) (listing_data listing)
looks_data Aliases = aliases

abbrev pub check_data : Check → CheckData
check_data c = record {
  name = c.name.now;
  severity = c.severity;
  prerequisites = c.prerequisites.now;
  made_before = c.made_before.now;
  looks = looks_data c.finds;
}
