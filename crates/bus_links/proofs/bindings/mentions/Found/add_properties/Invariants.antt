use Rattle.std.proofs.Common.{◌≡◌, drop}
use Rattle.bus_links.specs.Bindings.BindingView.{is_strict}
use Rattle.bus_links.specs.Bindings.Mentions.{and_then, found_among}
use Rattle.bus_links.proofs.bindings.mentions.Found.add_properties.Given as goal

-- what is found so far and what the properties that are left name is what all name
abbrev pub invariant-loop-property : goal.invariant-loop-property
invariant-loop-property l =
    and_then l.self (found_among l.nodes (is_strict l.strictness) l.own (drop l.property-index l.properties))
    ≡ and_then l.fn.self (found_among l.nodes (is_strict l.strictness) l.own l.properties)
