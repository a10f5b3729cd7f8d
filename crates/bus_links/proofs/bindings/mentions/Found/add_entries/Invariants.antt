use Rattle.std.proofs.Common.{◌≡◌, ◌+◌, ◌≤◌, length}
use Rattle.bus_links.specs.Bindings.BindingView.{listing_data}
use Rattle.bus_links.specs.Bindings.Mentions.{and_then, found_within, found_in}
use Rattle.bus_links.proofs.bindings.mentions.Found.add_entries.Given as goal

-- what is found so far and what the bytes that are left name is what all name
abbrev pub invariant-loop-left : goal.invariant-loop-left
invariant-loop-left l = record {
  left : and_then l.self (found_within l.nodes l.own (listing_data l.listing) l.property l.entry l.skipped l.left l.rest)
      ≡ and_then l.fn.self (found_in l.nodes l.own (listing_data l.listing) l.property l.first l.value);
  few : l.entry + l.left ≤ length l.value;
}

abbrev pub decreases-loop-left : goal.decreases-loop-left
decreases-loop-left l = l.left
