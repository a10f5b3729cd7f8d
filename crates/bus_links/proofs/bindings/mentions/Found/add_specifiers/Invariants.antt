use Rattle.std.proofs.Common.{◌≡◌, ◌+◌, ◌≤◌, length}
use Rattle.bus_links.specs.Bindings.Mentions.{and_then, lines_within}
use Rattle.bus_links.proofs.bindings.mentions.Found.add_specifiers.Given as goal

-- what is found so far and what the specifiers that are left name is what all name
abbrev pub invariant-loop-left : goal.invariant-loop-left
invariant-loop-left l = record {
  left : and_then l.self (lines_within l.nodes l.property l.own l.parent l.width l.entry l.left l.rest)
      ≡ and_then l.fn.self (lines_within l.nodes l.property l.own l.parent l.width 0 (length l.value) l.value);
  few : l.entry + l.left ≤ length l.value;
}

abbrev pub decreases-loop-left : goal.decreases-loop-left
decreases-loop-left l = l.left
