use Rattle.std.proofs.Common.{◌≡◌, drop}
use Rattle.bus_links.specs.Bindings.Endpoints.{found_ends}
use Rattle.bus_links.specs.Bindings.Mentions.{and_then}
use Rattle.bus_links.proofs.bindings.mentions.Found.add_ends.Given as goal

-- what is found so far and what the endpoints that are left name is what all name
abbrev pub invariant-loop-place : goal.invariant-loop-place
invariant-loop-place l = and_then l.self (found_ends l.nodes (drop l.place-index l.ends)) ≡ and_then l.fn.self (found_ends l.nodes l.ends)
