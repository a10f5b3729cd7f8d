use Rattle.std.proofs.Common.{map}
use Rattle.bus_links.proofs.BindingsLemmas.EndsLemmas.{AreGathered}
use Rattle.bus_links.proofs.bindings.endpoints.Ends.of.Given as goal

-- the endpoints so far stand in the lists of their devices
abbrev pub invariant-loop-place : goal.invariant-loop-place
invariant-loop-place l = AreGathered l.nodes l.count l.place (map (λ list. list.items) l.lists.items)
