use Rattle.std.proofs.Common.{◌≡◌, ℕ, nat_eq, drop}
use Rattle.dt_tree.specs.Phandle.{or_else}
use Rattle.indexmap.specs.IndexMap.{get}
use Rattle.bus_links.specs.Bindings.LinkNodes.{place_from}
use Rattle.bus_links.proofs.bindings.nodes.keep_places.Given as goal

-- what is kept, or else the first of the nodes that are left, is the first of all
abbrev pub invariant-loop-place : goal.invariant-loop-place
invariant-loop-place l = (q : ℕ) → or_else (get nat_eq l.places q) (place_from l.place q (drop l.place l.nodes)) ≡ place_from 0 q l.nodes
