use Rattle.std.proofs.Common.{◌≡◌}
use Rattle.bus_links.specs.Links.{reached_within}
use Rattle.bus_links.proofs.making.Maker.is_reached.Given as goal

abbrev pub invariant-loop-left : goal.invariant-loop-left
invariant-loop-left l =
    reached_within l.self.nodes.now l.self.early.now l.self.buses.now l.left l.at
    ≡ reached_within l.self.nodes.now l.self.early.now l.self.buses.now l.steps l.place

abbrev pub decreases-loop-left : goal.decreases-loop-left
decreases-loop-left l = l.left
