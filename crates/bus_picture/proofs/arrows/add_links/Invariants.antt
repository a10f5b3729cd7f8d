use Rattle.std.proofs.Common.{◌≡◌, ◌++◌, drop}
use Rattle.bus_links.specs.LinkPlan.{links_at}
use Rattle.bus_picture.specs.Arrows.{link_arrows, arrows_at}
use Rattle.bus_picture.proofs.arrows.add_links.Given as goal

-- the arrows so far and those of the links that are left are all
abbrev pub invariant-loop-place : goal.invariant-loop-place
invariant-loop-place l =
    l.arrows.items ++ link_arrows l.linked.early l.linked.components l.place (drop l.place (links_at l.linked.links l.fn.consumer))
    ≡ l.fn.arrows.items ++ arrows_at l.linked l.fn.consumer
