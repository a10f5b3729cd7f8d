use Rattle.std.proofs.Common.{◌≡◌, ◌++◌, drop}
use Rattle.bus_links.specs.Bindings.BindingView.{is_strict}
use Rattle.bus_links.specs.Lost.{lost_from}
use Rattle.bus_links.proofs.lost.Search.all.Given as goal

-- the entries so far and those of the devices that are left are all
abbrev pub invariant-loop-own : goal.invariant-loop-own
invariant-loop-own l =
    l.lost.items ++ lost_from l.self.nodes.now l.self.places.now (is_strict l.self.strictness) l.own (drop l.own l.self.places.now)
    ≡ lost_from l.self.nodes.now l.self.places.now (is_strict l.self.strictness) 0 l.self.places.now
