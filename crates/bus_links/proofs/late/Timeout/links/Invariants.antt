use Rattle.std.proofs.Common.{◌≡◌, ◌++◌, drop, map}
use Rattle.bus_links.specs.Bindings.BindingView.{is_strict}
use Rattle.bus_links.specs.LinkPlan.{is_waited_for, late_link, late_links}
use Rattle.bus_links.proofs.late.Timeout.links.Given as goal

-- what is left so far and of the devices that are left is all
abbrev pub invariant-loop-own : goal.invariant-loop-own
invariant-loop-own l =
    l.left.items
    ++ map (late_links (is_waited_for l.self.early.now l.self.components.now) (late_link (is_strict l.self.strictness) l.self.plan.now l.self.buses.now)) (drop l.own-index l.links)
    ≡ map (late_links (is_waited_for l.self.early.now l.self.components.now) (late_link (is_strict l.self.strictness) l.self.plan.now l.self.buses.now)) l.links
