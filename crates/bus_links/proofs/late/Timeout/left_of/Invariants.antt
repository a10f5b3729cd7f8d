use Rattle.std.proofs.Common.{◌≡◌, ◌++◌, drop}
use Rattle.bus_links.specs.Bindings.BindingView.{is_strict}
use Rattle.bus_links.specs.LinkPlan.{is_waited_for, late_link, late_links}
use Rattle.bus_links.proofs.late.Timeout.left_of.Given as goal

-- what is left so far and of the links that are left is all
abbrev pub invariant-loop-link : goal.invariant-loop-link
invariant-loop-link l =
    l.left.items
    ++ late_links (is_waited_for l.self.early.now l.self.components.now) (late_link (is_strict l.self.strictness) l.self.plan.now l.self.buses.now) (drop l.link-index l.links)
    ≡ late_links (is_waited_for l.self.early.now l.self.components.now) (late_link (is_strict l.self.strictness) l.self.plan.now l.self.buses.now) l.links
