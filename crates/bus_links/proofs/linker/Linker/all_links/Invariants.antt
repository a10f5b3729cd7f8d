use Rattle.std.proofs.Common.{◌≡◌, ◌++◌, drop}
use Rattle.bus_links.specs.Bindings.BindingView.{is_strict}
use Rattle.bus_links.specs.Links.{links_from, warnings_from}
use Rattle.bus_links.proofs.linker.Linker.all_links.Given as goal

-- what is made so far and what the devices that are left make is all
abbrev pub invariant-loop-own : goal.invariant-loop-own
invariant-loop-own l = record {
  links : l.links.items ++ links_from l.self.nodes.now l.self.devices.now l.self.buses.now (is_strict l.self.strictness) l.places l.own (drop l.own l.self.devices.now)
      ≡ links_from l.self.nodes.now l.self.devices.now l.self.buses.now (is_strict l.self.strictness) l.places 0 l.self.devices.now;
  warnings : l.warnings.items ++ warnings_from l.self.nodes.now (is_strict l.self.strictness) l.places l.own (drop l.own l.self.devices.now)
      ≡ l.fn.warnings.items ++ warnings_from l.self.nodes.now (is_strict l.self.strictness) l.places 0 l.self.devices.now;
}
