-- Plans of the tree's links are lawful.
use Rattle.std.proofs.Common.{◌∙◌, [], length, subst}
use Rattle.bus_drivers.specs.Driver.{DriverSetData, IsDriverSet}
use Rattle.bus_drivers.specs.Nodes.{tree_devices}
use Rattle.bus_links.specs.Bindings.BindingView.{is_strict}
use Rattle.bus_links.proofs.LawfulLinks.{lawful_linked, lawful_late, tree_parents_within, no_parents_within}
use Rattle.bus_links.proofs.linking.linked_by.Goals as goal

pub plans_by-requires-clause-whole : goal.plans_by-requires-clause-whole
plans_by-requires-clause-whole c =
    let made = c.in_ok-parts.parts.devices in
    lawful_linked c.args.tree.now c.check.ensures c.args.drivers.now (subst (λ (s : DriverSetData). IsDriverSet s) c.drivers.ensures c.check-2.ensures) c.requires.few (is_strict c.args.strictness)
    c.args.matcher.now made.parents.items c.as_slice-links.result.now made.devices.items c.requires.matcher (c.as_slice-links.ensures.value ∙ c.in_ok-parts.ensures.links) c.in_ok-parts.ensures.devices
    (tree_parents_within c.args.tree.now.root made.parents.items c.in_ok-parts.ensures.parents)

pub plans_by-requires-clause-alone : goal.plans_by-requires-clause-alone
plans_by-requires-clause-alone c =
    let made = c.in_ok-parts.parts.devices in
    lawful_linked c.args.tree.now c.check.ensures c.args.drivers.now (subst (λ (s : DriverSetData). IsDriverSet s) c.drivers.ensures c.check-2.ensures) c.requires.few (is_strict c.args.strictness)
    c.args.matcher.now [] c.as_slice-links.result.now made.devices.items c.requires.matcher (c.as_slice-links.ensures.value ∙ c.in_ok-parts.ensures.links) c.in_ok-parts.ensures.devices
    (no_parents_within (length (tree_devices c.args.tree.now.root)))

pub plans_by-requires-clause-late : goal.plans_by-requires-clause-late
plans_by-requires-clause-late c =
    let made = c.in_ok-parts.parts.devices in
    lawful_late c.args.tree.now c.check.ensures c.args.drivers.now (subst (λ (s : DriverSetData). IsDriverSet s) c.drivers.ensures c.check-2.ensures) c.requires.few (is_strict c.args.strictness)
    c.args.matcher.now made.early.items made.buses.items c.as_slice-links.result.now made.devices.items c.requires.matcher c.in_ok-parts.ensures.buses
    (c.as_slice-links.ensures.value ∙ c.in_ok-parts.ensures.links) c.in_ok-parts.ensures.devices

pub returns : goal.returns
returns c =
    let of_parts = c.in_ok-parts.ensures in
    let of_plans = c.in_ok-plans.ensures in
    let links = c.as_slice-links.ensures.value ∙ of_parts.links in
    rw c.new.ensures (record {
      links = of_parts.links;
      warnings = of_parts.warnings;
      early = of_parts.early;
      cycles = rw (c.requires.matcher, of_parts.early, of_parts.parents, links, of_parts.devices) at of_plans.cycles;
      plan = rw (c.requires.matcher, of_parts.early, links, of_parts.devices) at of_plans.plan;
      late = rw (c.requires.matcher, of_parts.early, of_parts.buses, links, of_parts.devices) at of_plans.late;
    })
