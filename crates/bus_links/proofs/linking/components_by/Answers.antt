use Rattle.std.proofs.Common.{List, subst}
use Rattle.std.specs.Prelude.{IfOk}
use Rattle.bus_plan.specs.Plan.{PlannedDevice}
use Rattle.bus_plan.specs.Reach.Components.{AreComponents}
use Rattle.bus_links.proofs.linking.components_by.Goals as goal

pub returns : goal.returns
returns c =
    subst (λ (plan : List PlannedDevice). IfOk c.components_of.result (λ components. AreComponents plan components.items)) c.in_ok-whole.ensures c.components_of.ensures
