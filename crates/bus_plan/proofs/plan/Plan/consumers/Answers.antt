-- The lists are those of the plan's devices.
use Rattle.std.proofs.Common.{◌≡◌, ◌∙◌, ap, ◌<◌, [], length, get_or, arith}
use Rattle.std.proofs.lemmas.List.FromFn.{length-map-range_with_len, get_or-map-range_with_len}
use Rattle.bus_plan.specs.Consumers.{consumers_of}
use Rattle.bus_plan.proofs.plan.Plan.consumers.Goals as goal

pub at-requires : goal.at-requires
at-requires c =
    let items = c.self.inside.devices.items in
    let long : length c.self.inside.consumers ≡ length items = ap length c.self.invariant.gathered ∙ length-map-range_with_len (consumers_of items) 0 (length items) in
    omega (arith, ap length c.self.view_is)

pub returns : goal.returns
returns c =
    let items = c.self.inside.devices.items in
    let index : c.index.result ≡ c.args.device = c.index.ensures in
    let within : c.args.device < length items = omega (arith, ap length c.self.view_is) in
    c.at.ensures ∙ ap (λ i. get_or c.self.inside.consumers i []) index ∙ ap (λ ls. get_or ls c.args.device []) c.self.invariant.gathered
    ∙ get_or-map-range_with_len (consumers_of items) 0 (length items) c.args.device c.args.device [] within (omega arith)
    ∙ ap (λ plan. consumers_of plan c.args.device) c.self.view_is
