-- What is left are the links that the plan is made of.
use Rattle.std.proofs.Common.{◌≡◌, ◌∙◌, [], List, subst, sym}
use Rattle.std.specs.Prelude.{IfOk}
use Rattle.bus_plan.specs.Plan.{IsLawful}
use Rattle.bus_links.specs.Links.{LinkData}
use Rattle.bus_links.specs.LinkPlan.{is_counted, planned_by}
use Rattle.bus_links.proofs.linking.late_by.Goals as goal

pub plan_by-requires : goal.plan_by-requires
plan_by-requires c =
    let early = c.args.timeout.now.early.now in
    subst (λ (ls : List (List LinkData)). IsLawful (planned_by c.args.matcher.now (is_counted early) [] ls 0 c.args.devices.now))
    (sym (c.as_slice-links.ensures.value ∙ c.in_ok-left.ensures)) c.requires

pub returns : goal.returns
returns c =
    let early = c.args.timeout.now.early.now in
    subst (λ (ls : List (List LinkData)). IfOk c.plan_by.result (λ plan. plan ≡ planned_by c.args.matcher.now (is_counted early) [] ls 0 c.args.devices.now))
    (c.as_slice-links.ensures.value ∙ c.in_ok-left.ensures) c.plan_by.ensures
