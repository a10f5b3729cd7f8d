-- The set's lines are the matcher's.
use Rattle.std.proofs.Common.{◌≡◌, ◌∙◌, ap, subst, List}
use Rattle.std.specs.Prelude.{IfOk}
use Rattle.std.specs.Option.{option_map}
use Rattle.bus_drivers.specs.Driver.{FailData, DriverSetData}
use Rattle.bus_drivers.specs.TreePlan.{unknown_fail}
use Rattle.bus_drivers.proofs.matching.Matcher.first_unknown.Goals as goal

pub returns : goal.returns
returns c =
    subst (λ (fails : List FailData). IfOk c.unknown_beside.result (λ line. line ≡ option_map (λ f. f.line) (unknown_fail c.args.devices.now fails)))
    (c.fails.ensures ∙ ap (λ (s : DriverSetData). s.fails) c.self.view_is) c.unknown_beside.ensures
