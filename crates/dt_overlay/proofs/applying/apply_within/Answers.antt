use Rattle.std.proofs.Common.{◌∙◌}
use Rattle.dt_overlay.proofs.ApplySteps.{root-found, tree-within}
use Rattle.dt_overlay.proofs.applying.apply_within.Goals as goal

pub returns-in-Ok : goal.returns-in-Ok
returns-in-Ok c =
    tree-within c.args.base.now c.args.overlay.now c.args.limit c.in-Ok-Some.root (root-found _ c.args.limit c.in-Ok-Some.field-0 c.in-Ok-Some.root c.in-Ok-Some.field-0-is c.in-Ok-Some.ensures) c.check.ensures c.in_ok-reserves-in-Ok-Some.reserves.items c.boot_cpu.result c.in-Ok.tree
    (c.in_ok-reserves-in-Ok-Some.ensures.items ∙ c.reserves.ensures) c.boot_cpu.ensures c.in-Ok.ensures.tree
