use Rattle.std.proofs.Common.{sym, ap, ◌∙◌}
use Rattle.dt_tree.specs.PathMap.{tree_map}
use Rattle.dtman_engine.specs.Private.CompilingDtc.{boots_on}
use Rattle.dtman_engine.proofs.CompileDtcLemmas.{other-processor}
use Rattle.dtman_engine.proofs.compiling_dtc.booted.Goals as goal

pub returns-in-Ok : goal.returns-in-Ok
returns-in-Ok c =
    let parts = c.into_parts-reserves.result in
    other-processor c.args.tree c.in-Ok.tree parts.2 parts.0.items parts.1 c.in-Some.processor c.check.ensures c.into_parts-reserves.ensures c.in-Ok.ensures.tree
    ∙ ap (λ o. boots_on o (tree_map c.args.tree)) (sym c.in-Some.is)
