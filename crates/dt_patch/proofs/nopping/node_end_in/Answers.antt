use Rattle.std.proofs.Common.{refl, inl, inr}
use Rattle.dt_patch.specs.Nopping.{HasBeginning, HasNode}
use Rattle.dt_patch.proofs.Fills.{by_answer}
use Rattle.dt_patch.proofs.Nops.{as_blob, no_node, or_none}
use Rattle.dt_patch.proofs.nopping.node_end_in.Goals as goal

pub returns-in-Ok-clause-found : goal.returns-in-Ok-clause-found
returns-in-Ok-clause-found c =
    let over = c.in-Ok.ensures.blocks in
    or_none _ _ _ c.node_end.result c.node_end.ensures (λ next h. as_blob (λ s b. HasNode s b c.args.at next) c.args.blob.now c.in-Ok.view over h)

pub returns-in-Ok-clause-fault : goal.returns-in-Ok-clause-fault
returns-in-Ok-clause-fault c =
    by_answer _ _ _ _ c.node_end.result c.node_end.ensures (λ next h. c.in-Ok.ensures.fault)
    (λ e h. inr (no_node c.args.blob.now c.in-Ok.view c.args.at e c.in-Ok.ensures.blocks c.in-Ok.ensures.fault h))

pub returns-in-Err-clause-fault : goal.returns-in-Err-clause-fault
returns-in-Err-clause-fault c = inl (c.in-Err.error, refl, c.in-Err.ensures.fault)
