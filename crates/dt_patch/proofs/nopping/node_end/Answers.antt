use Rattle.std.proofs.Common.{refl, inl, inr}
use Rattle.dt_blob.specs.Holds.{without_nops}
use Rattle.dt_patch.proofs.ViewLemmas.Throughs.{node_ahead, node_there}
use Rattle.dt_patch.proofs.nopping.node_end.Goals as goal

pub returns-in-Err : goal.returns-in-Err
returns-in-Err c = inl (refl, c.in-Err.ensures)

pub returns-in-Ok-node_end : goal.returns-in-Ok-node_end
returns-in-Ok-node_end c = node_there c.args.view.now c.args.at c.in-Ok.next c.in-Ok-node_end.next c.in-Ok.ensures c.in-Ok-node_end.ensures.further c.in-Ok-node_end.ensures.within c.in-Ok-node_end.ensures.ended

pub returns-in-Err-node_end : goal.returns-in-Err-node_end
returns-in-Err-node_end c =
    inr (refl, c.in-Ok.next, c.in-Ok.ensures, λ end n. c.in-Err-node_end.ensures.endless (without_nops n.tokens) (node_ahead c.args.view.now c.args.at c.in-Ok.next end c.in-Ok.ensures n) n.closes)
