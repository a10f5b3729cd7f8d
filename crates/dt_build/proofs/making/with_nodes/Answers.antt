use Rattle.std.proofs.Common.{List, ℕ, Option, subst, sym}
use Rattle.dt_live.specs.Rows.{node_path}
use Rattle.dt_live.specs.Making.Made.{IsRest}
use Rattle.dt_build.specs.Private.Made.{all_phandles}
use Rattle.dt_build.specs.Private.SourceValues.{source_made}
use Rattle.dt_build.specs.Private.Values.{values_of}
use Rattle.dt_build.proofs.SourceOrder.{source-order, source-rest}
use Rattle.dt_build.proofs.making.with_nodes.Goals as goal

pub make_nodes-requires-clause-order : goal.make_nodes-requires-clause-order
make_nodes-requires-clause-order c = source-order c.args.draft.now c.requires.ready c.args.node_phandles.now c.requires.node_phandles

pub make_nodes-requires-clause-rest : goal.make_nodes-requires-clause-rest
make_nodes-requires-clause-rest c =
    let p = c.args.draft.now in
    let n = c.args.node_phandles.now in
    subst (λ (ts : List (Option ℕ)). IsRest p.live p.in_preorder (source_made p n) (λ vs. values_of (all_phandles p) (node_path p.live) vs ts) 0 0) (sym c.as_slice.ensures.value) (source-rest p c.requires.ready n)
