use Rattle.std.proofs.Common.{◌≡◌, sym, ap, ◌∙◌}
use Rattle.dt_tree.specs.PathMap.{path_map}
use Rattle.dt_source.specs.TreeMeaning.MapOf.{map_of}
use Rattle.dt_live.specs.Builder.Builders.{built_lists}
use Rattle.dt_live.proofs.BuilderLemmas.Orders.{map-walked}
use Rattle.dt_live.proofs.BuilderLemmas.MakingWalk.{ok-more}
use Rattle.dt_live.specs.Flattened.{lists}
use Rattle.dt_overlay.proofs.MakingOrder.{all-rest, in-preorder}
use Rattle.dt_overlay.proofs.making.make.Goals as goal

pub make_nodes-requires-clause-order : goal.make_nodes-requires-clause-order
make_nodes-requires-clause-order c =
    let y = c.in_ok-in_preorder.in_preorder in
    let e = c.in_ok-in_preorder.ensures in
    in-preorder c.args.live.now y c.requires.whole e.properties c.requires.nodes e.nodes e.known e.there e.stand

pub make_nodes-requires-clause-rest : goal.make_nodes-requires-clause-rest
make_nodes-requires-clause-rest c = all-rest c.args.live.now c.in_ok-in_preorder.in_preorder c.requires.whole c.in_ok-in_preorder.ensures.properties

pub returns-clause-map : goal.returns-clause-map
returns-clause-map c =
    let d = c.args.live.now in
    ok-more (λ root. path_map root ≡ map_of (built_lists c.in_ok-make_nodes.field-0)) (λ root. path_map root ≡ map_of (lists d))
    (λ root e. e ∙ ap map_of c.in_ok-make_nodes.ensures ∙ sym (map-walked (lists d) c.requires.nodes))
    c.finish.result c.finish.ensures.map
