-- One node more stands behind the endpoints of its device, if it is one.
use Rattle.std.proofs.Common.{◌≡◌, ◌∙◌, ap, sym, ℕ, ◌+◌, List, [], ◌∷◌, drop, map}
use Rattle.std.proofs.lemmas.List.{drop_more, drop_all}
use Rattle.bus_links.specs.Bindings.LinkNodes.{LinkNode}
use Rattle.bus_links.proofs.BindingsLemmas.EndsLemmas.{gathered-none, gathered-more, gathered-all}
use Rattle.bus_links.proofs.bindings.endpoints.Ends.of.Goals as goal

pub loop-place-init : goal.loop-place-init
loop-place-init c = gathered-none c.args.nodes.now c.args.count (map (λ list. list.items) c.in_ok-lists.lists.items) c.in_ok-lists.ensures

pub loop-place-preserved : goal.loop-place-preserved
loop-place-preserved c =
    let nodes : List LinkNode = c.args.nodes.now in
    let all : List LinkNode = c.as_slice-node-items.result.now in
    let place : ℕ = c.loop-place.place in
    let node : LinkNode = c.node-item.result in
    let is : all ≡ nodes = c.as_slice-node-items.ensures in
    let here : drop place all ≡ node ∷ drop (place + 1) all =
    drop_more all place node c.loop-place-test.true ∙ ap (λ (n : LinkNode). n ∷ drop (place + 1) all) (sym c.node-item.is) in
    let next : drop place nodes ≡ node ∷ drop (place + 1) nodes =
    ap (drop place) (sym is) ∙ here ∙ ap (λ (ns : List LinkNode). node ∷ drop (place + 1) ns) is in
    gathered-more nodes c.args.count place node (map (λ list. list.items) c.loop-place.lists.items) (map (λ list. list.items) c.add_end.new.lists.items) next
    c.loop-place.invariant c.in_ok-add_end.ensures

pub returns : goal.returns
returns c =
    let nodes : List LinkNode = c.args.nodes.now in
    let all : List LinkNode = c.as_slice-node-items.result.now in
    let place : ℕ = c.loop-place.place in
    let is : all ≡ nodes = c.as_slice-node-items.ensures in
    let end : drop place nodes ≡ [] = ap (drop place) (sym is) ∙ drop_all place all c.loop-place-test.false in
    gathered-all nodes c.args.count place (map (λ list. list.items) c.loop-place.lists.items) end c.loop-place.invariant
