-- One supplier more has got the consumer.
use Rattle.std.proofs.Common.{◌≡◌, ◌∙◌, ap, sym, ℕ, ◌<◌, [], ◌∷◌, ◌++◌, length, get_or, set, map, arith}
use Rattle.std.proofs.lemmas.List.{map-set, get_or-map, get_or_read, length-map}
use Rattle.bus_plan.proofs.ConsumersLemmas.{added-more}
use Rattle.bus_plan.proofs.consumers.add_consumer.Goals as goal

pub loop-supplier-preserved : goal.loop-supplier-preserved
loop-supplier-preserved c =
    let suppliers = c.args.suppliers.now in
    let j : ℕ = c.loop-supplier.supplier-index in
    let lists = c.loop-supplier.lists.items in
    let kept = map (λ list. list.items) lists in
    let old = map (λ list. list.items) c.args.lists.now.items in
    let within : j < length suppliers = c.loop-supplier-test.true in
    let supplier : c.index.result ≡ get_or suppliers j 0 = c.index.ensures ∙ get_or_read suppliers j c.supplier-item.result within c.supplier-item.is 0 in
    let known : get_or suppliers j 0 < length c.args.lists.now.items = c.requires.within j 0 within in
    let known_old : get_or suppliers j 0 < length old = omega (arith, length-map c.args.lists.now.items (λ list. list.items)) in
    let count : length kept ≡ length old = c.loop-supplier.invariant.count in
    let here : c.index.result < length lists = omega (arith, length-map lists (λ list. list.items)) in
    let before : c.index_mut.result.now.items ≡ get_or kept (get_or suppliers j 0) [] =
    ap (λ list. list.items) c.index_mut.ensures.value ∙ sym (get_or-map (λ list. list.items) lists c.index.result _ [] here)
    ∙ ap (λ i. get_or kept i []) supplier in
    let list_is : c.push.new.self.items ≡ get_or kept (get_or suppliers j 0) [] ++ c.args.consumer ∷ [] =
    c.in_ok-push.ensures.items ∙ ap (λ l. l ++ c.args.consumer ∷ []) before in
    added-more old kept _ c.args.consumer suppliers j c.loop-supplier.invariant c.requires.apart within known_old
    (map-set (λ list. list.items) lists c.index.result c.push.new.self ∙ ap (λ i. set kept i c.push.new.self.items) supplier
    ∙ ap (set kept (get_or suppliers j 0)) list_is)
