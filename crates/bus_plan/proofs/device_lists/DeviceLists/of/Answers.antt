-- One list more stands at the block's end.
use Rattle.std.proofs.Common.{◌≡◌, ◌∙◌, ap, sym, subst, ◌+◌, [], ◌∷◌, ◌++◌, length, map, take}
use Rattle.std.proofs.lemmas.List.{take_more, map-append}
use Rattle.bus_plan.proofs.DeviceListsLemmas.{IsPacked, packed-more}
use Rattle.bus_plan.proofs.device_lists.DeviceLists.of.Goals as goal

pub loop-list-preserved : goal.loop-list-preserved
loop-list-preserved c =
    let starts = c.loop-list.starts.items in
    let block = c.loop-list.block.items in
    let lists = map (λ list. list.items) (take c.loop-list.list-index c.args.lists.now) in
    let list = c.list-item.result.items in
    let block_is : c.extend_from_slice.new.self.items ≡ block ++ list = c.in_ok-extend_from_slice.ensures.items ∙ ap (λ l. block ++ l) c.as_slice.ensures.value in
    let end : c.len.result ≡ length (block ++ list) = c.len.ensures ∙ c.extend_from_slice.new.self.ok.0 ∙ ap length block_is in
    let starts_are : c.push-in-loop-list.new.self.items ≡ starts ++ length (block ++ list) ∷ [] = c.in_ok-push-2.ensures.items ∙ ap (λ e. starts ++ e ∷ []) end in
    let lists_are : map (λ list. list.items) (take (c.loop-list.list-index + 1) c.args.lists.now) ≡ lists ++ list ∷ [] =
    ap (map (λ list. list.items)) (take_more c.args.lists.now c.loop-list.list-index c.list-item.result c.loop-list-test.true)
    ∙ map-append (λ list. list.items) (take c.loop-list.list-index c.args.lists.now) _ ∙ ap (λ l. lists ++ l.items ∷ []) (sym c.list-item.is) in
    subst (λ ls. IsPacked c.push-in-loop-list.new.self.items c.extend_from_slice.new.self.items ls) (sym lists_are)
    (subst (λ s. IsPacked s c.extend_from_slice.new.self.items (lists ++ list ∷ [])) (sym starts_are)
    (subst (λ b. IsPacked (starts ++ length (block ++ list) ∷ []) b (lists ++ list ∷ [])) (sym block_is)
    (packed-more starts block list lists c.loop-list.invariant)))
