use Rattle.std.proofs.Common.{◌≡◌, ◌∙◌, ◌++◌, ◌∷◌, ◌<◌, [], ap, sym, length, get_or, set, map, arith}
use Rattle.std.proofs.lemmas.List.{map-set, get_or-map, length-map}
use Rattle.dt_live.proofs.ListSteps.{pushed-list}
use Rattle.dt_live.proofs.preorder.lists.Lists.push.Goals as goal

pub returns-clause-lists : goal.returns-clause-lists
returns-clause-lists c n =
    let lists = c.args.self.now.lists.items in
    let kept = map (λ list. list.items) lists in
    let owner = c.args.owner in
    let within : owner < length kept = omega (arith, length-map lists (λ list. list.items), c.requires) in
    let before : c.index_mut.result.now.items ≡ get_or kept owner [] =
    ap (λ list. list.items) c.index_mut.ensures.value ∙ sym (get_or-map (λ list. list.items) lists owner _ [] c.requires) in
    let list_is : c.push.new.self.items ≡ get_or kept owner [] ++ c.args.number ∷ [] = c.in_ok-push.ensures.items ∙ ap (λ l. l ++ c.args.number ∷ []) before in
    ap (λ ls. get_or ls n []) (map-set (λ list. list.items) lists owner c.push.new.self ∙ ap (set kept owner) list_is)
    ∙ pushed-list kept owner c.args.number within n
