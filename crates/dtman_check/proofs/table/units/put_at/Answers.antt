use Rattle.std.proofs.Common.{◌∙◌, ◌<◌, ◌++◌, ◌∷◌, [], ℕ, List, length, set, map, ap, sym, arith}
use Rattle.std.proofs.lemmas.List.{map-set, get_or-map}
use Rattle.dtman_check.proofs.table.units.put_at.Goals as goal

pub returns-in_ok-push : goal.returns-in_ok-push
returns-in_ok-push c =
    let lists = c.args.lists.now.items in
    let at : ℕ = c.args.at in
    let here : at < length lists = omega (arith, c.len.ensures) in
    map-set (λ list. list.items) lists at c.push.new.self
    ∙ ap (set (map (λ list. list.items) lists) at)
    (c.in_ok-push.ensures.items
    ∙ ap (λ (l : List ℕ). l ++ c.args.place ∷ []) (ap (λ list. list.items) c.index_mut.ensures.value ∙ sym (get_or-map (λ list. list.items) lists at c.index_mut.result.now [] here)))
