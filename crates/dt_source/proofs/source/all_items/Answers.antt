use Rattle.std.proofs.Common.{◌≡◌, ◌++◌, ◌∷◌, [], Ok, Option, ◌∙◌, ap}
use Rattle.std.specs.Prelude.{map, option_map}
use Rattle.std.proofs.lemmas.Result.{err_from_is_err_and}
use Rattle.std.proofs.lemmas.List.{map_push}
use Rattle.dt_source.specs.declared.tree.Item.{Item}
use Rattle.dt_source.specs.Tree.{item_view}
use Rattle.dt_source.specs.Reading.Whole.{all_items_at}
use Rattle.dt_source.proofs.SourceLoops.{items_begin, items_more, items_end, items_fail}
use Rattle.dt_source.proofs.source.all_items.Goals as goal

pub items-init : goal.items-init
items-init c = rw (c.new-items.ensures.items) (items_begin c.args.language c.args.text.now c.args.ts.now)

pub returns-in_err-found : goal.returns-in_err-found
returns-in_err-found c =
    let p = err_from_is_err_and c.from_residual.result c.from_residual.ensures.1 in
    let so_far = c.items.invariant in
    rw (p.1, p.2) (items_fail c.args.language c.args.text.now so_far.0 c.items.left.now (map item_view c.items.items.items) c.items.first c.in_err-found.field-0.0 (all_items_at c.args.language c.args.text.now c.args.ts.now) c.in_err-found.ensures.gives so_far.1 so_far.2)

pub returns-in-None : goal.returns-in-None
returns-in-None c =
    let so_far = c.items.invariant in
    let found = c.in_ok-found.ensures.gives ∙ ap (λ (o : Option Item). Ok (option_map item_view o, c.in_ok-found.field-0.fault, c.in_ok-found.field-0.rest.now)) c.in-None.is in
    rw (c.earlier-first.ensures) (items_end c.args.language c.args.text.now so_far.0 c.items.left.now (map item_view c.items.items.items) c.items.first c.in_ok-found.field-0.fault c.in_ok-found.field-0.rest.now (all_items_at c.args.language c.args.text.now c.args.ts.now) found so_far.1 so_far.2)

pub items-preserved : goal.items-preserved
items-preserved c =
    let so_far = c.items.invariant in
    let found = c.in_ok-found.ensures.gives ∙ ap (λ (o : Option Item). Ok (option_map item_view o, c.in_ok-found.field-0.fault, c.in_ok-found.field-0.rest.now)) c.in-Some.is in
    let less = rw c.in-Some.is at c.in_ok-found.ensures.shorter in
    let items : map item_view c.push.new.self.items ≡ map item_view c.items.items.items ++ item_view c.in-Some.found ∷ [] = rw c.in_ok-push-in-Some.ensures.items (map_push item_view c.items.items.items c.in-Some.found) in
    rw (items, c.earlier-first.ensures) (items_more c.args.language c.args.text.now so_far.0 c.items.left.now (map item_view c.items.items.items) c.items.first (item_view c.in-Some.found) c.in_ok-found.field-0.fault c.in_ok-found.field-0.rest.now (all_items_at c.args.language c.args.text.now c.args.ts.now) found less so_far.1 so_far.2)
