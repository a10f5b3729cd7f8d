use Rattle.std.proofs.Common.{◌≡◌, ◌∙◌, length, ap, arith}
use Rattle.std.proofs.lemmas.List.{get_or_read}
use Rattle.dt_live.specs.Rows.{no_property, property_at}
use Rattle.dt_live.specs.Private.Lists.{list_of}
use Rattle.dt_live.specs.Private.Walks.{properties_to}
use Rattle.dt_live.proofs.KidSteps.{own-more}
use Rattle.dt_live.proofs.preorder.properties.rows_by_node.Goals as goal

pub loop-place-init : goal.loop-place-init
loop-place-init g c = record { count = c.in_ok-lists.ensures.count; lists = c.in_ok-lists.ensures.none }

pub push-requires : goal.push-requires
push-requires g c =
    let k = c.loop-place.place in
    let row : c.index-rows-place.result ≡ property_at c.args.rows.now k = get_or_read c.args.rows.now k c.index-rows-place.result c.loop-place-test.true c.index-rows-place.is no_property in
    omega (arith, ap (λ x. x.node) row, c.requires k c.loop-place-test.true, c.loop-place.invariant.count)

pub loop-place-preserved : goal.loop-place-preserved
loop-place-preserved g c =
    let rows = c.args.rows.now in
    let k = c.loop-place.place in
    let row : c.index-rows-place.result ≡ property_at rows k = get_or_read rows k c.index-rows-place.result c.loop-place-test.true c.index-rows-place.is no_property in
    record {
      count = c.in_ok-push.ensures.count ∙ c.loop-place.invariant.count;
      lists = λ n. c.in_ok-push.ensures.lists n ∙ own-more rows k n c.index-rows-place.result row (list_of c.loop-place.lists n) (c.loop-place.invariant.lists n);
    }

pub returns-clause-count : goal.returns-clause-count
returns-clause-count g c = c.loop-place.invariant.count

pub returns-clause-lists : goal.returns-clause-lists
returns-clause-lists g c n =
    let rows = c.args.rows.now in
    let all : c.loop-place.place ≡ length rows = omega (arith, c.loop-place-test.false, c.loop-place.auto.place-end) in
    c.loop-place.invariant.lists n ∙ ap (λ j. properties_to rows j n) all
