use Rattle.std.proofs.Common.{◌≡◌, ◌∙◌, length, ap, sym, arith}
use Rattle.std.proofs.lemmas.List.{get_or_default}
use Rattle.dt_live.specs.Rows.{no_row}
use Rattle.dt_live.specs.Private.Walks.{children_to}
use Rattle.dt_live.proofs.BlankRows.{blank_row}
use Rattle.dt_live.specs.Private.Lists.{list_count, list_of}
use Rattle.dt_live.proofs.KidSteps.{kids-more, kids-same}
use Rattle.dt_live.proofs.preorder.children.children.Goals as goal
use Rattle.dt_live.proofs.preorder.children.children.Goals.{then-not-row+in_ok-push, else-not-row}

pub loop-place-preserved : goal.loop-place-preserved
loop-place-preserved c =
    let rows = c.args.nodes.now in
    let k = c.loop-place.place in
    elim c.if-not-row.branch [
      | then-not-row+in_ok-push w ↦ record {
        count = ap list_count w.lists-is ∙ w.in_ok-push.ensures.count ∙ c.loop-place.invariant.count;
        lists = λ n.
            ap (λ ls. list_of ls n) w.lists-is ∙ w.in_ok-push.ensures.lists n
            ∙ kids-more rows k n c.loop-place-test.true (list_of c.loop-place.lists n) (c.loop-place.invariant.lists n) w.if-not-row.true;
      }
      | else-not-row w ↦ record {
        count = ap list_count w.lists-is ∙ c.loop-place.invariant.count;
        lists = λ n. ap (λ ls. list_of ls n) w.lists-is ∙ c.loop-place.invariant.lists n ∙ sym (kids-same rows k n c.loop-place-test.true w.if-not-row.false);
      }
    ]

pub loop-place-init : goal.loop-place-init
loop-place-init c = record { count = c.in_ok-lists.ensures.count; lists = c.in_ok-lists.ensures.none }

pub push-requires : goal.push-requires
push-requires c =
    let rows = c.args.nodes.now in
    let k = c.loop-place.place in
    let row = get_or_default rows k blank_row no_row c.loop-place-test.true in
    omega (arith, ap (λ x. x.parent) row, c.requires k, c.loop-place.invariant.count, c.loop-place-test.true)

pub returns-clause-count : goal.returns-clause-count
returns-clause-count c = c.loop-place.invariant.count

pub returns-clause-lists : goal.returns-clause-lists
returns-clause-lists c n =
    let rows = c.args.nodes.now in
    let all : c.loop-place.place ≡ length rows = omega (arith, c.loop-place-test.false, c.loop-place.auto.place-end) in
    c.loop-place.invariant.lists n ∙ ap (λ j. children_to rows j n) all
