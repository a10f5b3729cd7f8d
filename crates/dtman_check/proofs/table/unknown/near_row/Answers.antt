use Rattle.std.proofs.Common.{◌∙◌, ℕ, ◌≤◌, sym, arith}
use Rattle.dtman_check.specs.Table.Unknown.{is_near}
use Rattle.dtman_check.proofs.RowLemmas.{rows-before, rows-behind, rows-more, rows-found}
use Rattle.dtman_check.proofs.table.unknown.near_row.Goals as goal

pub loop-place-init : goal.loop-place-init
loop-place-init c = record {
  behind = omega arith;
  passed = λ list own. rows-before c.args.reference.now list c.args.places (λ known. is_near known c.args.name.now) own;
}

pub returns-then-has_near : goal.returns-then-has_near
returns-then-has_near c = λ list own.
    sym (c.loop-place.invariant.passed list own
    ∙ rows-found c.args.reference.now list c.args.places (λ known. is_near known c.args.name.now) own c.loop-place.place
    c.loop-place.invariant.behind c.loop-place-test.true (sym c.has_near.ensures ∙ c.if-has_near.true))

pub loop-place-preserved : goal.loop-place-preserved
loop-place-preserved c =
    let place : ℕ = c.loop-place.place in
    let behind : c.args.places.first ≤ place = c.loop-place.invariant.behind in
    record {
      behind = omega arith;
      passed = λ list own.
          c.loop-place.invariant.passed list own
          ∙ rows-more c.args.reference.now list c.args.places (λ known. is_near known c.args.name.now) own place
          (sym c.has_near.ensures ∙ c.if-has_near.false);
    }

pub returns : goal.returns
returns c = λ list own.
    sym (c.loop-place.invariant.passed list own
    ∙ rows-behind c.args.reference.now list c.args.places (λ known. is_near known c.args.name.now) own c.loop-place.place
    c.loop-place-test.false)
