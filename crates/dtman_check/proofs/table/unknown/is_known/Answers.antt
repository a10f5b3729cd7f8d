use Rattle.std.proofs.Common.{◌∙◌, ℕ, ◌≤◌, sym, ap, arith}
use Rattle.std.specs.Prelude.{is_some, bytes_eq}
use Rattle.dtman_check.proofs.RowLemmas.{rows-before, rows-behind, rows-more, rows-found}
use Rattle.dtman_check.proofs.table.unknown.is_known.Goals as goal

pub loop-place-init : goal.loop-place-init
loop-place-init c = record {
  behind = omega arith;
  passed = λ list own. rows-before c.args.reference.now list c.args.places (λ known. bytes_eq known c.args.name.now) own;
}

pub returns-then-has_name : goal.returns-then-has_name
returns-then-has_name c = λ list own.
    sym (ap is_some (c.loop-place.invariant.passed list own
    ∙ rows-found c.args.reference.now list c.args.places (λ known. bytes_eq known c.args.name.now) own c.loop-place.place
    c.loop-place.invariant.behind c.loop-place-test.true (sym c.has_name.ensures ∙ c.if-has_name.true)))

pub loop-place-preserved : goal.loop-place-preserved
loop-place-preserved c =
    let place : ℕ = c.loop-place.place in
    let behind : c.args.places.first ≤ place = c.loop-place.invariant.behind in
    record {
      behind = omega arith;
      passed = λ list own.
          c.loop-place.invariant.passed list own
          ∙ rows-more c.args.reference.now list c.args.places (λ known. bytes_eq known c.args.name.now) own place
          (sym c.has_name.ensures ∙ c.if-has_name.false);
    }

pub returns : goal.returns
returns c = λ list own.
    sym (ap is_some (c.loop-place.invariant.passed list own
    ∙ rows-behind c.args.reference.now list c.args.places (λ known. bytes_eq known c.args.name.now) own c.loop-place.place
    c.loop-place-test.false))
