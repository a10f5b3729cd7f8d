use Rattle.std.proofs.Common.{◌≡◌, ℕ, Some, refl, ap, sym, ◌∙◌, arith}
use Rattle.std.proofs.lemmas.Result.{err_from_is_err_and}
use Rattle.dt_blob.proofs.Laying.{in_place}
use Rattle.dt_patch.specs.View.Reserved.{reserved_size}
use Rattle.dt_patch.specs.Order.{is_ordered}
use Rattle.dt_patch.proofs.reserving.list_of.Goals as goal

some_same : (x y : ℕ) → Some x ≡ Some y → x ≡ y
some_same x y e = cc e

pub returns-clause-list : goal.returns-clause-list
returns-clause-list c = record {
  view = c.in-Ok.view;
  planned = record {
    fault = c.in-Ok.ensures.fault;
    over = c.in-Ok.ensures.blocks;
    seen = λ tree h. c.in-Ok.ensures.shown tree (c.held_is_shown.ensures c.args.blob.now tree h);
    reserved = c.in-Some.size;
    sized = λ tree v. some_same _ _ (c.in-Some.ensures.size tree v);
    order = c.in_ok-ordered_structure.ensures.1;
    layout = c.layout_of.ensures;
    lies = record { first = omega arith; inside = omega arith };
  };
  size = refl;
  at = c.reserves_at.ensures;
}

pub returns-in-Err-clause-fault : goal.returns-in-Err-clause-fault
returns-in-Err-clause-fault c = λ tree h. absurd (c.in-Err.ensures.shown tree (c.held_is_shown.ensures c.args.blob.now tree h))

pub returns-in_err-ordered_structure-clause-fault : goal.returns-in_err-ordered_structure-clause-fault
returns-in_err-ordered_structure-clause-fault c =
    let p = err_from_is_err_and c.from_residual.result c.from_residual.ensures.1 in
    λ tree h.
    let v = c.in-Ok.ensures.shown tree (c.held_is_shown.ensures c.args.blob.now tree h) in
    let reserved : c.in-Some.size ≡ reserved_size tree.reserves = some_same _ _ (c.in-Some.ensures.size tree v) in
    rw (p.1, p.2) (c.in_err-ordered_structure.ensures.0, ap (is_ordered c.args.blob.now) (sym reserved) ∙ c.in_err-ordered_structure.ensures.1)

pub returns-clause-fault : goal.returns-clause-fault
returns-clause-fault c = λ tree h.
    let v = c.in-Ok.ensures.shown tree (c.held_is_shown.ensures c.args.blob.now tree h) in
    let reserved : c.in-Some.size ≡ reserved_size tree.reserves = some_same _ _ (c.in-Some.ensures.size tree v) in
    ap (is_ordered c.args.blob.now) (sym reserved) ∙ c.in_ok-ordered_structure.ensures.1

pub layout_of-requires : goal.layout_of-requires
layout_of-requires c = let w = (in_place c.args.blob.now c.in-Ok.ensures.fault).whole in omega (arith, w)

pub reserves_at-requires : goal.reserves_at-requires
reserves_at-requires c = let w = (in_place c.args.blob.now c.in-Ok.ensures.fault).whole in omega (arith, w)
