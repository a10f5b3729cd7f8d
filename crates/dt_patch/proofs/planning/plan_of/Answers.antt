use Rattle.std.proofs.Common.{◌≡◌, ℕ, Some, refl, ap, sym, ◌∙◌, arith}
use Rattle.std.proofs.lemmas.Result.{err_from_is_err_and}
use Rattle.dt_blob.proofs.Laying.{in_place}
use Rattle.dt_patch.specs.View.Reserved.{reserved_size}
use Rattle.dt_patch.specs.Order.{is_ordered}
use Rattle.dt_patch.proofs.planning.plan_of.Goals as goal

some_same : (x y : ℕ) → Some x ≡ Some y → x ≡ y
some_same x y e = cc e

pub returns-clause-plan : goal.returns-clause-plan
returns-clause-plan c = record {
  is_plan = record {
    fault = c.requires.fault;
    over = c.requires.over;
    seen = c.requires.seen;
    reserved = c.in-Some.reserved;
    sized = λ tree v. some_same _ _ (c.in-Some.ensures.size tree v);
    order = c.in_ok-ordered_structure.ensures.1;
    layout = c.layout_of.ensures;
    lies = c.requires.inside;
  };
  same_span = refl;
}

pub returns-clause-fault : goal.returns-clause-fault
returns-clause-fault c = λ tree h.
    let reserved : c.in-Some.reserved ≡ reserved_size tree.reserves = some_same _ _ (c.in-Some.ensures.size tree (c.requires.seen tree h)) in
    ap (is_ordered c.args.blob.now) (sym reserved) ∙ c.in_ok-ordered_structure.ensures.1

pub returns-in_err-ordered_structure-clause-fault : goal.returns-in_err-ordered_structure-clause-fault
returns-in_err-ordered_structure-clause-fault c =
    let p = err_from_is_err_and c.from_residual.result c.from_residual.ensures.1 in
    λ tree h.
    let reserved : c.in-Some.reserved ≡ reserved_size tree.reserves = some_same _ _ (c.in-Some.ensures.size tree (c.requires.seen tree h)) in
    rw (p.1, p.2) (c.in_err-ordered_structure.ensures.0, ap (is_ordered c.args.blob.now) (sym reserved) ∙ c.in_err-ordered_structure.ensures.1)

pub layout_of-requires : goal.layout_of-requires
layout_of-requires c = let w = (in_place c.args.blob.now c.requires.fault).whole in omega (arith, w)
