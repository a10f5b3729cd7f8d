use Rattle.std.proofs.Common.{◌≡◌, ℕ, false, true, Some, None, ap, sym, ◌∙◌, arith}
use Rattle.std.proofs.lemmas.Result.{err_from_is_err_and}
use Rattle.dt_patch.specs.View.Reserved.{reserved_size}
use Rattle.dt_patch.specs.Order.{is_ordered}
use Rattle.dt_patch.specs.Setting.{value_fault}
use Rattle.dt_patch.proofs.Found.{by_length, same_length, then_ordered, then_unordered, told_first}
use Rattle.dt_patch.proofs.Values.{value_there}
use Rattle.dt_patch.proofs.placing.value_place.Goals as goal

some_same : (x y : ℕ) → Some x ≡ Some y → x ≡ y
some_same x y e = cc e

pub returns-clause-place : goal.returns-clause-place
returns-clause-place c =
    value_there c.args.blob.now c.args.path.now c.args.name.now c.in-Ok.view c.in_ok-place.place c.in-Some.reserved c.args.size c.in_ok-structure_at.structure_at
    c.in-Ok.ensures.fault c.in-Ok.ensures.blocks c.in_ok-place.ensures.placed c.in_ok-place.ensures.stands (λ tree h. c.in-Ok.ensures.shown tree (c.held_is_shown.ensures c.args.blob.now tree h))
    (λ tree v. some_same _ _ (c.in-Some.ensures.size tree v)) (omega arith) c.in_ok-structure_at.ensures.0 c.in_ok-structure_at.ensures.1

pub returns-in-Err-clause-fault : goal.returns-in-Err-clause-fault
returns-in-Err-clause-fault c = λ tree h. absurd (c.in-Err.ensures.shown tree (c.held_is_shown.ensures c.args.blob.now tree h))

pub returns-in_err-place-clause-fault : goal.returns-in_err-place-clause-fault
returns-in_err-place-clause-fault c =
    let p = err_from_is_err_and c.from_residual.result c.from_residual.ensures.1 in
    λ tree h. rw (p.1, p.2) (told_first _ _ _ (c.in_err-place.ensures.stands tree (c.in-Ok.ensures.shown tree (c.held_is_shown.ensures c.args.blob.now tree h)) c.args.size))

pub returns-in_err-structure_at-clause-fault : goal.returns-in_err-structure_at-clause-fault
returns-in_err-structure_at-clause-fault c =
    let p = err_from_is_err_and c.from_residual-in_err-structure_at.result c.from_residual-in_err-structure_at.ensures.1 in
    λ tree h.
    let v = c.in-Ok.ensures.shown tree (c.held_is_shown.ensures c.args.blob.now tree h) in
    let q = c.in_ok-place.ensures.stands tree v in
    let value = c.in_ok-place.place.value.now in
    let fault : value_fault tree.root c.args.path.now c.args.name.now c.args.size ≡ None =
    by_length tree.root q.node c.args.path.now c.args.name.now value c.args.size q.is_path q.there q.value ∙ same_length value c.args.size (omega arith) in
    let reserved : c.in-Some.reserved ≡ reserved_size tree.reserves = some_same _ _ (c.in-Some.ensures.size tree v) in
    let order : is_ordered c.args.blob.now (reserved_size tree.reserves) ≡ false = ap (is_ordered c.args.blob.now) (sym reserved) ∙ c.in_err-structure_at.ensures.1 in
    rw (p.1, p.2) (then_unordered _ _ fault order ∙ ap Some (sym c.in_err-structure_at.ensures.0))

pub returns-clause-fault : goal.returns-clause-fault
returns-clause-fault c = λ tree h.
    let v = c.in-Ok.ensures.shown tree (c.held_is_shown.ensures c.args.blob.now tree h) in
    let q = c.in_ok-place.ensures.stands tree v in
    let value = c.in_ok-place.place.value.now in
    let fault : value_fault tree.root c.args.path.now c.args.name.now c.args.size ≡ None =
    by_length tree.root q.node c.args.path.now c.args.name.now value c.args.size q.is_path q.there q.value ∙ same_length value c.args.size (omega arith) in
    let reserved : c.in-Some.reserved ≡ reserved_size tree.reserves = some_same _ _ (c.in-Some.ensures.size tree v) in
    let order : is_ordered c.args.blob.now (reserved_size tree.reserves) ≡ true = ap (is_ordered c.args.blob.now) (sym reserved) ∙ c.in_ok-structure_at.ensures.1 in
    then_ordered _ _ fault order

pub overflow_add-result-2 : goal.overflow_add-result-2
overflow_add-result-2 c =
    let i =
    (value_there c.args.blob.now c.args.path.now c.args.name.now c.in-Ok.view c.in_ok-place.place c.in-Some.reserved c.args.size c.in_ok-structure_at.structure_at
    c.in-Ok.ensures.fault c.in-Ok.ensures.blocks c.in_ok-place.ensures.placed c.in_ok-place.ensures.stands (λ tree h. c.in-Ok.ensures.shown tree (c.held_is_shown.ensures c.args.blob.now tree h))
    (λ tree v. some_same _ _ (c.in-Some.ensures.size tree v)) (omega arith) c.in_ok-structure_at.ensures.0 c.in_ok-structure_at.ensures.1).inside in
    omega (arith, i)
