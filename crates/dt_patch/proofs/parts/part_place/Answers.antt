use Rattle.std.proofs.Common.{◌≡◌, ◌+◌, None, Some, ap, sym, ◌∙◌, refl, arith}
use Rattle.std.specs.Prelude.{Err}
use Rattle.std.proofs.lemmas.Result.{err_from_is_err_and}
use Rattle.dt_blob.specs.Token.{tokens_of}
use Rattle.dt_blob.proofs.Laying.{in_place}
use Rattle.dt_patch.specs.declared.error.PatchError.TheVariants.{BadOffset}
use Rattle.dt_patch.proofs.PartValues.{ahead_as, err_same, no_node_as, not_ok, part_at}
use Rattle.dt_patch.proofs.parts.part_place.Goals as goal

pub structure_at-requires : goal.structure_at-requires
structure_at-requires c = (in_place c.args.blob.now c.in-Ok.ensures.fault).whole

pub overflow_add-result-2 : goal.overflow_add-result-2
overflow_add-result-2 c =
    let from = c.structure_at.ensures in
    let here = part_at c.args.blob.now c.in-Ok.view c.args.node.at c.args.name.now c.args.index c.args.size
    (c.structure_at.result + c.in_ok-place.place.at + 12 + c.args.index) c.in_ok-place.place c.in-Ok.ensures.blocks c.in_ok-place.ensures.found (omega (arith, from)) in
    let room = here.room in
    omega (arith, room)

pub overflow_add-result-3 : goal.overflow_add-result-3
overflow_add-result-3 c =
    let from = c.structure_at.ensures in
    let here = part_at c.args.blob.now c.in-Ok.view c.args.node.at c.args.name.now c.args.index c.args.size
    (c.structure_at.result + c.in_ok-place.place.at + 12 + c.args.index) c.in_ok-place.place c.in-Ok.ensures.blocks c.in_ok-place.ensures.found (omega (arith, from)) in
    let room = here.room in
    omega (arith, room)

pub returns-clause-place : goal.returns-clause-place
returns-clause-place c =
    let from = c.structure_at.ensures in
    part_at c.args.blob.now c.in-Ok.view c.args.node.at c.args.name.now c.args.index c.args.size _ c.in_ok-place.place c.in-Ok.ensures.blocks c.in_ok-place.ensures.found (omega (arith, from))

pub returns-in-Err-clause-fault : goal.returns-in-Err-clause-fault
returns-in-Err-clause-fault c = λ f view d o a. absurd (cc (sym f ∙ c.in-Err.ensures.fault))

pub returns-in_err-place-clause-fault : goal.returns-in_err-place-clause-fault
returns-in_err-place-clause-fault c =
    let p = err_from_is_err_and c.from_residual.result c.from_residual.ensures.1 in
    λ f view d o a. rw (p.1, p.2) (c.in_err-place.ensures.fault d (ahead_as c.args.blob.now view c.in-Ok.view c.args.node.at (tokens_of d) o c.in-Ok.ensures.blocks a))

pub returns-clause-fault : goal.returns-clause-fault
returns-clause-fault c = λ f view d o a. c.in_ok-place.ensures.fault d (ahead_as c.args.blob.now view c.in-Ok.view c.args.node.at (tokens_of d) o c.in-Ok.ensures.blocks a)

pub returns-in-Err-clause-none : goal.returns-in-Err-clause-none
returns-in-Err-clause-none c = λ f view o n. absurd (cc (sym f ∙ c.in-Err.ensures.fault))

pub returns-in_err-place-clause-none : goal.returns-in_err-place-clause-none
returns-in_err-place-clause-none c =
    let p = err_from_is_err_and c.from_residual.result c.from_residual.ensures.1 in
    λ f view o n. p.1 ∙ ap Err (p.2 ∙ err_same _ BadOffset _ refl (c.in_err-place.ensures.none (no_node_as c.args.blob.now c.in-Ok.view view c.args.node.at c.in-Ok.ensures.blocks o n)))

pub returns-clause-none : goal.returns-clause-none
returns-clause-none c = λ f view o n. absurd (not_ok _ BadOffset _ refl (c.in_ok-place.ensures.none (no_node_as c.args.blob.now c.in-Ok.view view c.args.node.at c.in-Ok.ensures.blocks o n)))

pub returns-in-Err-clause-header : goal.returns-in-Err-clause-header
returns-in-Err-clause-header c = λ error f. cc (sym c.in-Err.ensures.fault ∙ f)

pub returns-in_err-place-clause-header : goal.returns-in_err-place-clause-header
returns-in_err-place-clause-header c = λ error f. absurd (cc (sym c.in-Ok.ensures.fault ∙ f))

pub returns-clause-header : goal.returns-clause-header
returns-clause-header c = λ error f. absurd (cc (sym c.in-Ok.ensures.fault ∙ f))
