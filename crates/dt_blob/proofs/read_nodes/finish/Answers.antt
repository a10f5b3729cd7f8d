use Rattle.std.proofs.Common.{◌≡◌, Bool, true, false, ◌∷◌, length, ◌<◌, ap, sym, ◌∙◌, arith}
use Rattle.std.proofs.lemmas.Bool.Decides.{nat_tests}
use Rattle.dt_blob.specs.Steps.NodeBuilders.{state_of, root_from}
use Rattle.dt_blob.specs.Steps.Reading.{left}
use Rattle.dt_blob.specs.Token.{end}
use Rattle.dt_blob.proofs.Stepping.{some_left, end_begun, end_inside, end_behind}
use Rattle.dt_blob.proofs.read_nodes.finish.Goals as goal
use Rattle.dt_blob.proofs.read_nodes.finish.Goals.{else-is_sized-via-then-is_sized+else-not-is_empty, else-is_sized-via-else-is_sized}

pub returns-then-not-is_empty : goal.returns-then-not-is_empty
returns-then-not-is_empty c =
    let more : 0 < length c.args.rest.now = grind (arith, nat_tests, c.is_empty.ensures, c.if-not-is_empty.true) in
    rw c.refused.ensures.kind (ap (λ (b : Bool). root_from (state_of c.args.progress) (end ∷ left b c.args.rest.now)) c.if-is_sized.true ∙ some_left (state_of c.args.progress) c.args.rest.now more)

pub returns-in-Nothing : goal.returns-in-Nothing
returns-in-Nothing c = rw (c.in-Nothing.is, c.refused-in-Nothing.ensures.kind) (end_begun _)

pub returns-in-Inside : goal.returns-in-Inside
returns-in-Inside c = rw (c.in-Inside.is, c.refused-in-Inside.ensures.kind) (end_inside _ _ _)

pub returns : goal.returns
returns c =
    let none : c.args.is_sized ≡ true → length c.args.rest.now ≡ 0 = elim c.else-is_sized.branch [
      | else-is_sized-via-then-is_sized+else-not-is_empty w ↦ λ _. grind (arith, nat_tests, w.is_empty.ensures, w.if-not-is_empty.false)
      | else-is_sized-via-else-is_sized w ↦ λ s. absurd (let bad : false ≡ true = sym w.if-is_sized.false ∙ s in cc)
    ] in
    rw (c.in-Behind.is) (end_behind _ _ _ none)
