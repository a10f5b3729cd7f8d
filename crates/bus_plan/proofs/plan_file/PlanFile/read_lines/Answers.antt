-- Each line is read behind those before it.
use Rattle.std.proofs.Common.{inl, inr, ⊎_elim}
use Rattle.std.proofs.lemmas.Result.{err_from_is_err_and}
use Rattle.bus_plan.proofs.PlanFileLemmas.{IsReadTo-at, read-line, read-fault, read-all}
use Rattle.bus_plan.proofs.plan_file.PlanFile.read_lines.Goals as goal

pub returns-in_err-read_line-clause-err : goal.returns-in_err-read_line-clause-err
returns-in_err-read_line-clause-err c =
    let walk = IsReadTo-at _ _ _ _ _ c.loop-line.invariant c.in-Some.ensures.steps in
    let p = err_from_is_err_and c.from_residual.result c.from_residual.ensures.1 in
    rw (p.1, p.2)
    (⊎_elim (λ none. inl none) (λ bad. inr (read-fault _ _ _ _ _ _ walk bad)) c.in_err-read_line.ensures.err)

pub loop-line-preserved : goal.loop-line-preserved
loop-line-preserved c =
    let walk = IsReadTo-at _ _ _ _ _ c.loop-line.invariant c.in-Some.ensures.steps in
    let read = c.in_ok-read_line.ensures in
    read-line _ _ _ _ _ _ walk read.fault read.devices read.lists

pub returns-clause-ok : goal.returns-clause-ok
returns-clause-ok c = read-all _ _ _ (IsReadTo-at _ _ _ _ _ c.loop-line.invariant c.in-None.ensures.steps.0)
