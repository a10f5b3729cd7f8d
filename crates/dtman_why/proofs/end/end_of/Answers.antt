-- Of the devices that are noted in a run, those that their drivers bind are the least set.
use Rattle.std.proofs.Common.{ℕ, List, Option, subst}
use Rattle.dtman_why.specs.End.{AreBound}
use Rattle.dtman_why.proofs.EndLemmas.{end-least}
use Rattle.dtman_why.proofs.end.end_of.Goals as goal

pub returns-in_ok-bound_places-in-Ok : goal.returns-in_ok-bound_places-in-Ok
returns-in_ok-bound_places-in-Ok g c =
    let plan = c.args.plan.now in
    let ran = c.in-Ok.ran in
    let bound = c.in_ok-bound_places-in-Ok.field-0.items in
    let are = subst (λ (notes : List (Option ℕ)). AreBound plan notes bound) c.as_slice.ensures.value c.in_ok-bound_places-in-Ok.ensures in
    end-least _ plan ran.report.items ran.notes.items bound c.in-Ok.ensures.ran are
