-- The names above, and then the node's own.
use Rattle.std.proofs.Common.{◌≡◌, ◌∙◌, ap, sym, ℕ, ◌-◌, List, [], ◌∷◌, ◌++◌, Some, arith}
use Rattle.dt_check.specs.Nodes.{above_at}
use Rattle.dt_questions.specs.Paths.{name_at, names_within}
use Rattle.dt_questions.proofs.StepLemmas.{names-on, behind-slash}
use Rattle.dt_questions.proofs.paths.+add_names.Goals as goal

pub returns : goal.returns
returns t c =
    let nodes = c.args.survey.now in
    let before = c.args.text.now.items in
    let names = names_within nodes (c.args.levels - 1) c.in-Some.above in
    let up : above_at nodes c.args.place ≡ Some c.in-Some.above = sym c.above.ensures ∙ c.in-Some.is in
    let on = names-on nodes c.args.levels c.args.place c.in-Some.above (omega arith) up in
    c.in_ok-extend_from_slice.ensures.items
    ∙ ap (λ (p : List ℕ). p ++ c.name_at.result.now) (c.in_ok-push.ensures.items ∙ ap (λ (a : List ℕ). a ++ 47 ∷ []) c.in_ok-add_names.ensures)
    ∙ ap (λ (m : List ℕ). ((before ++ names) ++ 47 ∷ []) ++ m) c.name_at.ensures
    ∙ behind-slash before names (name_at nodes c.args.place) ∙ ap (λ (m : List ℕ). before ++ m) (sym on)
