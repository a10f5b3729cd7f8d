use Rattle.std.proofs.Common.{◌≡◌, [], ◌∷◌, ◌++◌, map, sym, ap, ◌∙◌, subst}
use Rattle.dt_tree.proofs.PathTexts.{path_text-path_names}
use Rattle.dt_source.specs.declared.tree.Reference.{Reference}
use Rattle.dt_source.specs.Lawful.{IsLawfulTarget}
use Rattle.dt_source.specs.Tree.{part_view, target_view}
use Rattle.dt_source.specs.TreeMeaning.Statements.{target_value}
use Rattle.dt_source.specs.TreeMeaning.Syntax.{Plain}
use Rattle.dt_build.proofs.edit.fragments.target_value.Goals as goal
use Rattle.dt_build.proofs.edit.fragments.target_value.Goals.{in-Label, in-Path+in_ok-path_bytes-in-Path}

pub returns : goal.returns
returns c =
    let whole : c.push.new.self.items ≡ c.match-target.part ∷ [] = c.in_ok-push.ensures.items ∙ ap (λ xs. xs ++ c.match-target.part ∷ []) c.in_ok-parts.ensures.items in
    ap (map part_view) whole ∙ (elim c.match-target.branch [
      | in-Label w ↦ ap (λ p. part_view p ∷ []) w.part-is ∙ ap (λ t. target_value (target_view t)) (sym w.in-Label.is)
      | in-Path+in_ok-path_bytes-in-Path w ↦
          let lawful = subst (λ (t : Reference). IsLawfulTarget (target_view t)) w.in-Path.is c.requires in
          ap (λ p. part_view p ∷ []) w.part-is
          ∙ ap (λ bs. Plain bs ∷ []) (w.in_ok-path_bytes-in-Path.ensures ∙ ap (λ t. t ++ 0 ∷ []) (sym (path_text-path_names w.in-Path.path.now lawful)))
          ∙ ap (λ t. target_value (target_view t)) (sym w.in-Path.is)
    ])
