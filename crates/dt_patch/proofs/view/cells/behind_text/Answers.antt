use Rattle.std.proofs.Common.{◌+◌, ℕ, Option, Some, ap, ◌∙◌, drop}
use Rattle.std.specs.Option.{option_map}
use Rattle.std.proofs.lemmas.List.{drop-drop}
use Rattle.dt_patch.proofs.view.cells.behind_text.Goals as goal

pub returns-in-Some : goal.returns-in-Some
returns-in-Some c =
    let place = c.in-Some.ensures.place in
    ap Some (c.behind-in-Some.ensures ∙ ap (drop 1) c.behind.ensures ∙ drop-drop 1 c.in-Some.end c.args.value.now) ∙ ap (λ (o : Option ℕ). option_map (λ end. drop (end + 1) c.args.value.now) o) place
