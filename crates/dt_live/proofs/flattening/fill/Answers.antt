use Rattle.std.proofs.Common.{◌≡◌, ap, ap₂, ◌∙◌, [], subst}
use Rattle.dt_tree.specs.Sound.{IsSound}
use Rattle.dt_live.specs.Builder.Lists.{lists_of}
use Rattle.dt_live.specs.Flattened.{lists}
use Rattle.dt_live.specs.Private.Flattening.{with_tree}
use Rattle.dt_live.proofs.Behind.{tree-listed}
use Rattle.dt_live.proofs.FlattenedTrees.{flattening}
use Rattle.dt_live.proofs.Steps.{seen}
use Rattle.dt_live.proofs.flattening.fill.Goals as goal

pub returns : goal.returns
returns c =
    let d = c.flatten_node.new.live in
    let b = c.args.tree.now.root in
    let e = c.in_ok-flatten_node.ensures in
    let root = c.root-root.ensures in
    let same : lists d ≡ lists_of b = e.lists ∙ ap₂ (λ t s. with_tree [] t (seen s)) root c.requires.empty ∙ tree-listed b (subst IsSound root c.check.ensures) in
    flattening d b e.sound (subst IsSound root c.check.ensures) (e.rows c.requires.rows) (e.labels ∙ ap (λ s. s.labels) c.requires.empty) same
