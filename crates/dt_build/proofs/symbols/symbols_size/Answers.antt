use Rattle.std.proofs.Common.{◌-◌, ◌^◌, ◌++◌, ◌∷◌, [], length, min, sym, ap, ◌∙◌}
use Rattle.dt_tree.specs.Path.{path_text}
use Rattle.dt_live.specs.Rows.{is_standing, label_at, node_path, path_of}
use Rattle.dt_live.specs.Builder.Sizes.{size_in}
use Rattle.dt_build.proofs.MakingLabels.{size-more, symbols-same}
use Rattle.dt_build.proofs.symbols.symbols_size.Goals as goal
use Rattle.dt_build.proofs.symbols.symbols_size.Goals.{then-is_in_tree, else-is_in_tree}

pub loop-label-preserved : goal.loop-label-preserved
loop-label-preserved c =
    let d = c.args.draft.now.live in
    let rows = c.labels-label-items.result.now in
    let k = c.loop-label.label-index in
    elim c.if-is_in_tree.branch [
      | then-is_in_tree w ↦
          size-more (node_path d) (is_standing d) rows k c.loop-label-test.true (sym c.is_in_tree.ensures ∙ w.if-is_in_tree.true)
          c.loop-label.size w.path_size.result c.if-is_in_tree.size c.loop-label.invariant
          (w.path_size.ensures ∙ ap (λ rs. min (length (path_text (path_of rs (label_at rows k).node) ++ 0 ∷ [])) (2 ^ 64 - 1)) w.nodes.ensures) (w.size-is ∙ w.saturating_add-size.ensures)
      | else-is_in_tree w ↦
          w.size-is ∙ c.loop-label.invariant
          ∙ ap (λ es. min (size_in es) (2 ^ 64 - 1)) (sym (symbols-same (node_path d) (is_standing d) rows k c.loop-label-test.true (sym c.is_in_tree.ensures ∙ w.if-is_in_tree.false)))
    ]
