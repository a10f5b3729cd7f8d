use Rattle.std.proofs.Common.{◌++◌, ◌∷◌, [], ap, ◌∙◌}
use Rattle.dt_build.proofs.edit.fragments.path_bytes.Goals as goal

pub returns : goal.returns
returns c =
    c.in_ok-push.ensures.items
    ∙ ap (λ xs. xs ++ 0 ∷ []) (c.in_ok-extend_from_slice.ensures.items ∙ ap (λ xs. xs ++ c.args.path.now) c.in_ok-bytes.ensures.items)
