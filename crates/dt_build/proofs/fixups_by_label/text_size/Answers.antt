use Rattle.std.proofs.Common.{◌-◌, ◌^◌, ◌++◌, ◌∷◌, [], length, min, ap, ◌∙◌, sym}
use Rattle.dt_tree.specs.Path.{path_text}
use Rattle.dt_source.specs.TreeMeaning.Fixups.{site_text}
use Rattle.dt_live.specs.Rows.{node_path, path_of}
use Rattle.dt_build.specs.Private.FixupSites.{open_label, site_with}
use Rattle.dt_build.proofs.SiteSizes.{text-sum}
use Rattle.dt_build.proofs.Sites.{key-read}
use Rattle.dt_build.proofs.fixups_by_label.text_size.Goals as goal

pub returns : goal.returns
returns c =
    let p = c.args.draft.now in
    let s = c.args.site in
    let x = c.index-property.result.now in
    let label = open_label s.reference in
    text-sum (node_path p.live x.node) x.name.now s.offset label c.path_size-path_bytes.result c.digits_size.result c.saturating_add-name.result c.saturating_add.result
    (c.path_size-path_bytes.ensures ∙ ap (λ rs. min (length (path_text (path_of rs x.node) ++ 0 ∷ [])) (2 ^ 64 - 1)) c.nodes.ensures) c.digits_size.ensures.size c.saturating_add-name.ensures c.saturating_add.ensures
    ∙ ap (λ k. min (length (site_text (site_with k.path k.name s.offset label))) (2 ^ 64 - 1)) (sym (key-read p s.property x c.requires.place c.index-property.ensures))
