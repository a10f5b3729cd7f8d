use Rattle.std.proofs.Common.{◌++◌, ◌∷◌, [], sym, ap, ◌∙◌}
use Rattle.dt_tree.specs.Path.{path_text}
use Rattle.dt_source.specs.TreeMeaning.Fixups.{site_text}
use Rattle.dt_live.specs.Rows.{node_path, path_of}
use Rattle.dt_build.specs.Private.FixupSites.{open_label, site_with}
use Rattle.dt_build.proofs.Sites.{key-read}
use Rattle.dt_build.proofs.SiteTexts.{text-put}
use Rattle.dt_build.proofs.fixups_by_label.append_text.Goals as goal

pub returns : goal.returns
returns c =
    let p = c.args.draft.now in
    let s = c.args.site in
    let x = c.index-property.result.now in
    let label = open_label s.reference in
    let v0 = c.args.text.now.items in
    text-put (node_path p.live x.node) x.name.now s.offset label v0 c.append_path.new.value.items c.pop.new.self.items c.push.new.self.items c.extend_from_slice.new.self.items c.push-2.new.self.items c.append_digits.new.text.items c.push-3.new.self.items
    c.append_path.new.value.len (sym c.append_path.new.value.ok.0)
    (c.in_ok-append_path.ensures ∙ ap (λ rs. v0 ++ (path_text (path_of rs x.node) ++ 0 ∷ [])) c.nodes.ensures) c.pop.ensures.rest c.in_ok-push.ensures.items c.in_ok-extend_from_slice.ensures.items c.in_ok-push-2.ensures.items
    c.in_ok-append_digits.ensures c.in_ok-push-3.ensures.items
    ∙ ap (λ k. v0 ++ site_text (site_with k.path k.name s.offset label)) (sym (key-read p s.property x c.requires.place c.index-property.ensures))
