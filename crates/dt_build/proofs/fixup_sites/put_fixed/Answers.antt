use Rattle.std.proofs.Common.{◌∙◌, ◌++◌, [], List, map, if◌then◌else◌, sym, ap, append-nil}
use Rattle.dt_source.specs.TreeMeaning.Fixups.{sites_in}
use Rattle.dt_live.specs.Rows.{node_path}
use Rattle.dt_source.specs.declared.tree.Part.{Part}
use Rattle.dt_build.specs.Resolve.Founds.{found_property, founds_of}
use Rattle.dt_build.specs.Private.FixupSites.{key_at, site_of}
use Rattle.dt_build.specs.Private.Made.{all_phandles}
use Rattle.dt_build.proofs.fixup_sites.put_fixed.Goals as goal

pub returns-then-not-gives_sites-clause-sites : goal.returns-then-not-gives_sites-clause-sites
returns-then-not-gives_sites-clause-sites c =
    let p = c.args.draft.now in
    let e = found_property (node_path p.live) c.args.property.now c.args.targets.now in
    let old = map (site_of p) c.args.sites.now.items in
    sym (ap (λ b. old ++ (if b then sites_in (all_phandles p) e.path e.name 0 e.value else [])) (sym c.gives_sites.ensures ∙ c.if-not-gives_sites.true) ∙ append-nil old)

pub returns-clause-sites : goal.returns-clause-sites
returns-clause-sites c =
    let p = c.args.draft.now in
    let e = found_property (node_path p.live) c.args.property.now c.args.targets.now in
    let old = map (site_of p) c.args.sites.now.items in
    c.in_ok-put_sites.ensures.sites
    ∙ ap (λ (ps : List Part). old ++ sites_in (all_phandles p) (key_at p c.args.place).path (key_at p c.args.place).name 0 (founds_of (node_path p.live) ps c.args.targets.now)) c.as_slice.ensures.value
    ∙ ap (λ k. old ++ sites_in (all_phandles p) k.path k.name 0 e.value) c.requires.key
    ∙ sym (ap (λ b. old ++ (if b then sites_in (all_phandles p) e.path e.name 0 e.value else [])) (sym c.gives_sites.ensures ∙ c.if-not-gives_sites.false))
