use Rattle.std.proofs.Common.{◌∙◌, ap}
use Rattle.dt_tree.specs.Path.{path_names}
use Rattle.dt_source.specs.TreeMeaning.Paths.{Path}
use Rattle.dt_source.specs.OverlayMeaning.Shifted.{site, take_site}
use Rattle.dt_overlay.proofs.FixupLemmas.TakenSiteLaws.{site-missing}
use Rattle.dt_overlay.proofs.FixupLemmas.SymbolLaws.{path-nowhere}
use Rattle.dt_overlay.proofs.fixup.taken_sites.take_named_site.Goals as goal

pub returns-in_default-clause-step : goal.returns-in_default-clause-step
returns-in_default-clause-step c =
    let s = c.args.patched.now in
    let p = c.args.fixup.site in
    site-missing s c.check.ensures (path_names p.path.now) p.name.now p.offset (path-nowhere s.live c.check.ensures.whole (path_names p.path.now) c.in_default.ensures.path)

pub returns-clause-step : goal.returns-clause-step
returns-clause-step c = λ x at.
    let p = c.args.fixup.site in
    let took = c.in_ok-row.ensures.step x at in
    (took.0, ap (λ (q : Path). take_site (site q p.name.now p.offset) x) c.in-Some.ensures.path.1 ∙ took.1, took.2)
