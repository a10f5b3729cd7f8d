use Rattle.std.proofs.Common.{◌∙◌, ◌&&◌, not, sym, ap}
use Rattle.dt_live.specs.Rows.{node_path}
use Rattle.dt_source.specs.TreeMeaning.DtcPhandles.{asks_for_own}
use Rattle.dt_build.specs.Resolve.Founds.{found_property}
use Rattle.dt_build.proofs.fixup_sites.gives_sites.Goals as goal

pub returns-then-not-draft : goal.returns-then-not-draft
returns-then-not-draft c =
    let e = found_property (node_path c.args.draft.now.live) c.args.property.now c.args.targets.now in
    sym (ap (λ b. not (b && asks_for_own e)) c.if-not-draft.true)

pub asks_for_own-requires-clause-apart : goal.asks_for_own-requires-clause-apart
asks_for_own-requires-clause-apart c = c.requires.apart c.if-not-draft.false

pub returns : goal.returns
returns c =
    let e = found_property (node_path c.args.draft.now.live) c.args.property.now c.args.targets.now in
    ap not c.asks_for_own.ensures ∙ sym (ap (λ b. not (b && asks_for_own e)) c.if-not-draft.false)
