use Rattle.std.proofs.Common.{◌<◌, ◌∙◌, drop, length, ap, subst, sym}
use Rattle.std.specs.Int.{to_be_bytes, w32}
use Rattle.dt_live.specs.declared.live_tree.LiveTree.{LiveTree}
use Rattle.dt_live.specs.Rows.{node_path}
use Rattle.dt_live.specs.Flattened.{Lent}
use Rattle.dt_source.specs.TreeMeaning.Paths.{Path}
use Rattle.dt_source.specs.OverlayMeaning.Shifted.{raise_at, site, write_at}
use Rattle.dt_overlay.specs.declared.fixup.fixed_nodes.FixedNode.{FixedNode}
use Rattle.dt_overlay.specs.Fixup.OverlayFault.{IsFault}
use Rattle.dt_overlay.specs.Fixup.PatchedOverlay.{value_at}
use Rattle.dt_overlay.specs.Fixup.Private.FixedNodes.{IsFixedNode}
use Rattle.dt_overlay.proofs.FixupLemmas.LocalSteps.{fixed_node-missing, missing-fault, raise-done, raise-refused, taken-value, written-site}
use Rattle.dt_overlay.proofs.FixupLemmas.LookUps.{row-there}
use Rattle.dt_overlay.proofs.fixup.local.raise_site.Goals as goal

pub returns-in_default-clause-step : goal.returns-in_default-clause-step
returns-in_default-clause-step c =
    let s = c.args.patched.now in
    let p = node_path s.live c.args.fixup.node in
    missing-fault s c.check.ensures (drop 1 p) c.args.fixup.name.now c.args.offset c.args.shift
    (fixed_node-missing s.live.nodes.items p c.args.fixup.fixed_node c.in_default.not-Node c.requires.fixup.fixed_node c.requires.fixup.below)

pub number_at-requires-clause-known : goal.number_at-requires-clause-known
number_at-requires-clause-known c =
    let there = row-there c.args.patched.now.live c.check.ensures.whole c.in-Node.node c.args.fixup.name.now c.in_ok-row.row c.in_ok-row.ensures.row in
    subst (λ (d : LiveTree Lent). c.in_ok-row.row < length d.properties.items) (sym c.in_ok-row.ensures.live) there.0

pub write-requires-clause-known : goal.write-requires-clause-known
write-requires-clause-known c =
    let there = row-there c.args.patched.now.live c.check.ensures.whole c.in-Node.node c.args.fixup.name.now c.in_ok-row.row c.in_ok-row.ensures.row in
    subst (λ (d : LiveTree Lent). c.in_ok-row.row < length d.properties.items) (sym c.in_ok-row.ensures.live) there.0

pub returns-in-Err-clause-step : goal.returns-in-Err-clause-step
returns-in-Err-clause-step c = λ x at.
    let s = c.args.patched.now in
    let t = c.take_site.new.patched in
    let a = site (node_path s.live c.in-Node.node) c.args.fixup.name.now c.args.offset in
    let fixed_node = subst (λ (t : FixedNode). IsFixedNode s.live.nodes.items (node_path s.live c.args.fixup.node) t) c.in-Node.is c.requires.fixup.fixed_node in
    let took = c.in_ok-row.ensures.step x at in
    let some = taken-value s t c.in_ok-row.ensures.live c.check.ensures took.0 took.2 c.in-Node.node c.args.fixup.name.now c.args.offset c.in_ok-row.row fixed_node.1 c.in_ok-row.ensures.row in
    subst (λ (q : Path). IsFault c.in-Err.error (raise_at c.args.shift (site q c.args.fixup.name.now c.args.offset) x)) (sym fixed_node.2)
    (raise-refused c.args.shift a x took.0 took.1 (value_at t c.in_ok-row.row) some c.number_at.result c.number_at.ensures c.in-Err.error c.in-Err.ensures)

pub returns-clause-step : goal.returns-clause-step
returns-clause-step c = λ x at.
    let s = c.args.patched.now in
    let t = c.take_site.new.patched in
    let a = site (node_path s.live c.in-Node.node) c.args.fixup.name.now c.args.offset in
    let b = to_be_bytes w32 c.in-Ok.number in
    let fixed_node = subst (λ (t : FixedNode). IsFixedNode s.live.nodes.items (node_path s.live c.args.fixup.node) t) c.in-Node.is c.requires.fixup.fixed_node in
    let took = c.in_ok-row.ensures.step x at in
    let some = taken-value s t c.in_ok-row.ensures.live c.check.ensures took.0 took.2 c.in-Node.node c.args.fixup.name.now c.args.offset c.in_ok-row.row fixed_node.1 c.in_ok-row.ensures.row in (
      record took.0 { properties = write_at a b (took.0).properties },
      ap (λ (q : Path). raise_at c.args.shift (site q c.args.fixup.name.now c.args.offset) x) fixed_node.2
          ∙ raise-done c.args.shift a x took.0 took.1 (value_at t c.in_ok-row.row) some c.number_at.result c.number_at.ensures b c.in-Ok.ensures,
      written-site s t c.in_ok-row.ensures.live c.check.ensures c.check-2.ensures took.0 took.2 c.in-Node.node c.args.fixup.name.now c.args.offset c.in_ok-row.row c.in_ok-row.ensures.row
          c.write.new.self c.in_ok-write.ensures.live b c.in_ok-write.ensures.values c.in_ok-write.ensures.marks,
    )
