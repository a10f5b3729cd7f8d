use Rattle.std.proofs.Common.{rules, ◌-◌, ◌<◌, length, sym, arith}
use Rattle.dt_live.specs.Flattened.{lists}
use Rattle.dt_source.specs.OverlayMeaning.Applied.{symbol_path}
use Rattle.dt_source.specs.OverlayMeaning.Texts.{ended_path}
use Rattle.dt_overlay.specs.Fixup.PatchedOverlay.{patched_lists}
use Rattle.dt_overlay.proofs.SymbolLeads.{is-below, leads-none, leads-nowhere, leads-there, none-matches}
use Rattle.dt_overlay.proofs.symbol_target.symbol_target.Goals as goal

pub returns-in_err-node : goal.returns-in_err-node
returns-in_err-node c base are =
    none-matches base (symbol_path (lists base) (patched_lists c.args.patched.now) (ended_path c.args.value.now)) c.from_residual-in_err-node.result c.from_residual-in_err-node.ensures
    (leads-nowhere base c.args.patched.now c.check.ensures.whole c.in_ok-fragment.fragment.now c.in_ok-fragment.rest.now _ _ c.in_ok-fragment.ensures c.in_ok-ended_path.ensures.path (sym c.in_err-node.ensures))

pub overflow_sub-node : goal.overflow_sub-node
overflow_sub-node c = (is-below c.args.patched.now.live c.check.ensures.whole c.in_ok-fragment.fragment.now c.in_ok-node.node (sym c.in_ok-node.ensures)).0

pub bounds-targets-node : goal.bounds-targets-node
bounds-targets-node c =
    let b = is-below c.args.patched.now.live c.check.ensures.whole c.in_ok-fragment.fragment.now c.in_ok-node.node (sym c.in_ok-node.ensures) in
    omega (arith, b.0, b.1, c.requires.count)

pub offset_bounds-targets-node : goal.offset_bounds-targets-node
offset_bounds-targets-node c =
    let b = is-below c.args.patched.now.live c.check.ensures.whole c.in_ok-fragment.fragment.now c.in_ok-node.node (sym c.in_ok-node.ensures) in
    let lt : c.in_ok-node.node - 1 < length c.args.targets.now = omega (arith, b.0, b.1, c.requires.count) in
    search rules

pub returns-in_err-target : goal.returns-in_err-target
returns-in_err-target c base are =
    none-matches base (symbol_path (lists base) (patched_lists c.args.patched.now) (ended_path c.args.value.now)) c.from_residual-in_err-target.result c.from_residual-in_err-target.ensures
    (leads-none base c.args.patched.now c.check.ensures.whole c.in_ok-fragment.fragment.now c.in_ok-fragment.rest.now _ _ c.in_ok-fragment.ensures c.in_ok-ended_path.ensures.path
    c.args.targets.now are c.in_ok-node.node (sym c.in_ok-node.ensures) c.in_err-target.was)

pub returns : goal.returns
returns c base are =
    leads-there base c.args.patched.now c.check.ensures.whole c.in_ok-fragment.fragment.now c.in_ok-fragment.rest.now _ _ c.in_ok-fragment.ensures c.in_ok-ended_path.ensures.path
    c.args.targets.now are c.in_ok-node.node (sym c.in_ok-node.ensures) c.in_ok-target.target c.in_ok-target.was
