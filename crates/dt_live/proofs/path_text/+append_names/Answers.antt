use Rattle.std.proofs.Common.{◌≡◌, ◌-◌, ◌<◌, suc, length, arith}
use Rattle.dt_live.proofs.BlankRows.{blank_row}
use Rattle.dt_live.proofs.PathText.{names-more}
use Rattle.dt_live.proofs.path_text.+append_names.Goals as goal

pub returns : goal.returns
returns t c =
    let rows = c.args.nodes.now in
    let k = c.args.node - 1 in
    let at : c.args.node ≡ suc k = omega (arith, c.if-node-eq0.false) in
    let within : k < length rows = omega (arith, c.if-node-eq0.false, c.requires.known) in
    names-more rows c.requires.grown c.args.node k blank_row at within c.args.value.now.items c.append_names.new.value.items c.push.new.self.items c.extend_from_slice.new.self.items
    c.in_ok-append_names.ensures c.in_ok-push.ensures.items c.in_ok-extend_from_slice.ensures.items
