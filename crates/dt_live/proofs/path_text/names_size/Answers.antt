use Rattle.std.proofs.Common.{◌≡◌, ◌-◌, ◌<◌, suc, length, arith}
use Rattle.dt_live.proofs.BlankRows.{blank_row}
use Rattle.dt_live.proofs.PathText.{parent-below, size-up, names-counted}
use Rattle.dt_live.proofs.path_text.names_size.Goals as goal

pub up-preserved : goal.up-preserved
up-preserved c =
    let rows = c.args.nodes.now in
    let k = c.up.at - 1 in
    let at : c.up.at ≡ suc k = omega (arith, c.up-test.true) in
    let within : k < length rows = omega (arith, c.up-test.true, c.up.invariant.known) in
    record {
      fits = omega (arith, c.saturating_add-size.ensures);
      known = omega (arith, within, parent-below rows c.requires.grown c.up.at k blank_row at within);
      size = size-up rows c.requires.grown c.up.at k blank_row at within c.up.size c.saturating_add.result c.saturating_add-size.result _ c.saturating_add.ensures c.saturating_add-size.ensures c.up.invariant.size;
    }

pub returns : goal.returns
returns c = names-counted c.args.nodes.now c.requires.grown c.up.at c.up.size _ c.up-test.false c.up.invariant.fits c.up.invariant.size
