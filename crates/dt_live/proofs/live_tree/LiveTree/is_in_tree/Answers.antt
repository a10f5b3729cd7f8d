use Rattle.std.proofs.Common.{◌≡◌, ◌-◌, ◌<◌, suc, length, sym, ap, ◌∙◌, arith}
use Rattle.std.proofs.lemmas.List.{get_or_default}
use Rattle.dt_live.specs.Rows.{no_row, row_at, stands}
use Rattle.dt_live.proofs.Climbs.{stands-above}
use Rattle.dt_live.proofs.live_tree.LiveTree.is_in_tree.Goals as goal

pub up-preserved : goal.up-preserved
up-preserved g c =
    let rows = c.args.self.now.nodes.items in
    let k = c.up.at - 1 in
    let at : c.up.at ≡ suc k = omega (arith, c.up-test.true) in
    let within : k < length rows = omega (arith, c.up-test.true, c.up.invariant.known) in
    let was : c.index-row.result.now ≡ row_at rows k = c.index-row.ensures ∙ get_or_default rows k c.index-row.result.now no_row within in
    record {
      known = omega (arith, c.requires.sound.grown k, ap (λ x. x.parent) was);
      same = ap (λ x. stands rows x.parent) was ∙ stands-above rows c.requires.sound.grown c.up.at k at (sym (ap (λ x. x.removed) was) ∙ c.if-row.false) ∙ c.up.invariant.same;
    }
