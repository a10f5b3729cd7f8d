use Rattle.std.proofs.Common.{rules, ◌≡◌, ◌+◌, ◌-◌, ◌<◌, suc, length, sym, ap, ◌∙◌, arith}
use Rattle.std.proofs.lemmas.List.{get_or_default, length_push}
use Rattle.dt_live.specs.Rows.{no_row, row_at, path_of}
use Rattle.dt_live.proofs.Climbs.{path-step}
use Rattle.dt_live.proofs.live_tree.LiveTree.depth.Goals as goal

pub up-preserved : goal.up-preserved
up-preserved g c =
    let rows = c.args.self.now.nodes.items in
    let k = c.up.at - 1 in
    let at : c.up.at ≡ suc k = omega (arith, c.up-test.true) in
    let within : k < length rows = omega (arith, c.up-test.true, c.up.invariant.known) in
    let was : c.index.result.now ≡ row_at rows k = c.index.ensures ∙ get_or_default rows k c.index.result.now no_row within in
    let parent = ap (λ x. x.parent) was in
    let grown = c.requires.sound.grown k in
    let longer : length (path_of rows c.up.at) ≡ length (path_of rows c.index.result.now.parent) + 1 =
    ap (λ n. length (path_of rows n)) at ∙ ap length (path-step rows c.requires.sound.grown k)
    ∙ length_push (path_of rows (row_at rows k).parent) (row_at rows k).name.now
    ∙ ap (λ n. length (path_of rows n) + 1) (sym parent) in
    record {
      known = omega (arith, grown, parent);
      climbed = omega (arith, grown, parent, c.up.invariant.climbed);
      same = omega (arith, longer, c.up.invariant.same);
    }

pub up-init : goal.up-init
up-init c = search rules
