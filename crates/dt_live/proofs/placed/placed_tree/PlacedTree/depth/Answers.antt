use Rattle.std.proofs.Common.{◌≡◌, ◌+◌, ◌-◌, ◌<◌, suc, length, sym, ap, ◌∙◌, arith}
use Rattle.std.proofs.lemmas.List.{get_or_default, length_push}
use Rattle.dt_live.specs.Placed.Rows.{no_place, place_at, path_of}
use Rattle.dt_live.specs.Placed.Tables.{rows_in}
use Rattle.dt_live.proofs.PlacedLemmas.PlaceClimbs.{path-step}
use Rattle.dt_live.proofs.placed.placed_tree.PlacedTree.depth.Goals as goal

pub up-preserved : goal.up-preserved
up-preserved g c =
    let rows = rows_in c.args.self.now.nodes in
    let k = c.up.at - 1 in
    let at : c.up.at ≡ suc k = omega (arith, c.up-test.true) in
    let within : k < length rows = omega (arith, c.up-test.true, c.up.invariant.known) in
    let was : c.index.result.now ≡ place_at rows k = c.index.ensures ∙ get_or_default rows k c.index.result.now no_place within in
    let owner = ap (λ x. x.owner) was in
    let grown = c.requires.sound.tables.grown k in
    let longer : length (path_of rows c.up.at) ≡ length (path_of rows c.index.result.now.owner) + 1 =
    ap (λ n. length (path_of rows n)) at ∙ ap length (path-step rows c.requires.sound.tables.grown k)
    ∙ length_push (path_of rows (place_at rows k).owner) (place_at rows k).name.now
    ∙ ap (λ n. length (path_of rows n) + 1) (sym owner) in
    record {
      known = omega (arith, grown, owner);
      climbed = omega (arith, grown, owner, c.up.invariant.climbed);
      same = omega (arith, longer, c.up.invariant.same);
    }

pub up-init : goal.up-init
up-init g c = record { known = omega (arith, c.requires.node.known); climbed = omega arith; same = omega arith }
