use Rattle.std.proofs.Common.{◌≡◌, ◌-◌, ◌<◌, ◌&&◌, false, true, suc, length, sym, ap, ◌∙◌, arith}
use Rattle.std.proofs.lemmas.List.{get_or_default}
use Rattle.dt_live.specs.Placed.Rows.{holds, is_made, no_place, place_at}
use Rattle.dt_live.specs.Placed.Tables.{rows_in}
use Rattle.dt_live.proofs.PlacedLemmas.PlaceClimbs.{holds-step}
use Rattle.dt_live.proofs.placed.placed_tree.PlacedTree.is_standing.Goals as goal

pub up-preserved : goal.up-preserved
up-preserved g c =
    let rows = rows_in c.args.self.now.nodes in
    let k = c.up.at - 1 in
    let at : c.up.at ≡ suc k = omega (arith, c.up-test.true) in
    let within : k < length rows = omega (arith, c.up-test.true, c.up.invariant.known) in
    let was : c.index.result.now ≡ place_at rows k = c.index.ensures ∙ get_or_default rows k c.index.result.now no_place within in
    let made : is_made rows (place_at rows k) ≡ true = ap (λ rs. is_made rs (place_at rs k)) (sym c.as_slice.ensures.value) ∙ sym c.is_row_made.ensures ∙ c.if-not-is_row_made.false in
    record {
      known = omega (arith, c.requires.sound.tables.grown k, ap (λ x. x.owner) was, within);
      same = ap (λ x. holds rows x.owner) was ∙ sym (ap (λ b. b && holds rows (place_at rows k).owner) made) ∙ sym (holds-step rows c.requires.sound.tables.grown k) ∙ ap (holds rows) (sym at) ∙ c.up.invariant.same;
    }

pub returns-then-not-is_row_made : goal.returns-then-not-is_row_made
returns-then-not-is_row_made g c =
    let rows = rows_in c.args.self.now.nodes in
    let k = c.up.at - 1 in
    let at : c.up.at ≡ suc k = omega (arith, c.up-test.true) in
    let gone : is_made rows (place_at rows k) ≡ false = ap (λ rs. is_made rs (place_at rs k)) (sym c.as_slice.ensures.value) ∙ sym c.is_row_made.ensures ∙ c.if-not-is_row_made.true in
    sym (ap (λ b. b && holds rows (place_at rows k).owner) gone) ∙ sym (holds-step rows c.requires.sound.tables.grown k) ∙ ap (holds rows) (sym at) ∙ c.up.invariant.same
