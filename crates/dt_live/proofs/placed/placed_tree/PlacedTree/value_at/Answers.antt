use Rattle.std.proofs.Common.{◌≡◌, length, ap, ◌∙◌, arith}
use Rattle.std.proofs.lemmas.List.{get_or_default}
use Rattle.dt_live.specs.Placed.Rows.{no_place, place_at}
use Rattle.dt_live.specs.Placed.Tables.{found_in, rows_in}
use Rattle.dt_live.proofs.PlacedLemmas.Holders.{owner-known}
use Rattle.dt_live.proofs.placed.placed_tree.PlacedTree.value_at.Goals as goal

pub is_made-requires : goal.is_made-requires
is_made-requires g c =
    let d = c.args.self.now in
    let rows = rows_in d.properties in
    let was : c.index.result.now ≡ place_at rows c.args.row = c.index.ensures ∙ get_or_default rows c.args.row c.index.result.now no_place c.requires.known in
    omega (arith, owner-known (rows_in d.nodes) (found_in d.nodes) (place_at rows c.args.row).owner (c.requires.sound.tables.property_owners c.args.row), ap (λ x. x.owner) was, ap length c.as_slice.ensures.value)
