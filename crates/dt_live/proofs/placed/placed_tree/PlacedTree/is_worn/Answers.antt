use Rattle.std.proofs.Common.{◌≡◌, ◌&&◌, false, true, length, sym, ap, ap₂, ◌∙◌, arith}
use Rattle.std.proofs.lemmas.List.{get_or_default}
use Rattle.dt_live.specs.Placed.Rows.{holds, is_made, no_place, place_at}
use Rattle.dt_live.specs.Placed.Tables.{found_in, rows_in}
use Rattle.dt_live.proofs.PlacedLemmas.Holders.{owner-known}
use Rattle.dt_live.proofs.placed.placed_tree.PlacedTree.is_worn.Goals as goal

pub is_made-requires : goal.is_made-requires
is_made-requires g c =
    let d = c.args.self.now in
    let rows = rows_in d.labels in
    let was : c.index.result.now ≡ place_at rows c.args.row = c.index.ensures ∙ get_or_default rows c.args.row c.index.result.now no_place c.requires.known in
    omega (arith, owner-known (rows_in d.nodes) (found_in d.nodes) (place_at rows c.args.row).owner (c.requires.sound.tables.label_owners c.args.row), ap (λ x. x.owner) was, ap length c.as_slice.ensures.value)

pub is_standing-requires-clause-known : goal.is_standing-requires-clause-known
is_standing-requires-clause-known g c =
    let d = c.args.self.now in
    let rows = rows_in d.labels in
    let was : c.index.result.now ≡ place_at rows c.args.row = c.index.ensures ∙ get_or_default rows c.args.row c.index.result.now no_place c.requires.known in
    omega (arith, owner-known (rows_in d.nodes) (found_in d.nodes) (place_at rows c.args.row).owner (c.requires.sound.tables.label_owners c.args.row), ap (λ x. x.owner) was)

pub returns-then-not-is_made : goal.returns-then-not-is_made
returns-then-not-is_made g c =
    let d = c.args.self.now in
    let rows = rows_in d.labels in
    let nodes = rows_in d.nodes in
    let was : c.index.result.now ≡ place_at rows c.args.row = c.index.ensures ∙ get_or_default rows c.args.row c.index.result.now no_place c.requires.known in
    let gone : is_made nodes (place_at rows c.args.row) ≡ false = ap₂ (λ ns r. is_made ns r) (sym c.as_slice.ensures.value) (sym was) ∙ sym c.is_made.ensures ∙ c.if-not-is_made.true in
    sym (ap (λ b. b && holds nodes (place_at rows c.args.row).owner) gone)

pub returns : goal.returns
returns g c =
    let d = c.args.self.now in
    let rows = rows_in d.labels in
    let nodes = rows_in d.nodes in
    let was : c.index.result.now ≡ place_at rows c.args.row = c.index.ensures ∙ get_or_default rows c.args.row c.index.result.now no_place c.requires.known in
    let made : is_made nodes (place_at rows c.args.row) ≡ true = ap₂ (λ ns r. is_made ns r) (sym c.as_slice.ensures.value) (sym was) ∙ sym c.is_made.ensures ∙ c.if-not-is_made.false in
    c.is_standing.ensures ∙ ap (λ x. holds nodes x.owner) was ∙ sym (ap (λ b. b && holds nodes (place_at rows c.args.row).owner) made)
