use Rattle.std.proofs.Common.{◌≡◌, ℕ, ◌-◌, suc, true, refl, sym, ap, ◌∙◌, arith}
use Rattle.std.proofs.lemmas.List.{get_or_default}
use Rattle.dt_source.specs.TreeMeaning.DtcEdits.{without_all_within}
use Rattle.dt_live.specs.declared.placed.place.Place.{Place}
use Rattle.dt_live.specs.Placed.Rows.{no_place, path_of, place_at}
use Rattle.dt_live.specs.Placed.Tables.{found_in, rows_in}
use Rattle.dt_live.specs.Placed.PlacedTrees.{dtc_tree}
use Rattle.std.specs.Vec.{with_item}
use Rattle.dt_live.proofs.PlacedLemmas.NodesRemoved.{marks-removed, sound-removed, tree-removed}
use Rattle.dt_live.proofs.PlacedLemmas.Owners.{standing-owner}
use Rattle.dt_live.proofs.placed.placed_tree.PlacedTree.remove_node.Goals as goal

pub returns-clause-sound : goal.returns-clause-sound
returns-clause-sound g c =
    let d = c.args.self.now in
    let i = c.args.node - 1 in
    let at : c.args.node ≡ suc i = omega (arith, c.requires.below) in
    let o = standing-owner (rows_in d.nodes) (found_in d.nodes) c.requires.sound.tables.nodes_table c.requires.sound.tables.grown c.requires.sound.tables.node_owners c.args.node c.requires.node.known c.requires.node.there i at in
    let y = c.index_mut.result.now in
    let ys : y ≡ place_at (rows_in d.nodes) i = c.index_mut.ensures.value ∙ get_or_default (rows_in d.nodes) i y no_place o.0 in
    let r : Place ℕ = record y { removed = true } in
    record { tables = sound-removed d c.requires.sound i o.0 o.1 r (ap (λ z. z.owner) ys) (ap (λ z. z.name.now) ys) (ap (λ z. z.made) ys) (ap (λ z. z.again) ys) refl; marks = marks-removed d c.requires.sound i o.0 o.1 r (ap (λ z. z.owner) ys) (ap (λ z. z.name.now) ys) (ap (λ z. z.made) ys) (ap (λ z. z.again) ys) refl; single = c.requires.sound.single; chained = c.requires.sound.chained; valued = c.requires.sound.valued }

pub returns-clause-tree : goal.returns-clause-tree
returns-clause-tree g c =
    let d = c.args.self.now in
    let i = c.args.node - 1 in
    let at : c.args.node ≡ suc i = omega (arith, c.requires.below) in
    let o = standing-owner (rows_in d.nodes) (found_in d.nodes) c.requires.sound.tables.nodes_table c.requires.sound.tables.grown c.requires.sound.tables.node_owners c.args.node c.requires.node.known c.requires.node.there i at in
    let y = c.index_mut.result.now in
    let ys : y ≡ place_at (rows_in d.nodes) i = c.index_mut.ensures.value ∙ get_or_default (rows_in d.nodes) i y no_place o.0 in
    let r : Place ℕ = record y { removed = true } in
    λ read. tree-removed d c.requires.sound i o.0 o.1 r (ap (λ z. z.owner) ys) (ap (λ z. z.name.now) ys) (ap (λ z. z.made) ys) (ap (λ z. z.again) ys) refl read (record d { nodes = record d.nodes { rows = with_item d.nodes.rows i r } }) refl refl refl refl refl refl
    ∙ ap (λ n. without_all_within (path_of (rows_in d.nodes) n) (dtc_tree read d)) (sym at)
