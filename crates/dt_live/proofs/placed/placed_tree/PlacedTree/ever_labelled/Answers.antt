use Rattle.std.proofs.Common.{◌≡◌, ◌<◌, ℕ, map, take, length, sym, ap, ◌∙◌, subst, arith}
use Rattle.std.proofs.lemmas.List.{get_or_default}
use Rattle.dt_source.specs.TreeMeaning.Paths.{Path, same_path}
use Rattle.dt_source.specs.TreeMeaning.Places.{has_place}
use Rattle.dt_live.specs.Placed.PlacedTrees.{IsOwner, label_seen, node_path}
use Rattle.dt_live.specs.Placed.Rows.{no_place, place_at}
use Rattle.dt_live.specs.Placed.Standing.{or_at}
use Rattle.dt_live.specs.Placed.Tables.{found_in, rows_in}
use Rattle.dt_live.proofs.PlacedLemmas.NodesMarked.{labelled-more, same-marks}
use Rattle.dt_live.proofs.placed.placed_tree.PlacedTree.ever_labelled.Goals as goal

pub note-requires-clause-node : goal.note-requires-clause-node
note-requires-clause-node g c =
    let d = c.args.self.now in
    let i = c.loop-row.row in
    let within : i < length (rows_in d.labels) = omega (arith, c.loop-row-test.true, c.len-row-end.ensures) in
    let was : c.index.result.now ≡ place_at (rows_in d.labels) i = c.index.ensures ∙ get_or_default (rows_in d.labels) i c.index.result.now no_place within in
    subst (λ (n : ℕ). IsOwner (rows_in d.nodes) (found_in d.nodes) n) (ap (λ x. x.owner) (sym was)) (c.requires.sound.tables.label_owners i)

pub loop-row-preserved : goal.loop-row-preserved
loop-row-preserved g c =
    let d = c.args.self.now in
    let i = c.loop-row.row in
    let within : i < length (rows_in d.labels) = omega (arith, c.loop-row-test.true, c.len-row-end.ensures) in
    let was : c.index.result.now ≡ place_at (rows_in d.labels) i = c.index.ensures ∙ get_or_default (rows_in d.labels) i c.index.result.now no_place within in
    let before : Path → _ = λ q. has_place (λ l. same_path q l.path) (map (label_seen (rows_in d.nodes)) (take i (rows_in d.labels))) in
    same-marks _ _ c.args.shown.now.live c.note.new.marked.items
    (λ p. ap (λ x. or_at (node_path d x.owner) before p) was ∙ labelled-more d i within p)
    (c.note.ensures.marks before c.loop-row.invariant)
