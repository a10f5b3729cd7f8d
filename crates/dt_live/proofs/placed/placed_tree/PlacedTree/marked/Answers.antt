use Rattle.std.proofs.Common.{◌<◌, ℕ, map, reverse, take, length, sym, ap, ◌∙◌, subst, arith}
use Rattle.std.specs.Prelude.{slice_index_or}
use Rattle.dt_source.specs.TreeMeaning.Paths.{is_listed}
use Rattle.dt_live.specs.Placed.PlacedTrees.{IsOwner, node_path}
use Rattle.dt_live.specs.Placed.Standing.{or_at}
use Rattle.dt_live.specs.Placed.Tables.{found_in, rows_in}
use Rattle.dt_live.proofs.PlacedLemmas.NodesMarked.{marked-more, same-marks}
use Rattle.dt_live.proofs.placed.placed_tree.PlacedTree.marked.Goals as goal

pub note-requires-clause-node : goal.note-requires-clause-node
note-requires-clause-node g c =
    subst (λ (n : ℕ). IsOwner (rows_in c.args.self.now.nodes) (found_in c.args.self.now.nodes) n)
    (ap (λ xs. slice_index_or xs c.loop-node.node-index 0) (sym c.as_slice-node-items.ensures.value))
    (c.requires.sound.marks c.loop-node.node-index)

pub loop-node-preserved : goal.loop-node-preserved
loop-node-preserved g c =
    let d = c.args.self.now in
    let i = c.loop-node.node-index in
    let within : i < length d.marks.items = omega (arith, c.loop-node-test.true, ap length c.as_slice-node-items.ensures.value) in
    same-marks _ _ c.args.shown.now.live c.note.new.marked.items
    (λ p. ap (λ n. or_at (node_path d n) (λ q. is_listed q (map (node_path d) (reverse (take i d.marks.items)))) p) (ap (λ xs. slice_index_or xs i 0) c.as_slice-node-items.ensures.value) ∙ marked-more d i within p)
    (c.note.ensures.marks (λ q. is_listed q (map (node_path d) (reverse (take i d.marks.items)))) c.loop-node.invariant)
