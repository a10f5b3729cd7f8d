use Rattle.std.proofs.Common.{◌≡◌, ap, arith}
use Rattle.dt_tree.specs.NodeData.{NodeData, height_of}
use Rattle.dt_tree.specs.Private.Merging.{merged_siblings}
use Rattle.dt_tree.proofs.MergedSound.{height-merged}
use Rattle.dt_tree.proofs.node.Node.merged_here.Goals as goal

pub returns-clause-low : goal.returns-clause-low
returns-clause-low c =
    let e : height_of c.in_ok-merged.field-0.children ≡ height_of (merged_siblings c.args.self.now.children c.args.other.now.children) = ap (λ (b : NodeData). height_of b.children) c.in_ok-merged.ensures in
    omega (arith, e, height-merged c.args.self.now.children c.args.other.now.children, c.requires.low, c.height.ensures.value, c.if-height-room.false)
