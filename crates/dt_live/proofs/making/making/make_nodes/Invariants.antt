use Rattle.std.proofs.Common.{◌≡◌, ◌-◌, length}
use Rattle.dt_live.specs.Making.Private.Walks.{IsWalk}
use Rattle.dt_live.proofs.making.making.make_nodes.Given as goal

abbrev pub invariant-loop-walk : goal.invariant-loop-walk
invariant-loop-walk g l =
    let values = g.M.Values in
    record {
      ready : values.is_ready l.values;
      made : values.made l.values ≡ values.made l.fn.values;
      walk : IsWalk l.live l.in_preorder (values.made l.fn.values) (values.bytes_of l.values) l.walk;
    }

abbrev pub decreases-loop-walk : goal.decreases-loop-walk
decreases-loop-walk g l = length l.in_preorder.nodes.items - l.walk.node
