use Rattle.std.proofs.Common.{◌≡◌, List, ◌++◌, length, map}
use Rattle.std.specs.Vec.Iter.{into_iter_items, into_iter_len}
use Rattle.dt_tree.specs.NodeData.{NodeData, node_size, siblings}
use Rattle.dt_tree.specs.NodeView.{name_bytes}
use Rattle.dtman_check.specs.OwnNames.{once_node}
use Rattle.dtman_check.proofs.own_names.+node_once.Given as goal

abbrev pub decreases-node_once : goal.decreases-node_once
decreases-node_once l = node_size l.node

abbrev pub invariant-loop-child : goal.invariant-loop-child
invariant-loop-child l = record {
  next : (goal.iterator-loop-child).can_next l.child-iterator;
  finite : (goal.iterator-loop-child).is_finite l.child-iterator;
  named : name_bytes l.name ≡ l.fn.node.name;
  whole : siblings (into_iter_items l.initial.child-iterator) ≡ l.fn.node.children;
  counted : into_iter_len l.child-iterator ≡ length (into_iter_items l.child-iterator);
  answered : (done : List NodeData) × (l.answers.items ≡ map once_node done) × (done ++ into_iter_items l.child-iterator ≡ into_iter_items l.initial.child-iterator);
}
