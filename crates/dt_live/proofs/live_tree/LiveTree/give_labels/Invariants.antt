use Rattle.std.proofs.Common.{◌≡◌, map, drop}
use Rattle.dt_source.specs.TreeMeaning.Statements.{give_labels}
use Rattle.dt_live.specs.Rows.{HasSameChildStamps, HasSameNodes, HasSamePropertyStamps, IsLiveTree, node_path, state_of}
use Rattle.dt_live.proofs.live_tree.LiveTree.give_labels.Given as goal

abbrev pub invariant-loop-label : goal.invariant-loop-label
invariant-loop-label g l = record {
  sound : IsLiveTree l.self;
  kept : HasSameNodes l.fn.self l.self;
  children : HasSameChildStamps l.fn.self l.self;
  properties : HasSamePropertyStamps l.fn.self l.self;
  count : l.self.stamps ≡ l.fn.self.stamps;
  rest : give_labels (map (λ x. x.now) (drop l.label-index l.labels)) (node_path l.fn.self l.node) (state_of l.self)
      ≡ give_labels (map (λ x. x.now) l.labels) (node_path l.fn.self l.node) (state_of l.fn.self);
}
