use Rattle.std.proofs.Common.{List, ap, sym, ◌∙◌}
use Rattle.std.specs.Option.{option_map}
use Rattle.std.proofs.lemmas.List.{at_drop_all}
use Rattle.dt_tree.specs.NodeData.{NodeData, siblings}
use Rattle.dt_tree.specs.Path.{behind_slashes}
use Rattle.dt_tree.specs.Private.PhandleWalk.{unreserved, path_among}
use Rattle.dt_tree.proofs.node.Node.path_in_tree.Goals as goal

pub returns : goal.returns
returns c = ap (option_map behind_slashes) (sym (at_drop_all (λ (l : List NodeData). path_among (unreserved (siblings l)) c.args.phandle) _ _ c.loop-top-test.false) ∙ c.loop-top.invariant)
