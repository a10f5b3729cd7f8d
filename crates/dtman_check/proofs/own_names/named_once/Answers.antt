-- The reservations of a tree are none that end the list.
use Rattle.std.proofs.Common.{ℕ, List, ap, sym, ◌∙◌}
use Rattle.dt_tree.specs.TreeData.{TreeData, is_reserve}
use Rattle.dtman_check.specs.OwnNames.{once_tree}
use Rattle.dtman_check.proofs.OwnNamesLemmas.{same-reserves}
use Rattle.dtman_check.proofs.own_names.named_once.Goals as goal

pub returns : goal.returns
returns c = c.in-Ok.ensures.tree ∙ same-reserves c.args.tree c.into_parts-reserves.result.0.items c.into_parts-reserves.result.1 c.into_parts-reserves.result.2 c.in_ok-root.root c.check.ensures c.into_parts-reserves.ensures c.in_ok-root.ensures
