use Rattle.std.proofs.Common.{rules}
use Rattle.std.proofs.lemmas.List.Elements.{filter_from_retain}
use Rattle.dt_tree.specs.TreeData.{is_reserve}
use Rattle.dt_tree.proofs.tree.drop_ends.Goals as goal

pub returns : goal.returns
returns c = filter_from_retain _ is_reserve (λ p x b q h. search rules) _ _ _ c.retain.ensures.filtered
