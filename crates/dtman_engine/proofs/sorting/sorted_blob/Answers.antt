use Rattle.dtman_engine.proofs.SortLemmas.{written}
use Rattle.dtman_engine.proofs.sorting.sorted_blob.Goals as goal

pub returns-in-Ok-clause-made : goal.returns-in-Ok-clause-made
returns-in-Ok-clause-made c = written (λ blob. blob.items) c.args.tree c.in-Ok.sorted c.check.ensures c.in-Ok.ensures c.tree_blob.result c.tree_blob.ensures.made
