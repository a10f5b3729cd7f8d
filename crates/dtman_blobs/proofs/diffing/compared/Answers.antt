use Rattle.std.proofs.Common.{length}
use Rattle.dtman_blobs.specs.Difference.Comparison.{is_same}
use Rattle.dtman_blobs.proofs.SameLemmas.{both-same}
use Rattle.dtman_blobs.proofs.diffing.compared.Goals as goal

pub returns : goal.returns
returns c =
    both-same c.args.sameness c.args.first.now c.args.second.now (is_same c.in_ok-comparison.comparison) (length c.in_ok-moved.moved.items) c.in_ok-comparison.ensures c.in_ok-moved.ensures
