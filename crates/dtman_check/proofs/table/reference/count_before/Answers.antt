use Rattle.std.proofs.Common.{rules}
use Rattle.std.proofs.lemmas.List.Sorted.{IsPartitionPoint-from_clause}
use Rattle.dtman_check.specs.Table.Private.Reference.{is_before}
use Rattle.dtman_check.proofs.OrderLemmas.{parted-before}
use Rattle.dtman_check.proofs.table.reference.count_before.Goals as goal

pub returns : goal.returns
returns c =
    IsPartitionPoint-from_clause (is_before c.args.compatible.now) _ _ c.partition_point.ensures.partitioned
    (parted-before c.args.rows.now c.args.compatible.now c.requires) (λ a r q k. search rules)
