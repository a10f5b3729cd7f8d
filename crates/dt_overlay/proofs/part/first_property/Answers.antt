use Rattle.std.proofs.Common.{ltb, ltb-true, ltb-false, arith, rules}
use Rattle.std.proofs.lemmas.List.Sorted.{IsNonDecreasingBy-from_default, IsPartitionPoint-from_clause, IsPartitionedBy-ltb}
use Rattle.dt_live.specs.Rows.{no_property}
use Rattle.dt_overlay.proofs.part.first_property.Goals as goal

pub returns : goal.returns
returns c =
    let parted = IsPartitionedBy-ltb (λ r. r.node) c.args.rows.now c.args.node (IsNonDecreasingBy-from_default (λ r. r.node) c.args.rows.now no_property c.requires.ordered) in
    let point = IsPartitionPoint-from_clause (λ r. ltb r.node c.args.node) _ _ c.partition_point.ensures.partitioned parted (λ a r q k. search rules) in
    record {
      known = c.partition_point.ensures.bound;
      before = λ j below. ltb-true _ _ (point.0 j no_property (omega arith) below);
      behind = λ j from below. ltb-false _ _ (point.1 j no_property from below);
    }
