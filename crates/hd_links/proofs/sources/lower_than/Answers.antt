use Rattle.std.proofs.Common.{arith, rules}
use Rattle.std.proofs.Math.Dec.{ltb}
use Rattle.std.proofs.lemmas.Bool.{ltb-false, ltb-true}
use Rattle.std.proofs.lemmas.List.Sorted.{IsPartitionPoint-from_clause, IsPartitionedBy-ltb}
use Rattle.hd_links.specs.Sources.{source_number}
use Rattle.hd_links.proofs.sources.lower_than.Goals as goal

pub returns : goal.returns
returns c =
    let parted = IsPartitionedBy-ltb source_number _ c.args.from.0 c.requires in
    let point = IsPartitionPoint-from_clause (λ l. ltb (source_number l) c.args.from.0) _ _
    c.partition_point.ensures.partitioned parted (λ a r q k. search rules) in record {
      within = omega arith;
      low = λ k d lt. ltb-true _ _ (point.0 k d (omega arith) lt);
      high = λ k d le lt. ltb-false _ _ (point.1 k d le lt);
    }
