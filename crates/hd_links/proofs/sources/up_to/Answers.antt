use Rattle.std.proofs.Common.{arith, leb, rules}
use Rattle.std.proofs.lemmas.Bool.{leb-false, leb-true}
use Rattle.std.proofs.lemmas.List.Sorted.{IsPartitionPoint-from_clause, IsPartitionedBy-leb}
use Rattle.hd_links.specs.Sources.{source_number}
use Rattle.hd_links.proofs.sources.up_to.Goals as goal

pub returns : goal.returns
returns c =
    let parted = IsPartitionedBy-leb source_number _ c.args.from.0 c.requires in
    let point = IsPartitionPoint-from_clause (λ l. leb (source_number l) c.args.from.0) _ _
    c.partition_point.ensures.partitioned parted (λ a r q k. search rules) in record {
      within = omega arith;
      low = λ k d lt. let le = leb-true _ _ (point.0 k d (omega arith) lt) in omega (arith, le);
      high = λ k d le lt. let over = leb-false _ _ (point.1 k d le lt) in omega (arith, over);
    }
