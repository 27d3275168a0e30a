use Rattle.hd_dep.proofs.Basics.{IsPartitionPoint-from_clause, IsPartitionedBy-leb, arith, leb, leb-false, leb-true, rules, target_of}
use Rattle.hd_dep.proofs.waiting.end_of.Goals as goal

pub returns-clause-low : goal.returns-clause-low
returns-clause-low c =
    let parted = IsPartitionedBy-leb target_of _ c.args.target.0 c.requires in
    let point = IsPartitionPoint-from_clause (λ w. leb (target_of w) c.args.target.0) _ _
    c.partition_point.ensures.partitioned parted (λ a r q k. search rules) in
    λ k d lt. leb-true _ _ (point.0 k d (omega arith) lt)

pub returns-clause-high : goal.returns-clause-high
returns-clause-high c =
    let parted = IsPartitionedBy-leb target_of _ c.args.target.0 c.requires in
    let point = IsPartitionPoint-from_clause (λ w. leb (target_of w) c.args.target.0) _ _
    c.partition_point.ensures.partitioned parted (λ a r q k. search rules) in
    λ k d le lt. leb-false _ _ (point.1 k d le lt)
