use Rattle.std.proofs.Common.{leb, arith, rules}
use Rattle.std.proofs.lemmas.List.Sorted.{IsPartitionPoint-from_clause, IsPartitionedBy-leb}
use Rattle.fab_equations.proofs.Located.{last_found}
use Rattle.fab_equations.proofs.lookups.last_at_most.Goals as goal

pub overflow_sub-result : goal.overflow_sub-result
overflow_sub-result c =
    let parted = IsPartitionedBy-leb (λ n. n) c.args.firsts.now c.args.place c.requires.rises in
    let point = IsPartitionPoint-from_clause (λ n. leb n c.args.place) _ _ c.partition_point.ensures.partitioned parted (λ a r q k. search rules) in
    (last_found (λ n. n) c.args.firsts.now c.args.place c.partition_point.result c.partition_point.ensures.bound point 0 c.requires.starts (omega arith)).0

pub returns : goal.returns
returns c =
    let parted = IsPartitionedBy-leb (λ n. n) c.args.firsts.now c.args.place c.requires.rises in
    let point = IsPartitionPoint-from_clause (λ n. leb n c.args.place) _ _ c.partition_point.ensures.partitioned parted (λ a r q k. search rules) in
    (last_found (λ n. n) c.args.firsts.now c.args.place c.partition_point.result c.partition_point.ensures.bound point 0 c.requires.starts (omega arith)).1
