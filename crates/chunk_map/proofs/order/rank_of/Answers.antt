use Rattle.std.proofs.Common.{leb, rules}
use Rattle.std.proofs.lemmas.List.Sorted.{IsPartitionPoint-from_clause, IsPartitionedBy-leb}
use Rattle.verdict.specs.declared.place.Chunk.{Chunk}
use Rattle.chunk_map.proofs.Ranks.{rank_from_point}
use Rattle.chunk_map.proofs.order.rank_of.Goals as goal

pub returns-clause-rank : goal.returns-clause-rank
returns-clause-rank c =
    let parted = IsPartitionedBy-leb (λ (chunk : Chunk). chunk.start) c.args.sorted.now c.args.start c.requires in
    rank_from_point c.args.start c.args.sorted.now c.partition_point.result c.partition_point.ensures.bound
    (IsPartitionPoint-from_clause (λ (chunk : Chunk). leb chunk.start c.args.start) _ _ c.partition_point.ensures.partitioned parted (λ a r q k. search rules))
