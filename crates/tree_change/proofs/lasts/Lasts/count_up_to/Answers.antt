use Rattle.std.proofs.Common.{leb, rules}
use Rattle.std.proofs.lemmas.List.Sorted.{IsPartitionPoint-from_clause}
use Rattle.tree_change.specs.declared.lasts.LastKey.{LastKey}
use Rattle.tree_change.proofs.LastKeys.{parted_by}
use Rattle.tree_change.proofs.lasts.Lasts.count_up_to.Goals as goal

pub returns-clause-parted : goal.returns-clause-parted
returns-clause-parted c =
    parted_by c.args.address _ c.args.self.now.keys.items c.partition_point.result c.deref.ensures.value c.args.self.now.order
    (λ rise. IsPartitionPoint-from_clause (λ (one : LastKey). leb one.address c.args.address) _ _ c.partition_point.ensures.partitioned rise
    (λ a r q k. search rules))
