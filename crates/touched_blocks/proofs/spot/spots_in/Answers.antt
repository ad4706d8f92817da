use Rattle.std.proofs.Common.{◌+◌, ◌-◌, leb, ltb, length, drop, rules, arith}
use Rattle.std.proofs.lemmas.Grind.{common_steps}
use Rattle.std.proofs.lemmas.List.{take_all}
use Rattle.std.proofs.lemmas.List.Sorted.{IsPartitionPoint-from_clause}
use Rattle.touched_blocks.specs.declared.spot.Spot.{Spot}
use Rattle.touched_blocks.proofs.Finding.{begins_parted, ends_parted, found_fewer, spots_found}
use Rattle.touched_blocks.proofs.spot.spots_in.Goals as goal

pub returns-clause-any : goal.returns-clause-any
returns-clause-any c =
    λ o low high. spots_found c.args.spots.now _ c.args.from c.args.len c.partition_point-first.result c.partition_point-count.result o
    (take_all (length c.args.spots.now - c.partition_point-first.result) (drop c.partition_point-first.result c.args.spots.now) (grind (arith, common_steps)))
    (IsPartitionPoint-from_clause (λ (s : Spot). leb (s.at + s.len) c.args.from) _ _ c.partition_point-first.ensures.partitioned
    (ends_parted c.args.spots.now c.args.from c.requires) (λ a r q k. search rules))
    (IsPartitionPoint-from_clause (λ (s : Spot). ltb s.at (c.args.from + c.args.len)) _ _ c.partition_point-count.ensures.partitioned
    (begins_parted c.args.spots.now c.partition_point-first.result (length c.args.spots.now - c.partition_point-first.result) (c.args.from + c.args.len) c.requires)
    (λ a r q k. search rules))
    low high

pub returns-clause-fewer : goal.returns-clause-fewer
returns-clause-fewer c = λ test.
    found_fewer test c.args.spots.now c.partition_point-first.result (length c.args.spots.now - c.partition_point-first.result) c.partition_point-count.result
