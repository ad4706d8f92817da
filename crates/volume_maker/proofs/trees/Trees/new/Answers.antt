use Rattle.std.proofs.Common.{◌<◌, ◌≤◌, arith}
use Rattle.volume_maker.specs.declared.trees.Trees.{Trees}
use Rattle.volume_maker.proofs.Remaking.{first_blocks}
use Rattle.volume_maker.proofs.trees.Trees.new.Goals as goal

pub returns-clause-in_chunk : goal.returns-clause-in_chunk
returns-clause-in_chunk c =
    let trees : Trees = record {
      alloc = c.args.alloc;
      roots = c.in_ok-base_tree.field-0;
      extents = c.in_ok-base_tree-2.field-0;
      files = c.in_ok-base_tree-3.field-0;
      sums = c.in_ok-base_tree-4.field-0;
      subvolumes = c.new.result;
    } in
    first_blocks (λ b. b.number < 512) trees (omega arith) c.in_ok-base_tree-3.ensures.in_chunk c.in_ok-base_tree-4.ensures.in_chunk
    c.new.ensures.items c.in_ok-base_tree.ensures.in_chunk c.in_ok-base_tree-2.ensures.in_chunk

pub returns-clause-first : goal.returns-clause-first
returns-clause-first c =
    let trees : Trees = record {
      alloc = c.args.alloc;
      roots = c.in_ok-base_tree.field-0;
      extents = c.in_ok-base_tree-2.field-0;
      files = c.in_ok-base_tree-3.field-0;
      sums = c.in_ok-base_tree-4.field-0;
      subvolumes = c.new.result;
    } in
    first_blocks (λ b. b.generation ≤ 1) trees (omega arith) c.in_ok-base_tree-3.ensures.first c.in_ok-base_tree-4.ensures.first
    c.new.ensures.items c.in_ok-base_tree.ensures.first c.in_ok-base_tree-2.ensures.first
