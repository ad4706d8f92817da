use Rattle.std.proofs.Common.{◌≡◌, ◌+◌, ◌≤◌, ◌++◌, length, take}
use Rattle.std.specs.List.{filter, filter_map}
use Rattle.live_index.specs.Table.{pairs_of}
use Rattle.touched_blocks.specs.Marks.{marked_by}
use Rattle.tree_change.specs.Rising.{is_free, risen_by, unmoved_by}
use Rattle.tree_change.proofs.rising.put_left.Given as goal

-- the pairs at the free places so far are put, at one look for each
abbrev pub invariant-loop-place : goal.invariant-loop-place
invariant-loop-place g l = record {
  old : l.old_blocks.items ≡ l.initial.old_blocks.items
      ++ filter_map (risen_by (pairs_of l.table) (marked_by l.changed)) (take l.place-index l.places);
  new : l.new_blocks.items ≡ l.initial.new_blocks.items
      ++ filter_map (unmoved_by (pairs_of l.table) (marked_by l.changed) (marked_by l.shifted)) (take l.place-index l.places);
  looks : l.steps ≤ l.initial.steps + length (filter (is_free (marked_by l.changed)) (take l.place-index l.places));
}
