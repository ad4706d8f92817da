use Rattle.std.proofs.Common.{◌≡◌, ◌++◌, not, take, if◌then◌else◌}
use Rattle.std.specs.Prelude.{Some, None}
use Rattle.std.specs.List.{filter_map}
use Rattle.live_index.specs.declared.live.Live.{Live}
use Rattle.touched_blocks.specs.Marks.{marked_by}
use Rattle.tree_change.specs.Rising.{is_marked}
use Rattle.tree_change.proofs.rising.split.Given as goal

-- those so far are put, the marked ones and the rest
abbrev pub invariant-loop-live : goal.invariant-loop-live
invariant-loop-live l = record {
  marked : l.into.items ≡ l.initial.into.items
      ++ filter_map (λ (live : Live). if is_marked (marked_by l.marks) live then Some live else None) (take l.live-index l.lives);
  others : l.rest.items ≡ l.initial.rest.items
      ++ filter_map (λ (live : Live). if not (is_marked (marked_by l.marks) live) then Some live else None) (take l.live-index l.lives);
}
