use Rattle.std.proofs.Common.{◌≡◌, not, ◌||◌, take}
use Rattle.std.specs.List.{count_by}
use Rattle.live_index.specs.declared.live.Live.{Live}
use Rattle.touched_blocks.specs.Touched.{stays_in_place, touches_block, written_in}
use Rattle.commit_judge.proofs.hot.count_hot.Given as goal

-- those among the pairs so far are counted
abbrev pub invariant-loop-live : goal.invariant-loop-live
invariant-loop-live l =
    l.hot ≡ count_by (λ (live : Live).
    touches_block (written_in l.cache) l.old l.nodesize l.end live.address || not (stays_in_place l.old l.new l.nodesize l.end live.address))
    (take l.live-index l.lives)
