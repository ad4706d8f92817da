use Rattle.std.proofs.Common.{◌≡◌, ℕ, take}
use Rattle.touched_blocks.specs.Marks.{in_lives, marked_by}
use Rattle.tree_change.proofs.rising.places_of.Given as goal

-- those so far are marked
abbrev pub invariant-loop-live : goal.invariant-loop-live
invariant-loop-live l = (tree address : ℕ) → marked_by l.marks tree address ≡ in_lives (take l.live-index l.lives) tree address
