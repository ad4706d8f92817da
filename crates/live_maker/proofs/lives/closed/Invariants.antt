use Rattle.std.proofs.Common.{◌≡◌, reverse}
use Rattle.tree_laws.specs.LivePairs.{greater_key}
use Rattle.live_maker.specs.Closing.{left_of}
use Rattle.live_maker.specs.Opened.{last_below}
use Rattle.live_maker.proofs.lives.closed.Given as goal

-- what is still to be handed up and what was come to the whole, and the same stays behind
abbrev pub invariant-loop-one : goal.invariant-loop-one
invariant-loop-one l = record {
  last : greater_key (last_below l.live (reverse l.behind.items)) l.last
      ≡ greater_key (last_below l.live (reverse l.initial.behind.items)) l.live.last;
  left : left_of l.live (reverse l.behind.items) ≡ left_of l.live (reverse l.initial.behind.items);
}

abbrev pub decreases-loop-one : goal.decreases-loop-one
decreases-loop-one l = goal.left-loop-one l
